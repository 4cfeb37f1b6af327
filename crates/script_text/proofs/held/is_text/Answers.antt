use Rattle.script_text.proofs.Texts.{is_text}
use Rattle.script_text.proofs.held.is_text.Goals as goal

pub returns : goal.returns
returns c = is_text c.args.text.now c.as_bytes.result.now c.as_bytes.ensures.value c.utf8.text c.bytes_fit.ensures
