use Rattle.abs_path.proofs.Stripped.{strip_text}
use Rattle.abs_path.proofs.path.prefix.after.Goals as goal

pub returns : goal.returns
returns c = strip_text c.args.front.now c.args.text.now c.strip_prefix.result c.strip_prefix.ensures.cases
