use Rattle.host_io.proofs.Names.{strip_text}
use Rattle.host_io.proofs.memory_files.text_behind.Goals as goal

pub returns : goal.returns
returns c = strip_text c.args.front.now c.args.text.now c.strip_prefix.result c.strip_prefix.ensures.cases
