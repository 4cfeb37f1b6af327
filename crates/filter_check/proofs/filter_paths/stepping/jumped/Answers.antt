use Rattle.std.proofs.Common.{refl}
use Rattle.filter_check.proofs.Steps.{jump_leads}
use Rattle.filter_check.proofs.filter_paths.stepping.jumped.Goals as goal

pub returns : goal.returns
returns c = jump_leads c.args.insns.now c.requires.program c.args.state c.args.insn c.requires.found _ c.requires.code refl refl refl
