use Rattle.std.proofs.Common.{subst}
use Rattle.filter_check.specs.filter_paths.Walked.{TellsPaths}
use Rattle.filter_check.specs.Finding.{too_many, wanted_by}
use Rattle.filter_check.proofs.Found.{memory_found}
use Rattle.filter_check.proofs.checking.compared.Goals as goal

pub returns-in_err-all_ends : goal.returns-in_err-all_ends
returns-in_err-all_ends c =
    record { finds = memory_found c.args.insns.now (wanted_by c.args.rules.now) c.from_residual.result c.from_residual.ensures.1 }

pub returns-in-None : goal.returns-in-None
returns-in-None c = record { finds = too_many c.requires.form (subst (TellsPaths c.args.insns.now 16384) c.in-None.is c.in_ok-all_ends.ensures.tells_paths) }
