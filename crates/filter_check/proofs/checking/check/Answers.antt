use Rattle.std.proofs.Common.{subst, Err}
use Rattle.filter_check.specs.declared.outcome.CheckError.TheVariants.{Form}
use Rattle.filter_check.specs.Finding.{Finds, foreign, wanted_by}
use Rattle.filter_check.proofs.checking.check.Goals as goal

pub returns-in-Some : goal.returns-in-Some
returns-in-Some c = record { finds = subst (λ code. Finds code (wanted_by c.args.rules.now) (Err (Form c.in-Some.place))) c.insns-insns.ensures.insns (foreign c.in-Some.place c.in-Some.ensures.the_first) }
