use Rattle.unit_names.proofs.Dashes.{behind_last, without_dash}
use Rattle.unit_names.proofs.specifier.last_part.Goals as goal

pub returns-in-Some : goal.returns-in-Some
returns-in-Some c = rw c.in-Some.last-is (behind_last c.args.prefix.now c.in-Some.field-0-0 c.in-Some.last c.in-Some.ensures.cases)

pub returns-in-None : goal.returns-in-None
returns-in-None c = without_dash c.args.prefix.now c.in-None.ensures.cases
