use Rattle.std.proofs.Common.{rules}
use Rattle.std.specs.Prelude.{◌≢◌}
use Rattle.filter_check.specs.Finding.{wanted_by}
use Rattle.filter_check.specs.declared.outcome.CheckError.TheVariants.{Memory}
use Rattle.unit_inputs.proofs.Said.{said_refused}
use Rattle.check_command.specs.Causes.{check_line}
use Rattle.check_command.specs.Comparing.{Compares, is_compared, not_compared}
use Rattle.check_command.specs.declared.ready.Checked.{Checked}
use Rattle.check_command.proofs.comparing.compare_rules.Goals as goal

pub returns-in-Ok-clause-compares : goal.returns-in-Ok-clause-compares
returns-in-Ok-clause-compares c = is_compared c.in-Ok.outcome c.in-Ok.ensures.finds

pub returns-in-Err-clause-compares : goal.returns-in-Err-clause-compares
returns-in-Err-clause-compares c =
    let ne : c.in-Err.error ≢ Memory = search rules in
    said_refused (λ (checked : Checked). checked.outcome) (Compares c.args.path.now c.args.program.now (wanted_by c.args.rules.now))
    c.check_line.result (check_line c.args.path.now c.in-Err.error) c.refuse.result c.refuse.ensures.tells_the_line c.check_line.ensures
    (not_compared c.in-Err.error ne c.in-Err.ensures.finds)
