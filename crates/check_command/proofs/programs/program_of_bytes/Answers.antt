use Rattle.std.proofs.Common.{rules}
use Rattle.std.specs.Prelude.{◌≢◌}
use Rattle.filter_check.specs.declared.filter_lines.error.FileError.TheVariants.{Memory}
use Rattle.unit_inputs.proofs.Said.{said_refused}
use Rattle.check_command.specs.Causes.{file_line}
use Rattle.check_command.specs.Programs.{IsProgramOf, a_program, no_program}
use Rattle.check_command.proofs.programs.program_of_bytes.Goals as goal

pub returns-in-Ok-clause-says : goal.returns-in-Ok-clause-says
returns-in-Ok-clause-says c = a_program c.in-Ok.program c.in-Ok.ensures.reads

pub returns-in-Err-clause-says : goal.returns-in-Err-clause-says
returns-in-Err-clause-says c =
    let ne : c.in-Err.error ≢ Memory = search rules in
    said_refused (λ program. program) (IsProgramOf c.args.path.now c.args.bytes.now) c.file_line.result
    (file_line c.args.path.now c.in-Err.error) c.refuse.result c.refuse.ensures.tells_the_line c.file_line.ensures
    (no_program c.in-Err.error ne c.in-Err.ensures.reads)
