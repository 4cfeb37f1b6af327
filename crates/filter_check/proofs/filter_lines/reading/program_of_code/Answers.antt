use Rattle.std.proofs.Common.{rules}
use Rattle.std.specs.Prelude.{◌≢◌}
use Rattle.seccomp_compile.specs.bpf_code.declared.program.ProgramError.TheVariants as program
use Rattle.filter_check.specs.filter_lines.Reading.{no_program, is_program, no_memory}
use Rattle.filter_check.proofs.filter_lines.reading.program_of_code.Goals as goal

pub returns-in-Ok : goal.returns-in-Ok
returns-in-Ok c = record { reads = is_program c.in-Ok.program c.in-Ok.ensures.accepts }

pub returns-in-Err-Memory : goal.returns-in-Err-Memory
returns-in-Err-Memory c = record { reads = no_memory }

pub returns-in-Err : goal.returns-in-Err
returns-in-Err c =
    let ne : c.in-Err.error ≢ program.Memory = search rules in
    record { reads = no_program c.in-Err.error ne (c.in-Err.ensures.refuses ne) }
