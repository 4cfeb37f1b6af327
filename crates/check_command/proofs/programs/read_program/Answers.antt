use Rattle.std.proofs.Common.{List, ℕ, Global, subst}
use Rattle.std.specs.Prelude.{Vec}
use Rattle.unit_inputs.specs.host_io.Agreeing.{ForFiles}
use Rattle.filter_check.specs.bpf_code.declared.machine.Insn.{Insn}
use Rattle.unit_inputs.proofs.FileCommands.{at_stop}
use Rattle.check_command.specs.Programs.{IsProgramIn, IsProgramOf}
use Rattle.check_command.proofs.Steps.{no_bytes, some_bytes}
use Rattle.unit_inputs.proofs.Asking.{went_quiet}
use Rattle.std.proofs.Common.{[], ◌∷◌}
use Rattle.unit_inputs.specs.command_answers.Asking.{input_file}
use Rattle.unit_inputs.specs.command_answers.Said.{IsSaid}
use Rattle.check_command.proofs.programs.read_program.Goals as goal

pub returns-in_err-bytes-clause-reads_the_program : goal.returns-in_err-bytes-clause-reads_the_program
returns-in_err-bytes-clause-reads_the_program g c =
    at_stop (λ result. ForFiles (g.S.Shelf.agrees c.read_input.new.shelf)
    (λ files. IsSaid (λ (program : List Insn). program) (IsProgramIn files c.args.path.now) result)) c.from_residual.result
    c.in_err-bytes.field-0.0 c.from_residual.ensures.1
    (no_bytes (λ (bytes : Vec ℕ Global). bytes.items) (g.S.Shelf.agrees c.read_input.new.shelf) c.args.path.now c.in_err-bytes.field-0.0
    c.in_err-bytes.ensures.reads_the_file)

pub returns-clause-reads_the_program : goal.returns-clause-reads_the_program
returns-clause-reads_the_program g c =
    some_bytes (g.S.Shelf.agrees c.read_input.new.shelf) c.args.path.now c.in_ok-bytes.bytes.items c.program_of_bytes.result
    c.in_ok-bytes.ensures.reads_the_file
    (subst (λ bytes. IsSaid (λ (program : List Insn). program) (IsProgramOf c.args.path.now bytes) c.program_of_bytes.result)
    c.as_slice.ensures.value c.program_of_bytes.ensures.says)

pub returns-clause-asks_for_it : goal.returns-clause-asks_for_it
returns-clause-asks_for_it g c =
    went_quiet g.S.Shelf.asks c.args.shelf.now c.read_input.new.shelf
    (input_file c.args.path.now ∷ []) c.program_of_bytes.result c.program_of_bytes.ensures.reads_nothing
    c.in_ok-bytes.ensures.asks_for_it
