use Rattle.std.proofs.Common.{ℕ, subst, [], ◌∷◌}
use Rattle.std.specs.Prelude.{List, Vec}
use Rattle.std.specs.declared.alloc.Global.{Global}
use Rattle.asked_service.specs.host_io.Agreeing.{ForFiles}
use Rattle.asked_service.specs.unit_inputs.command_answers.Asking.{input_file}
use Rattle.asked_service.proofs.OfUnitInputs.Asking.{went_quiet}
use Rattle.asked_service.proofs.OfUnitInputs.FileCommands.{at_stop}
use Rattle.asked_service.specs.unit_inputs.command_answers.Said.{IsSaid}
use Rattle.asked_service.specs.kernel_laws.declared.question_types.question.Question.{Question}
use Rattle.tighten_command.specs.KeepFiles.{IsKeepIn, IsKeepOf}
use Rattle.tighten_command.proofs.Prepared.{no_bytes, some_bytes}
use Rattle.tighten_command.proofs.keep_file.read_keep.Goals as goal

pub returns-in_err-bytes-clause-reads_what_is_kept : goal.returns-in_err-bytes-clause-reads_what_is_kept
returns-in_err-bytes-clause-reads_what_is_kept g c =
    at_stop (λ result. ForFiles (g.S.Shelf.agrees c.read_input.new.shelf)
    (λ files. IsSaid (λ (keep : List Question). keep) (IsKeepIn files c.args.calls.now c.args.site.now c.args.path.now) result))
    c.from_residual.result c.in_err-bytes.field-0.0 c.from_residual.ensures.1
    (no_bytes (λ (bytes : Vec ℕ Global). bytes.items) (λ (keep : List Question). keep)
    (g.S.Shelf.agrees c.read_input.new.shelf) c.args.calls.now c.args.site.now c.args.path.now c.in_err-bytes.field-0.0
    c.in_err-bytes.ensures.reads_the_file)

pub returns-clause-reads_what_is_kept : goal.returns-clause-reads_what_is_kept
returns-clause-reads_what_is_kept g c =
    some_bytes (λ (keep : List Question). keep) (g.S.Shelf.agrees c.read_input.new.shelf) c.args.calls.now c.args.site.now c.args.path.now
    c.in_ok-bytes.bytes.items c.keep_of_bytes.result c.in_ok-bytes.ensures.reads_the_file
    (subst (λ bytes. IsSaid (λ (keep : List Question). keep)
    (IsKeepOf c.args.calls.now c.args.site.now c.args.path.now bytes) c.keep_of_bytes.result) c.as_slice.ensures.value
    c.keep_of_bytes.ensures.says)

pub returns-clause-asks_for_it : goal.returns-clause-asks_for_it
returns-clause-asks_for_it g c =
    went_quiet g.S.Shelf.asks c.args.shelf.now c.read_input.new.shelf
    (input_file c.args.path.now ∷ []) c.keep_of_bytes.result c.keep_of_bytes.ensures.reads_nothing c.in_ok-bytes.ensures.asks_for_it
