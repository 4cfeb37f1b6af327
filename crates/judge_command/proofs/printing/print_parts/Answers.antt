use Rattle.std.proofs.Common.{◌++◌, Err}
use Rattle.std.specs.Prelude.{flat_map}
use Rattle.asked_service.proofs.OfUnitInputs.Texts.{text_at_error, text_cut, text_then}
use Rattle.asked_service.specs.report_text.Notes.{note_line, unit_line}
use Rattle.judge_command.specs.Started.{told_text}
use Rattle.judge_command.proofs.Ends.{unit_ends}
use Rattle.judge_command.proofs.printing.print_parts.Goals as goal

pub returns-in_err-put_line-clause-prints_the_text : goal.returns-in_err-put_line-clause-prints_the_text
returns-in_err-put_line-clause-prints_the_text g c =
    text_at_error _ _ _ c.in_err-put_line.field-0.0 c.from_residual.result c.from_residual.ensures.1
    (text_cut _ _ (unit_line c.args.name.now)
    (flat_map (note_line c.args.unit.now.files) c.args.notes.now ++ told_text c.args.outcome.now) c.in_err-put_line.field-0.0
    (c.in_err-put_line.ensures.prints_the_line _ c.unit_line.ensures.names_the_unit (unit_ends c.args.name.now)))

pub returns-in_err-print_notes-clause-prints_the_text : goal.returns-in_err-print_notes-clause-prints_the_text
returns-in_err-print_notes-clause-prints_the_text g c =
    text_at_error _ _ _ c.in_err-print_notes.field-0.0 c.from_residual-in_err-print_notes.result
    c.from_residual-in_err-print_notes.ensures.1
    (text_then _ _ _ (unit_line c.args.name.now)
    (flat_map (note_line c.args.unit.now.files) c.args.notes.now ++ told_text c.args.outcome.now) (Err c.in_err-print_notes.field-0.0)
    (c.in_ok-put_line.ensures.prints_the_line _ c.unit_line.ensures.names_the_unit (unit_ends c.args.name.now))
    (text_cut _ _ (flat_map (note_line c.args.unit.now.files) c.args.notes.now)
    (told_text c.args.outcome.now) c.in_err-print_notes.field-0.0 c.in_err-print_notes.ensures.prints_the_text))

pub returns-clause-prints_the_text : goal.returns-clause-prints_the_text
returns-clause-prints_the_text g c =
    text_then _ _ _ (unit_line c.args.name.now)
    (flat_map (note_line c.args.unit.now.files) c.args.notes.now ++ told_text c.args.outcome.now) c.print_outcome.result
    (c.in_ok-put_line.ensures.prints_the_line _ c.unit_line.ensures.names_the_unit (unit_ends c.args.name.now))
    (text_then _ _ _ (flat_map (note_line c.args.unit.now.files) c.args.notes.now) (told_text c.args.outcome.now) c.print_outcome.result
    c.in_ok-print_notes.ensures.prints_the_text c.print_outcome.ensures.prints_the_text)
