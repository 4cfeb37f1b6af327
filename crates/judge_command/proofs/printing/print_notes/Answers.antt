use Rattle.std.proofs.Common.{get_or, arith, refl, ◌∙◌}
use Rattle.asked_service.specs.unit_grammar.declared.notes.NoteCause.TheVariants.{NoSection}
use Rattle.asked_service.proofs.OfUnitInputs.Texts.{items_all, items_cut, items_more, nothing_printed, text_at_error}
use Rattle.asked_service.specs.report_text.Notes.{note_line}
use Rattle.judge_command.proofs.Ends.{note_ends}
use Rattle.judge_command.proofs.printing.print_notes.Goals as goal

pub loop-note-init : goal.loop-note-init
loop-note-init g c = record { printed = nothing_printed c.args.out.now; same = refl }

pub loop-note-preserved : goal.loop-note-preserved
loop-note-preserved g c = record {
  printed = items_more (note_line c.args.unit.now.files) c.args.notes.now c.loop-note.note-index
      (record { place = record { file = 0; line = 0 }; cause = NoSection })
      (get_or c.args.notes.now c.loop-note.note-index (record { place = record { file = 0; line = 0 }; cause = NoSection })) _ _ _
      (omega arith) refl c.loop-note.invariant.printed (c.in_ok-put_line.ensures.prints_the_line _ c.note_line.ensures.tells_where_and_why
      (note_ends c.args.unit.now.files (get_or c.args.notes.now c.loop-note.note-index
      (record { place = record { file = 0; line = 0 }; cause = NoSection }))));
  same = c.in_ok-put_line.ensures.fault_rose.no_other_fault ∙ c.loop-note.invariant.same;
}

pub returns-in_err-put_line-clause-prints_the_text : goal.returns-in_err-put_line-clause-prints_the_text
returns-in_err-put_line-clause-prints_the_text g c =
    text_at_error _ _ _ c.in_err-put_line.field-0.0 c.from_residual.result c.from_residual.ensures.1
    (items_cut (note_line c.args.unit.now.files) c.args.notes.now c.loop-note.note-index
    (record { place = record { file = 0; line = 0 }; cause = NoSection })
    (get_or c.args.notes.now c.loop-note.note-index (record { place = record { file = 0; line = 0 }; cause = NoSection })) _ _ _
    c.in_err-put_line.field-0.0 (omega arith) refl c.loop-note.invariant.printed
    (c.in_err-put_line.ensures.prints_the_line _ c.note_line.ensures.tells_where_and_why
    (note_ends c.args.unit.now.files (get_or c.args.notes.now c.loop-note.note-index
    (record { place = record { file = 0; line = 0 }; cause = NoSection })))))

pub returns-clause-prints_the_text : goal.returns-clause-prints_the_text
returns-clause-prints_the_text g c = items_all (note_line c.args.unit.now.files) c.args.notes.now c.loop-note.note-index _ _ (omega arith)
    c.loop-note.invariant.printed
