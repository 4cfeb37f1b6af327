use Rattle.std.proofs.Common.{◌∙◌, arith, length-drop, refl, sym}
use Rattle.std.proofs.lemmas.List.{take_rest}
use Rattle.host_io.proofs.Growth.{append_known-nil, grew_more}
use Rattle.host_io.proofs.Putting.{going_more, handed_all, handed_part, not_going}
use Rattle.host_io.proofs.writing.write_whole.Goals as goal

pub loop-at-init : goal.loop-at-init
loop-at-init g c =
    (omega arith, sym (append_known-nil (g.K.Sink.taken c.args.out.now)), refl, not_going g.K.Sink.puts c.args.out.now c.args.piece.now)

pub loop-at-preserved : goal.loop-at-preserved
loop-at-preserved g c =
    let taken = rw take_rest at c.in_ok-at.ensures.takes_a_prefix in
    let made = rw take_rest at c.in_ok-at.ensures.hands_it in (
      omega (arith, taken.1, length-drop c.loop-at.at c.args.piece.now),
      grew_more _ _ _ c.args.piece.now c.loop-at.at c.in_ok-at.field-0 c.loop-at.invariant.1 taken.0,
      c.in_ok-at.ensures.no_other_fault ∙ c.loop-at.invariant.2,
      going_more g.K.Sink.puts _ _ _ c.args.piece.now c.loop-at.at c.in_ok-at.field-0 c.loop-at.invariant.3 made
          (taken.2 (omega (arith, length-drop c.loop-at.at c.args.piece.now))) taken.1,
    )

pub returns-in_err-at-clause-hands_the_piece : goal.returns-in_err-at-clause-hands_the_piece
returns-in_err-at-clause-hands_the_piece g c =
    let made = rw take_rest at c.in_err-at.ensures.hands_it in
    handed_part g.K.Sink.puts _ _ _ c.args.piece.now c.loop-at.at c.in_err-at.field-0.0 c.from_residual.result c.loop-at.invariant.3
    (omega arith) made c.from_residual.ensures.1

pub returns-clause-hands_the_piece : goal.returns-clause-hands_the_piece
returns-clause-hands_the_piece g c = handed_all g.K.Sink.puts _ _ c.args.piece.now c.loop-at.at c.loop-at.invariant.3 (omega arith)
