use Rattle.std.proofs.Common.{◌++◌, ◌∙◌, Ok, Err, [], refl, ap, append_assoc}
use Rattle.unit_inputs.proofs.Texts.{last_put, line_printed, nothing_printed, printed_text, put_at_error, text_as, text_cut, text_then}
use Rattle.unit_inputs.proofs.command_answers.lines.put_lines.Goals as goal

pub loop-line-init : goal.loop-line-init
loop-line-init g c = ([], refl, nothing_printed c.args.out.now, refl)

pub loop-line-preserved : goal.loop-line-preserved
loop-line-preserved g c =
    let before = c.loop-line.invariant in
    let line = c.in-Some.line.now in (
      before.0 ++ line,
      append_assoc before.0 line c.in-Some.rest.now ∙ ap (λ left. before.0 ++ left) c.in-Some.ensures.in_two ∙ before.1,
      text_then _ _ _ before.0 line (Ok tt) before.2
          (line_printed g.K.Sink.taken g.K.Sink.puts _ _ line (Ok tt) c.in-Some.ensures.a_line c.in_ok-write_whole.ensures.takes_the_piece
          c.in_ok-write_whole.ensures.hands_the_piece),
      c.in_ok-write_whole.ensures.no_other_fault ∙ before.3,
    )

pub returns-in_err-write_whole-clause-puts_the_text : goal.returns-in_err-write_whole-clause-puts_the_text
returns-in_err-write_whole-clause-puts_the_text g c =
    let before = c.loop-line.invariant in
    let line = c.in-Some.line.now in
    let error = c.in_err-write_whole.field-0.0 in
    put_at_error _ _ c.args.text.now error c.from_residual.result c.from_residual.ensures.1
    (printed_text g.K.Sink.taken g.K.Sink.puts _ _ c.args.text.now (Err error)
    (text_as g.K.Sink.taken g.K.Sink.puts _ _ _ c.args.text.now (Err error) (ap (λ left. before.0 ++ left)
    c.in-Some.ensures.in_two ∙ before.1)
    (text_then _ _ _ before.0 (line ++ c.in-Some.rest.now) (Err error) before.2
    (text_cut _ _ line c.in-Some.rest.now error
    (line_printed g.K.Sink.taken g.K.Sink.puts _ _ line (Err error) c.in-Some.ensures.a_line c.in_err-write_whole.ensures.takes_the_piece
    c.in_err-write_whole.ensures.hands_the_piece)))))

pub returns-clause-puts_the_text : goal.returns-clause-puts_the_text
returns-clause-puts_the_text g c =
    let before = c.loop-line.invariant in
    last_put _ _ _ before.0 c.loop-line.left.now c.args.text.now c.write_whole-2.result before.2 c.in_default.ensures.a_line before.1
    c.write_whole-2.ensures.takes_the_piece c.write_whole-2.ensures.hands_the_piece
