use Rattle.std.proofs.Common.{subst}
use Rattle.std.specs.Prelude.{flat_map}
use Rattle.unit_inputs.specs.command_answers.Printing.{PrintsAll, PrintsSome}
use Rattle.unit_inputs.proofs.Texts.{text_at_error, text_cut, text_then}
use Rattle.report_text.specs.Scores.{exposure_line, score_line}
use Rattle.score_command.proofs.Ends.{exposure_ends}
use Rattle.score_command.proofs.printing.print_score.Goals as goal

pub returns-in_err-print_rows-clause-prints_the_text : goal.returns-in_err-print_rows-clause-prints_the_text
returns-in_err-print_rows-clause-prints_the_text g c =
    text_at_error _ _ _ c.in_err-print_rows.field-0.0 c.from_residual.result c.from_residual.ensures.1
    (text_cut _ _ (flat_map score_line c.args.score.now.rows)
    (exposure_line c.args.score.now.exposure c.args.threshold) c.in_err-print_rows.field-0.0
    (subst (λ rows. PrintsSome g.K.Sink.taken g.K.Sink.puts c.args.out.now c.print_rows.new.out (flat_map score_line rows)
    c.in_err-print_rows.field-0.0) c.list.ensures.all_in_order c.in_err-print_rows.ensures.prints_the_text))

pub returns-clause-prints_the_text : goal.returns-clause-prints_the_text
returns-clause-prints_the_text g c =
    text_then _ _ _ (flat_map score_line c.args.score.now.rows) (exposure_line c.args.score.now.exposure c.args.threshold) c.put_line.result
    (subst (λ rows. PrintsAll g.K.Sink.taken g.K.Sink.puts c.args.out.now c.print_rows.new.out (flat_map score_line rows))
    c.list.ensures.all_in_order c.in_ok-print_rows.ensures.prints_the_text)
    (c.put_line.ensures.prints_the_line _ c.exposure_line.ensures.tells_both (exposure_ends c.args.score.now.exposure c.args.threshold))
