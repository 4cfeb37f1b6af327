use Rattle.std.proofs.Common.{◌++◌, Err}
use Rattle.std.specs.Prelude.{codes}
use Rattle.asked_service.proofs.OfUnitInputs.Texts.{printed_text, text_at_error, text_cut, text_then}
use Rattle.sample_command.specs.Prints.{count_line}
use Rattle.sample_command.proofs.Ends.{count_ends}
use Rattle.sample_command.proofs.sampled.SampledReady.print.Goals as goal

pub returns-in_err-put_line-clause-puts_the_text : goal.returns-in_err-put_line-clause-puts_the_text
returns-in_err-put_line-clause-puts_the_text g c =
    printed_text g.K.Sink.taken g.K.Sink.puts _ _ _ c.from_residual.result
    (text_at_error _ _ _ c.in_err-put_line.field-0.0 c.from_residual.result c.from_residual.ensures.1
    (text_cut _ _ (count_line (codes "sample") c.args.self.now.number)
    ((count_line (codes "rows") c.args.self.now.rows) ++
    ((count_line (codes "questions") c.args.self.now.questions) ++
    ((count_line (codes "denied") c.args.self.now.denied) ++ (count_line (codes "open") c.args.self.now.open))))
    c.in_err-put_line.field-0.0
    (c.in_err-put_line.ensures.prints_the_line (count_line (codes "sample") c.args.self.now.number) c.count_line.ensures.counts
    (count_ends (codes "sample") c.args.self.now.number))))

pub returns-in_err-put_line-2-clause-puts_the_text : goal.returns-in_err-put_line-2-clause-puts_the_text
returns-in_err-put_line-2-clause-puts_the_text g c =
    printed_text g.K.Sink.taken g.K.Sink.puts _ _ _ c.from_residual-in_err-put_line-2.result
    (text_at_error _ _ _ c.in_err-put_line-2.field-0.0 c.from_residual-in_err-put_line-2.result c.from_residual-in_err-put_line-2.ensures.1
    (text_then _ _ _ (count_line (codes "sample") c.args.self.now.number)
    ((count_line (codes "rows") c.args.self.now.rows) ++
    ((count_line (codes "questions") c.args.self.now.questions) ++
    ((count_line (codes "denied") c.args.self.now.denied) ++ (count_line (codes "open") c.args.self.now.open))))
    (Err c.in_err-put_line-2.field-0.0)
    (c.in_ok-put_line.ensures.prints_the_line (count_line (codes "sample") c.args.self.now.number) c.count_line.ensures.counts
    (count_ends (codes "sample") c.args.self.now.number))
    (text_cut _ _ (count_line (codes "rows") c.args.self.now.rows)
    ((count_line (codes "questions") c.args.self.now.questions) ++
    ((count_line (codes "denied") c.args.self.now.denied) ++ (count_line (codes "open") c.args.self.now.open)))
    c.in_err-put_line-2.field-0.0
    (c.in_err-put_line-2.ensures.prints_the_line (count_line (codes "rows") c.args.self.now.rows) c.count_line-2.ensures.counts
    (count_ends (codes "rows") c.args.self.now.rows)))))

pub returns-in_err-put_line-3-clause-puts_the_text : goal.returns-in_err-put_line-3-clause-puts_the_text
returns-in_err-put_line-3-clause-puts_the_text g c =
    printed_text g.K.Sink.taken g.K.Sink.puts _ _ _ c.from_residual-in_err-put_line-3.result
    (text_at_error _ _ _ c.in_err-put_line-3.field-0.0 c.from_residual-in_err-put_line-3.result c.from_residual-in_err-put_line-3.ensures.1
    (text_then _ _ _ (count_line (codes "sample") c.args.self.now.number)
    ((count_line (codes "rows") c.args.self.now.rows) ++
    ((count_line (codes "questions") c.args.self.now.questions) ++
    ((count_line (codes "denied") c.args.self.now.denied) ++ (count_line (codes "open") c.args.self.now.open))))
    (Err c.in_err-put_line-3.field-0.0)
    (c.in_ok-put_line.ensures.prints_the_line (count_line (codes "sample") c.args.self.now.number) c.count_line.ensures.counts
    (count_ends (codes "sample") c.args.self.now.number))
    (text_then _ _ _ (count_line (codes "rows") c.args.self.now.rows)
    ((count_line (codes "questions") c.args.self.now.questions) ++
    ((count_line (codes "denied") c.args.self.now.denied) ++ (count_line (codes "open") c.args.self.now.open)))
    (Err c.in_err-put_line-3.field-0.0)
    (c.in_ok-put_line-2.ensures.prints_the_line (count_line (codes "rows") c.args.self.now.rows) c.count_line-2.ensures.counts
    (count_ends (codes "rows") c.args.self.now.rows))
    (text_cut _ _ (count_line (codes "questions") c.args.self.now.questions)
    ((count_line (codes "denied") c.args.self.now.denied) ++ (count_line (codes "open") c.args.self.now.open))
    c.in_err-put_line-3.field-0.0
    (c.in_err-put_line-3.ensures.prints_the_line (count_line (codes "questions") c.args.self.now.questions)
    c.count_line-3.ensures.counts (count_ends (codes "questions") c.args.self.now.questions))))))

pub returns-in_err-put_line-4-clause-puts_the_text : goal.returns-in_err-put_line-4-clause-puts_the_text
returns-in_err-put_line-4-clause-puts_the_text g c =
    printed_text g.K.Sink.taken g.K.Sink.puts _ _ _ c.from_residual-in_err-put_line-4.result
    (text_at_error _ _ _ c.in_err-put_line-4.field-0.0 c.from_residual-in_err-put_line-4.result c.from_residual-in_err-put_line-4.ensures.1
    (text_then _ _ _ (count_line (codes "sample") c.args.self.now.number)
    ((count_line (codes "rows") c.args.self.now.rows) ++
    ((count_line (codes "questions") c.args.self.now.questions) ++
    ((count_line (codes "denied") c.args.self.now.denied) ++ (count_line (codes "open") c.args.self.now.open))))
    (Err c.in_err-put_line-4.field-0.0)
    (c.in_ok-put_line.ensures.prints_the_line (count_line (codes "sample") c.args.self.now.number) c.count_line.ensures.counts
    (count_ends (codes "sample") c.args.self.now.number))
    (text_then _ _ _ (count_line (codes "rows") c.args.self.now.rows)
    ((count_line (codes "questions") c.args.self.now.questions) ++
    ((count_line (codes "denied") c.args.self.now.denied) ++ (count_line (codes "open") c.args.self.now.open)))
    (Err c.in_err-put_line-4.field-0.0)
    (c.in_ok-put_line-2.ensures.prints_the_line (count_line (codes "rows") c.args.self.now.rows) c.count_line-2.ensures.counts
    (count_ends (codes "rows") c.args.self.now.rows))
    (text_then _ _ _ (count_line (codes "questions") c.args.self.now.questions)
    ((count_line (codes "denied") c.args.self.now.denied) ++ (count_line (codes "open") c.args.self.now.open))
    (Err c.in_err-put_line-4.field-0.0)
    (c.in_ok-put_line-3.ensures.prints_the_line (count_line (codes "questions") c.args.self.now.questions) c.count_line-3.ensures.counts
    (count_ends (codes "questions") c.args.self.now.questions))
    (text_cut _ _ (count_line (codes "denied") c.args.self.now.denied)
    (count_line (codes "open") c.args.self.now.open) c.in_err-put_line-4.field-0.0
    (c.in_err-put_line-4.ensures.prints_the_line (count_line (codes "denied") c.args.self.now.denied) c.count_line-4.ensures.counts
    (count_ends (codes "denied") c.args.self.now.denied)))))))

pub returns-clause-puts_the_text : goal.returns-clause-puts_the_text
returns-clause-puts_the_text g c =
    printed_text g.K.Sink.taken g.K.Sink.puts _ _ _ c.put_line-5.result
    ((text_then _ _ _ (count_line (codes "sample") c.args.self.now.number)
    ((count_line (codes "rows") c.args.self.now.rows) ++
    ((count_line (codes "questions") c.args.self.now.questions) ++
    ((count_line (codes "denied") c.args.self.now.denied) ++ (count_line (codes "open") c.args.self.now.open)))) c.put_line-5.result
    (c.in_ok-put_line.ensures.prints_the_line (count_line (codes "sample") c.args.self.now.number) c.count_line.ensures.counts
    (count_ends (codes "sample") c.args.self.now.number))
    (text_then _ _ _ (count_line (codes "rows") c.args.self.now.rows)
    ((count_line (codes "questions") c.args.self.now.questions) ++
    ((count_line (codes "denied") c.args.self.now.denied) ++ (count_line (codes "open") c.args.self.now.open))) c.put_line-5.result
    (c.in_ok-put_line-2.ensures.prints_the_line (count_line (codes "rows") c.args.self.now.rows) c.count_line-2.ensures.counts
    (count_ends (codes "rows") c.args.self.now.rows))
    (text_then _ _ _ (count_line (codes "questions") c.args.self.now.questions)
    ((count_line (codes "denied") c.args.self.now.denied) ++ (count_line (codes "open") c.args.self.now.open)) c.put_line-5.result
    (c.in_ok-put_line-3.ensures.prints_the_line (count_line (codes "questions") c.args.self.now.questions) c.count_line-3.ensures.counts
    (count_ends (codes "questions") c.args.self.now.questions))
    (text_then _ _ _ (count_line (codes "denied") c.args.self.now.denied)
    (count_line (codes "open") c.args.self.now.open) c.put_line-5.result
    (c.in_ok-put_line-4.ensures.prints_the_line (count_line (codes "denied") c.args.self.now.denied) c.count_line-4.ensures.counts
    (count_ends (codes "denied") c.args.self.now.denied))
    (c.put_line-5.ensures.prints_the_line (count_line (codes "open") c.args.self.now.open) c.count_line-5.ensures.counts
    (count_ends (codes "open") c.args.self.now.open)))))))
