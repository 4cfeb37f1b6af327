use Rattle.std.proofs.Common.{◌∙◌, arith, sym}
use Rattle.question_text.proofs.Finding.{found_reads, none_reads, same_text}
use Rattle.question_text.proofs.reading.find_question.Goals as goal

pub returns-then-eq : goal.returns-then-eq
returns-then-eq c = record {
  reads = λ table site are.
      found_reads table site c.args.printed.now c.args.text.now c.one-item.result c.loop-one.one-index are c.loop-one-test.true
      (sym c.one-item.is)
      (same_text c.one-item.result.text.items c.as_slice.result.now c.args.text.now c.as_slice.ensures.value
      (sym c.eq.ensures ∙ c.if-eq.true));
}

pub returns : goal.returns
returns c = record {
  reads = λ table site are. none_reads table site c.args.printed.now c.args.text.now are
      (λ k one lt. c.loop-one.invariant k one (omega (arith, lt, c.loop-one-test.false)));
}
