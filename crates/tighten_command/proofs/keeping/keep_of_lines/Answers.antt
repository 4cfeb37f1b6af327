use Rattle.std.proofs.Common.{arith, map}
use Rattle.asked_service.specs.text_forms.line_text.Views.{line_view}
use Rattle.tighten_command.specs.Keeping.{ReadsLines, no_memory, other_line, too_many}
use Rattle.tighten_command.proofs.Reading.{all_read, at_memory, lent_printed, one_longer, one_more_at, other_at, too_many_at}
use Rattle.tighten_command.proofs.keeping.keep_of_lines.Goals as goal

pub returns-in_err-printed : goal.returns-in_err-printed
returns-in_err-printed c =
    record {
      reads = at_memory (ReadsLines c.args.calls.now c.args.site.now (map line_view c.args.lines.now)) c.from_residual.result
          c.from_residual.ensures.1 no_memory;
    }

pub returns-in_default : goal.returns-in_default
returns-in_default c =
    let are = lent_printed c.args.calls.now c.args.site.now c.in_ok-printed.printed.items c.as_slice.result.now c.as_slice.ensures.value c.in_ok-printed.ensures.prints_the_list in
    record {
      reads =
          other_line _
          (other_at c.args.calls.now c.args.site.now c.args.lines.now c.loop-line.keep.items c.loop-line.line-index c.as_bytes.result.now
          c.loop-line-test.true c.loop-line.invariant.few c.as_bytes.ensures.value c.loop-line.invariant.are
          (c.in_default.ensures.reads c.args.calls.now c.args.site.now are));
    }

pub returns-then-len-eq-MOST_QUESTIONS : goal.returns-then-len-eq-MOST_QUESTIONS
returns-then-len-eq-MOST_QUESTIONS c =
    let are = lent_printed c.args.calls.now c.args.site.now c.in_ok-printed.printed.items c.as_slice.result.now c.as_slice.ensures.value c.in_ok-printed.ensures.prints_the_list in
    record {
      reads =
          too_many
          (too_many_at c.args.calls.now c.args.site.now c.args.lines.now c.loop-line.keep.items c.loop-line.line-index
          c.as_bytes.result.now c.in-Some.question c.loop-line-test.true
          (omega (arith, c.len.ensures, c.if-len-eq-MOST_QUESTIONS.true, c.loop-line.invariant.counted)) c.as_bytes.ensures.value
          c.loop-line.invariant.are (c.in-Some.ensures.reads c.args.calls.now c.args.site.now are).0);
    }

pub returns-in_err-push : goal.returns-in_err-push
returns-in_err-push c = record {
  reads = at_memory (ReadsLines c.args.calls.now c.args.site.now (map line_view c.args.lines.now)) c.from_residual-in_err-push.result
      c.from_residual-in_err-push.ensures.1 no_memory;
}

pub loop-line-preserved : goal.loop-line-preserved
loop-line-preserved c =
    let are = lent_printed c.args.calls.now c.args.site.now c.in_ok-printed.printed.items c.as_slice.result.now c.as_slice.ensures.value c.in_ok-printed.ensures.prints_the_list in
    record {
      are =
          one_more_at c.args.calls.now c.args.site.now c.args.lines.now c.loop-line.keep.items c.push.new.self.items
          c.loop-line.line-index c.as_bytes.result.now c.in-Some.question c.loop-line-test.true c.as_bytes.ensures.value
          c.loop-line.invariant.are
          (c.in-Some.ensures.reads c.args.calls.now c.args.site.now are).0 c.in_ok-push.ensures.items;
      counted = one_longer c.loop-line.keep.items c.push.new.self.items c.in-Some.question c.loop-line.line-index
          c.in_ok-push.ensures.items c.loop-line.invariant.counted;
      few = omega (arith, c.len.ensures, c.if-len-eq-MOST_QUESTIONS.false, c.loop-line.invariant.counted, c.loop-line.invariant.few);
    }

pub returns : goal.returns
returns c = record {
  reads = all_read c.args.calls.now c.args.site.now c.args.lines.now c.loop-line.keep.items c.new.result c.loop-line.line-index
      c.loop-line-test.false c.loop-line.invariant.counted c.loop-line.invariant.few c.new.ensures.holds_them c.loop-line.invariant.are;
}
