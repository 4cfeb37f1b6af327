use Rattle.std.proofs.lemmas.List.Elements.{All-push}
use Rattle.why_command.specs.opening_lines.Judging.{IsAloneOf}
use Rattle.why_command.specs.declared.opening_lines.each.LineAlone.{LineAlone}
use Rattle.why_command.proofs.Gathered.{lines_more}
use Rattle.why_command.proofs.opening_lines.judged.Judged.each.Goals as goal

pub loop-line-preserved : goal.loop-line-preserved
loop-line-preserved c = record {
  one_each =
      rw c.in_ok-push.ensures.items
      (lines_more c.loop-line.told.items c.in_ok-tell.field-0 c.args.lines.now c.loop-line.line-index c.line-item.result
      c.line-item.result c.loop-line-test.true c.line-item.is c.in_ok-tell.ensures.same_line c.loop-line.invariant.one_each);
  each_is_so = rw c.in_ok-push.ensures.items
      (All-push (λ (one : LineAlone). IsAloneOf c.args.self.now one.line.now.place one.alone) c.loop-line.told.items c.in_ok-tell.field-0
      c.loop-line.invariant.each_is_so c.in_ok-tell.ensures.is_so);
}
