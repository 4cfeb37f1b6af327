use Rattle.std.proofs.Common.{sym, ap, ◌∙◌}
use Rattle.std.specs.List.{list_any}
use Rattle.exposure_score.specs.service_facts.Facts.{is_of_line}
use Rattle.exposure_score.proofs.Mapped.{list_any-map}
use Rattle.exposure_score.proofs.service_facts.each.known_test.Goals as goal

pub returns : goal.returns
returns c = record {
  in_the_table =
      c.is_of_a_line.ensures
      ∙ (sym (list_any-map (is_of_line c.args.calls.now c.args.id.now) (λ line. (line.0.now, line.1)) c.table.result.now)
      ∙ ap (list_any (is_of_line c.args.calls.now c.args.id.now)) c.table.ensures.lines);
}
