use Rattle.std.proofs.Common.{sym, ◌∙◌}
use Rattle.dropin_merge.proofs.Pathed.{insert_keeps}
use Rattle.dropin_merge.proofs.Winning.{copy_wins}
use Rattle.dropin_merge.proofs.winners.take_name.Goals as goal

pub returns-in_ok-insert : goal.returns-in_ok-insert
returns-in_ok-insert c = record {
  first_wins =
      copy_wins c.args.winners.now c.insert.new.self c.args.place.now c.args.name.now c.in_ok-from_str.field-0 c.in_ok-path.path
      c.in_ok-from_str.ensures.ok
      (sym c.counts.ensures ∙ c.if-counts.true)
      (sym c.contains_key.ensures ∙ c.if-not-contains_key.true)
      c.in_ok-path.ensures.joined
      c.in_ok-insert.ensures.updates;
  keeps_to_places =
      insert_keeps c.args.winners.now c.insert.new.self c.args.place.now c.args.name.now c.in_ok-from_str.field-0 c.in_ok-path.path
      (sym c.counts.ensures ∙ c.if-counts.true)
      c.in_ok-path.ensures.joined
      c.in_ok-insert.ensures.entries;
}
