use Rattle.std.proofs.Common.{map, arith}
use Rattle.std.specs.Option.{option_or}
use Rattle.std.specs.String.{string_bytes}
use Rattle.std.proofs.lemmas.List.{drop_all}
use Rattle.dropin_merge.specs.Steps.{winner_at, at_place}
use Rattle.dropin_merge.proofs.Collected.{names_more, names_all}
use Rattle.dropin_merge.proofs.winners.take_names.Goals as goal

pub loop-name-preserved : goal.loop-name-preserved
loop-name-preserved c = record {
  left = λ q.
      names_more c.args.place.now c.loop-name.winners c.take_name.new.winners c.args.names.now c.loop-name.name-index c.name-item.result
      c.as_str.result.now
      (option_or (winner_at c.args.winners.now q) (at_place c.args.place.now (map string_bytes c.args.names.now) q)) q
      c.loop-name-test.true c.name-item.is c.as_str.ensures.value (c.loop-name.invariant.left q) (c.in_ok-take_name.ensures.first_wins q);
  kept = λ places placed kept. c.in_ok-take_name.ensures.keeps_to_places places placed (c.loop-name.invariant.kept places placed kept);
}

pub returns : goal.returns
returns c = record {
  first_wins = λ q.
      names_all c.args.place.now c.loop-name.winners _
      (option_or (winner_at c.args.winners.now q) (at_place c.args.place.now (map string_bytes c.args.names.now) q)) q
      (drop_all c.loop-name.name-index c.args.names.now (omega arith)) (c.loop-name.invariant.left q);
  keeps_to_places = c.loop-name.invariant.kept;
}
