use Rattle.std.proofs.Common.{◌≤◌, subst, sym}
use Rattle.std.specs.List.{All}
use Rattle.tighten_command.proofs.Sets.{tightened_is}
use Rattle.tighten_command.proofs.tightening.items.tightened.Goals as goal

pub drop_in-requires : goal.drop_in-requires
drop_in-requires c = record {
  are_items = subst (All (λ item. (1 ≤ item) × (item ≤ 17)))
      (sym c.deref.ensures.value) c.in_ok-items.ensures.are_items;
}

pub returns : goal.returns
returns c =
    tightened_is c.args.unit.now c.args.set.now c.in_ok-items.items.items c.deref.result.now c.in_ok-text.text.items c.deref-2.result.now
    c.with_file.result
    c.in_ok-items.ensures.in_order c.deref.ensures.value c.in_ok-text.ensures.adds_exactly_these c.deref-2.ensures.value c.requires.some
    c.with_file.ensures.file_stands_last
