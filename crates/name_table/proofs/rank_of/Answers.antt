use Rattle.std.proofs.Common.{◌<◌, length, ◌+◌, ◌-◌, ◌/◌, arith, sym, ap, ◌∙◌}
use Rattle.name_table.specs.Before.{is_before}
use Rattle.name_table.proofs.Halving.{before_too, not_before_too}
use Rattle.name_table.proofs.rank_of.Goals as goal

pub loop-low-preserved-then-lt : goal.loop-low-preserved-then-lt
loop-low-preserved-then-lt g c =
    let middle = c.loop-low.low + (c.loop-low.high - c.loop-low.low) / 2 in
    let inside : middle < length c.args.places.now = omega arith in
    let here = ap (λ name. is_before name c.args.name.now) (sym c.name.ensures) ∙ sym c.lt.ensures ∙ c.if-lt.true in
    record {
      in_order = omega arith;
      in_range = c.loop-low.invariant.in_range;
      before =
          before_too g.L.Named.name_of c.args.lines.now c.args.places.now c.requires c.args.name.now middle inside
          c.index-lines-places.result c.index-lines-places.is here;
      not_before = c.loop-low.invariant.not_before;
    }

pub loop-low-preserved : goal.loop-low-preserved
loop-low-preserved g c =
    let middle = c.loop-low.low + (c.loop-low.high - c.loop-low.low) / 2 in
    let inside : middle < length c.args.places.now = omega arith in
    let here = ap (λ name. is_before name c.args.name.now) (sym c.name.ensures) ∙ sym c.lt.ensures ∙ c.if-lt.false in
    record {
      in_order = omega arith;
      in_range = omega arith;
      before = c.loop-low.invariant.before;
      not_before =
          not_before_too g.L.Named.name_of c.args.lines.now c.args.places.now c.requires c.args.name.now middle inside
          c.index-lines-places.result c.index-lines-places.is here;
    }
