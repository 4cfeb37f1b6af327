use Rattle.std.proofs.Common.{arith, sym, ap, ◌∙◌}
use Rattle.std.specs.Str.{bytes_eq}
use Rattle.name_table.proofs.Halving.{place_in_range}
use Rattle.name_table.proofs.Finding.{found, missing, past}
use Rattle.name_table.proofs.place_of.Goals as goal

pub returns-then-rank-places : goal.returns-then-rank-places
returns-then-rank-places g c = record {
  by_name =
      past g.L.Named.name_of c.args.lines.now c.args.places.now c.requires c.args.name.now c.rank_of-rank.result
      c.rank_of-rank.ensures.rank c.if-rank-places.true;
}

pub offset_bounds-lines-place : goal.offset_bounds-lines-place
offset_bounds-lines-place g c =
    let inside = place_in_range g.L.Named.name_of c.args.lines.now c.args.places.now c.requires c.rank_of-rank.result (omega arith) in
    omega arith

pub bounds-lines-place : goal.bounds-lines-place
bounds-lines-place g c =
    place_in_range g.L.Named.name_of c.args.lines.now c.args.places.now c.requires c.rank_of-rank.result (omega arith)

pub returns-then-eq : goal.returns-then-eq
returns-then-eq g c =
    let same = ap (λ name. bytes_eq name c.args.name.now) (sym c.name.ensures) ∙ sym c.eq.ensures ∙ c.if-eq.true in
    record {
      by_name =
          found g.L.Named.name_of c.args.lines.now c.args.places.now c.requires c.args.name.now c.rank_of-rank.result
          c.rank_of-rank.ensures.rank (omega arith) c.index-lines-place.result c.index-lines-place.is same;
    }

pub returns-else-eq : goal.returns-else-eq
returns-else-eq g c =
    let other = ap (λ name. bytes_eq name c.args.name.now) (sym c.name.ensures) ∙ sym c.eq.ensures ∙ c.if-eq.false in
    record {
      by_name =
          missing g.L.Named.name_of c.args.lines.now c.args.places.now c.requires c.args.name.now c.rank_of-rank.result
          c.rank_of-rank.ensures.rank (omega arith) c.index-lines-place.result c.index-lines-place.is other;
    }
