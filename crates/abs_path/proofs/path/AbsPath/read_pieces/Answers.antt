use Rattle.std.proofs.Common.{sym, arith, ◌∙◌}
use Rattle.abs_path.proofs.Reading.{no_fault, climbs_fault, climbs_is, folded_is, read_is, read_parts}
use Rattle.abs_path.proofs.path.AbsPath.read_pieces.Goals as goal

pub returns-then-climbs : goal.returns-then-climbs
returns-then-climbs c =
    climbs_fault c.args.text.now (omega arith) (sym c.if-has_nul.ensures) (sym c.if-not-is_rooted.ensures)
    (climbs_is c.args.text.now _ _ _ c.deref.ensures.value c.in_ok-pieces.ensures c.if-climbs.ensures)

pub invariant_of-result : goal.invariant_of-result
invariant_of-result c = read_is c.args.text.now c.in_ok-tail.tail (omega arith) (sym c.if-has_nul.ensures) (sym c.if-not-is_rooted.ensures)
    (climbs_is c.args.text.now _ _ _ c.deref.ensures.value c.in_ok-pieces.ensures c.if-climbs.ensures)
    (folded_is c.args.text.now _ _ _ c.deref-2.ensures.value c.in_ok-pieces.ensures (c.in_ok-tail.ensures ∙ c.in_ok-folded.ensures))

pub returns : goal.returns
returns c =
    let level = climbs_is c.args.text.now _ _ _ c.deref.ensures.value c.in_ok-pieces.ensures c.if-climbs.ensures in (
      no_fault c.args.text.now (omega arith) (sym c.if-has_nul.ensures) (sym c.if-not-is_rooted.ensures) level,
      read_parts c.args.text.now c.in_ok-tail.tail (sym c.if-has_nul.ensures) level
          (folded_is c.args.text.now _ _ _ c.deref-2.ensures.value c.in_ok-pieces.ensures (c.in_ok-tail.ensures ∙ c.in_ok-folded.ensures)),
    )
