use Rattle.std.proofs.Common.{arith, ap, sym, ◌∙◌, Some}
use Rattle.std.specs.Option.{option_and_then}
use Rattle.std.specs.Fmt.{option_append}
use Rattle.unit_names.specs.Expansion.{expanded_bytes, if_short}
use Rattle.unit_names.proofs.Limit.{too_many}
use Rattle.unit_names.proofs.expansion.expanded_bytes.Goals as goal

pub returns-then-len-gt-LONGEST_VALUE : goal.returns-then-len-gt-LONGEST_VALUE
returns-then-len-gt-LONGEST_VALUE c =
    let bytes = c.push_piece.new.bytes.items in
    let left = expanded_bytes c.args.systemd c.args.name.now c.in_ok-rest.rest.now in
    let taken = c.in_ok-rest.ensures.0 in
    let whole = ap (λ rest. option_append (Some c.loop-first.bytes.items) (expanded_bytes c.args.systemd c.args.name.now rest)) c.in-Some.ensures.cases.0 in
    ap (option_and_then if_short) (sym c.loop-first.invariant.0 ∙ whole ∙ taken)
    ∙ too_many bytes left (omega (arith, c.len.ensures, c.if-len-gt-LONGEST_VALUE.true))
