use Rattle.std.proofs.Common.{sym, ◌∙◌, ap, arith}
use Rattle.std.specs.Str.{bytes_eq}
use Rattle.call_table.proofs.Caps.{cap_found, cap_nowhere}
use Rattle.call_table.proofs.numbers.read_cap.Goals as goal

pub returns-then-eq-clause-named : goal.returns-then-eq-clause-named
returns-then-eq-clause-named c =
    cap_found c.args.word.now c.loop-cap.cap (omega arith) c.loop-cap.invariant
    (ap (λ name. bytes_eq name c.args.word.now) (sym c.name.ensures.its_name) ∙ (sym c.eq.ensures ∙ c.if-eq.true))

pub returns-clause-named : goal.returns-clause-named
returns-clause-named c = cap_nowhere c.args.word.now (λ k h. c.loop-cap.invariant k (omega arith))
