use Rattle.std.proofs.Common.{◌≡◌, ℕ, ap, ◌∙◌, arith}
use Rattle.cap_sets.specs.Sets.{has, union, single}
use Rattle.cap_sets.proofs.Members.{has_with}
use Rattle.cap_sets.proofs.Words.{single_below}
use Rattle.cap_sets.proofs.set.CapSet.with.Goals as goal

pub returns-clause-members : goal.returns-clause-members
unfolding union single
returns-clause-members c number =
    let bit = single_below c.args.cap c.requires in
    let word : c.union.result.0 ≡ union c.args.self (single c.args.cap) = grind (arith, bit, c.union.ensures tt, c.self.view_is) in
    ap (λ (w : ℕ). has w number) word ∙ has_with c.args.self c.args.cap number
