use Rattle.std.proofs.Common.{◌≡◌, ◌∙◌, arith, sym}
use Rattle.cap_sets.specs.Sets.{within}
use Rattle.cap_sets.proofs.Members.{IsWithin-from_within, within-from_IsWithin}
use Rattle.cap_sets.proofs.set.CapSet.within.Goals as goal

pub returns-clause-each : goal.returns-clause-each
unfolding within
returns-clause-each c =
    let test : c.contains.result ≡ within c.args.self c.args.other = grind (arith, c.contains.ensures tt, c.self.view_is, c.other.view_is) in
    (λ h. IsWithin-from_within c.args.self c.args.other (sym test ∙ h), λ w. test ∙ within-from_IsWithin c.args.self c.args.other w)
