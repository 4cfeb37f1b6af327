-- The text after `@` at the front of a word.
use Rattle.std.proofs.Common.{◌≡◌, ◌≢◌, ℕ, true, false, cond, eqb, Option, Some, None, List, [], ◌∷◌, refl, sym, ap, arith}
use Rattle.std.specs.Option.{option_map, MatchOption}
use Rattle.std.proofs.lemmas.Bool.Decides.{nat_tests}
use Rattle.call_table.specs.Names.{behind_at}
use denote.Ref.{Bor}

same_number : (x y : ℕ) → eqb x y ≡ true → x ≡ y
same_number x y e = grind (arith, nat_tests)

none_behind : (word : List ℕ) → ((name : List ℕ) → word ≢ 64 ∷ name) → behind_at word ≡ None
none_behind [] h = refl
none_behind (byte ∷ name) h =
    elim (eqb byte 64) as (λ v. eqb byte 64 ≡ v → cond v (Some name) None ≡ None)
    [ true ↦ λ e. absurd (h name (ap (λ b. b ∷ name) (same_number byte 64 e))) | false ↦ λ e. refl ] refl

pub behind_known : (word : List ℕ) (r : Option (Bor (List ℕ)))
    → MatchOption r ((name : List ℕ) → word ≢ 64 ∷ name) (λ x. word ≡ 64 ∷ x.now) → option_map (λ x. x.now) r ≡ behind_at word
behind_known word None h = sym (none_behind word h)
behind_known word (Some x) h = sym (ap behind_at h)
