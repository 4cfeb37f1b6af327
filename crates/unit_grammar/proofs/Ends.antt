-- A text has a rest after a first byte, and a front before a last byte.
use Rattle.std.proofs.Common.{◌≡◌, ◌≢◌, ℕ, true, false, cond, eqb, Option, Some, None, List, [], ◌∷◌, ◌++◌, reverse, refl, sym, ap, ◌∙◌}
use Rattle.std.specs.Option.{option_map, MatchOption}
use Rattle.std.proofs.lemmas.List.{reverse-append, reverse-reverse}
use Rattle.std.proofs.lemmas.Bool.{eq-eqb, eqb-true}
use Rattle.unit_grammar.specs.Kinds.{behind, before}
use denote.Ref.{Bor}

pub behind_some : (byte : ℕ) (bs rest : List ℕ) → bs ≡ byte ∷ rest → behind byte bs ≡ Some rest
behind_some byte bs rest e = ap (behind byte) e ∙ ap (λ b. cond b (Some rest) None) (eq-eqb byte byte refl)

pub behind_none : (byte : ℕ) (bs : List ℕ) → ((rest : List ℕ) → bs ≢ byte ∷ rest) → behind byte bs ≡ None
behind_none byte [] h = refl
behind_none byte (b ∷ bs) h =
    elim (eqb b byte) as (λ v. eqb b byte ≡ v → cond v (Some bs) None ≡ None)
    [ true ↦ λ e. absurd (h bs (ap (λ x. x ∷ bs) (eqb-true b byte e))) | false ↦ λ e. refl ] refl

pub behind_known : (byte : ℕ) (bs : List ℕ) (r : Option (Bor (List ℕ)))
    → MatchOption r ((rest : List ℕ) → bs ≢ byte ∷ rest) (λ x. bs ≡ byte ∷ x.now) → option_map (λ x. x.now) r ≡ behind byte bs
behind_known byte bs None h = sym (behind_none byte bs h)
behind_known byte bs (Some x) h = sym (behind_some byte bs x.now h)

pub before_known : (byte : ℕ) (bs : List ℕ) (r : Option (Bor (List ℕ)))
    → MatchOption r ((front : List ℕ) → bs ≢ front ++ byte ∷ []) (λ x. bs ≡ x.now ++ byte ∷ []) → option_map (λ x. x.now) r ≡ before byte bs
before_known byte bs None h =
    sym (ap (option_map reverse)
    (behind_none byte (reverse bs)
    (λ rest e. h (reverse rest) (sym (reverse-reverse bs) ∙ ap reverse e ∙ reverse-append (byte ∷ []) rest))))
before_known byte bs (Some x) h =
    sym (ap (option_map reverse) (behind_some byte (reverse bs) (reverse x.now) (ap reverse h ∙ reverse-append x.now (byte ∷ [])))
    ∙ ap Some (reverse-reverse x.now))
