-- Which places lead to a path that is a front and a rest.
use Rattle.std.proofs.Common.{◌≡◌, inl, inr, Bool, true, false, List, ℕ, ◌++◌, Option, Some, None, refl, cond, ap, ◌∙◌, sym}
use Rattle.std.specs.Prelude.{is_some}
use Rattle.kernel_laws.specs.abs_path.Paths.{Path, tail_of, parts_of, is_normal}
use Rattle.kernel_laws.specs.abs_path.Prefix.{is_prefix, rest_of, rest_text, IsRest, behind_text}
use Rattle.kernel_laws.proofs.OfAbsPath.Prefixes.{prefix-append, prefix_chain}
use Rattle.kernel_laws.proofs.OfAbsPath.Reading.{rest_text_is, rest_then_join}
use Rattle.kernel_laws.proofs.OfKernMounts.Paths.{front_leads, leads_on}

-- two tests are one where each makes the other true
same_test : (one other : Bool) → (one ≡ true → other ≡ true) → (other ≡ true → one ≡ true) → one ≡ other
same_test true other there back = sym (there refl)
same_test false true there back = back refl
same_test false false there back = refl

no_prefix : (front path : Path) → None ≡ rest_text front path → is_prefix front path ≡ false
no_prefix front path e = by (is_prefix front path) e
  where
    by : (b : Bool) → None ≡ cond b (Some (tail_of (rest_of front path))) None → b ≡ false
    by true e = cc
    by false e = refl

-- a place that the front does not lead to leads to what is behind the front exactly where it leads to the front
pub leads_before : (place front rest : Path) → None ≡ rest_text front place → is_prefix place front ≡ is_prefix place (front ++ rest)
leads_before place front rest none' = same_test (is_prefix place front) (is_prefix place (front ++ rest))
    (λ e. leads_on place front rest e) back
  where
    off : is_prefix front place ≡ false
    off = no_prefix front place none'

    back : is_prefix place (front ++ rest) ≡ true → is_prefix place front ≡ true
    back e = elim (prefix_chain place front (front ++ rest) e (prefix-append front rest)) [ inl here ↦ here | inr there ↦ (let clash : true ≡ false = sym there ∙ off in cc) ]

some_rest : (front path : Path) → is_some (rest_text front path) ≡ is_prefix front path
some_rest front path = by (is_prefix front path)
  where
    by : (b : Bool) → is_some (cond b (Some (tail_of (rest_of front path))) None) ≡ b
    by true = refl
    by false = refl

-- one below the front leads there exactly where the rest's text is, or goes on behind, what its text has behind the front
pub leads_behind : (place front : Path) (further rest : List ℕ) → is_normal place ≡ true → IsRest further → IsRest rest
    → Some further ≡ rest_text front place
    → is_some (behind_text further rest) ≡ is_prefix place (front ++ parts_of rest)
leads_behind place front further rest normal f r is =
    ap (λ l. is_some (behind_text l rest)) (sym f.whole) ∙ ap (λ l. is_some (behind_text (tail_of (parts_of further)) l)) (sym r.whole)
    ∙ ap (λ (o : Option (List ℕ)). is_some o) (rest_text_is (parts_of further) (parts_of rest) f.parts r.parts)
    ∙ some_rest (parts_of further) (parts_of rest)
    ∙ sym (front_leads front (parts_of further) (parts_of rest))
    ∙ ap (λ p. is_prefix p (front ++ parts_of rest)) (rest_then_join front place further normal (sym is))
