-- What the position of an element tells of the element.
use Rattle.std.proofs.Common.{◌≡◌, ℕ, Bool, true, false, cond, not, List, [], ◌∷◌, ◌+◌, suc, length, nat_lt, get_or, Option, None, Some}
use Rattle.std.proofs.Common.{refl, sym, ap, ◌∙◌, arith, inl, inr}
use Rattle.std.specs.Prelude.{find, position, is_some, ◌||◌, option_copied, IfSome}
use Rattle.std.specs.List.{list_any, position_or_len, slice_get}
use Rattle.std.specs.Str.{bytes_eq}
use Rattle.std.specs.Borrow.{Bor}
use Rattle.std.proofs.lemmas.Bool.{cases_lt, lt-ltb, le-ltb, ltb-true, ltb-false}
use Rattle.std.proofs.lemmas.List.Folds.{find_at}
use Rattle.std.proofs.lemmas.Option.{cond_some, none-some, slice_get_past, slice_get-get_or}

-- whether a line has this name
abbrev pub has_name : {L : Type 0} → (L → List ℕ) → List ℕ → L → Bool
has_name name_of name = λ line. bytes_eq name (name_of line)

is_some_cond : {X : Type 0} (b : Bool) (x : X) → is_some (cond b (Some x) None) ≡ b
is_some_cond true x = refl
is_some_cond false x = refl

false_from_none : {X : Type 0} (b : Bool) (x : X) → cond b (Some x) None ≡ None → b ≡ false
false_from_none true x e = absurd (none-some x (sym e))
false_from_none false x e = refl

both_next : (n m : ℕ) → nat_lt (1 + n) (suc m) ≡ nat_lt n m
both_next n m = elim (cases_lt n m) [
  | inl below ↦ lt-ltb (1 + n) (suc m) (omega arith) ∙ sym (lt-ltb n m below)
  | inr above ↦ le-ltb (1 + n) (suc m) (omega arith) ∙ sym (le-ltb n m above)
]

module _ {L : Type 0} (test : L → Bool) where
  stands_below : (b : Bool) (n : ℕ) (lines : List L) → nat_lt n (length lines) ≡ list_any test lines
      → nat_lt (cond (not b) (1 + n) 0) (suc (length lines)) ≡ (b || list_any test lines)
  stands_below true n lines e = lt-ltb 0 (suc (length lines)) (omega arith)
  stands_below false n lines e = both_next n (length lines) ∙ e

  stands : (lines : List L) → nat_lt (position_or_len test lines) (length lines) ≡ list_any test lines
  stands [] = refl
  stands (line ∷ lines) = stands_below (test line) (position_or_len test lines) lines (stands lines)

  -- there is a position exactly where some element passes
  pub some_passes : (lines : List L) → is_some (position test lines) ≡ list_any test lines
  some_passes lines = is_some_cond (nat_lt (position_or_len test lines) (length lines)) (position_or_len test lines) ∙ stands lines

  -- the element at the position is the one that is found
  pub found_there : (lines : List L) (place : ℕ) → Some place ≡ position test lines → find test lines ≡ slice_get lines place
  found_there lines place e =
      let first = position_or_len test lines in
      find_at test lines ∙ ap (slice_get lines) (cond_some (nat_lt first (length lines)) first place (sym e)).1

  pub found_nowhere : (lines : List L) → None ≡ position test lines → find test lines ≡ None
  found_nowhere lines e =
      let first = position_or_len test lines in
      let beyond = ltb-false first (length lines) (false_from_none (nat_lt first (length lines)) first (sym e)) in
      find_at test lines ∙ slice_get_past lines first beyond

-- what is lent of a list is its element
pub lent : {L : Type 0} (lends : Option (Bor L)) (lines : List L) (place : ℕ) → is_some lends ≡ nat_lt place (length lines)
    → IfSome lends (λ line. line.now ≡ get_or lines place line.now) → option_copied lends ≡ slice_get lines place
lent None lines place is at = sym (slice_get_past lines place (ltb-false place (length lines) (sym is)))
lent (Some line) lines place is at =
    ap Some at ∙ sym (slice_get-get_or lines place line.now (ltb-true place (length lines) (sym is)))
