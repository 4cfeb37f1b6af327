-- The set of a list of names has the named capabilities.
use Rattle.std.proofs.Common.{◌≡◌, ℕ, ◌<◌, ◌≤◌, Bool, true, false, List, [], ◌∷◌, get_or, Option, Some, None, refl, sym, ap, ◌∙◌, arith}
use Rattle.std.specs.Prelude.{◌||◌, ◌==◌, ◌↔◌, fold, option_and_then}
use Rattle.std.specs.List.{list_any, filter_map, cons_option}
use Rattle.std.specs.Option.{option_map_or}
use Rattle.std.specs.Str.{bytes_eq}
use Rattle.std.proofs.lemmas.Bool.{false≢true, eqb-true, eq-eqb}
use Rattle.std.proofs.lemmas.List.Folds.{Any-from_list_any, list_any-from_Any}
use Rattle.std.proofs.lemmas.List.Quantifiers.{position-Some}
use Rattle.toml.specs.Data.{Data, as_str}
use Rattle.cap_sets.specs.Names.{names, name_of}
use Rattle.cap_sets.specs.Sets.{has, none, union, single}
use Rattle.cap_sets.proofs.Members.{has_none, has_with}
use Rattle.abs_path.proofs.Prefixes.{same_part}
use Rattle.site_table.specs.Caps.{cap_of, as_cap, caps_of, IsNamed}
use Rattle.site_table.proofs.CapNames.{the_cap}

or_none : (b : Bool) → b ≡ (b || false)
or_none true = refl
or_none false = refl

or_assoc : (a b c : Bool) → ((a || b) || c) ≡ (a || (b || c))
or_assoc true b c = refl
or_assoc false b c = refl

has_folded : (set : ℕ) (numbers : List ℕ) (number : ℕ) → has (fold (λ set n. union set (single n)) set numbers) number
    ≡ (has set number || list_any (λ n. number == n) numbers)
has_folded set [] number = or_none (has set number)
has_folded set (n ∷ numbers) number =
    has_folded (union set (single n)) numbers number
    ∙ ap (λ b. b || list_any (λ m. number == m) numbers) (has_with set n number)
    ∙ or_assoc (has set number) (number == n) (list_any (λ m. number == m) numbers)

abbrev is_number : ℕ → Option ℕ → Bool
is_number number found = option_map_or (λ n. number == n) found false

filtered : (values : List Data) (number : ℕ) → list_any (λ n. number == n) (filter_map as_cap values)
    ≡ list_any (λ value. is_number number (as_cap value)) values
filtered [] number = refl
filtered (value ∷ values) number = by (as_cap value) (filtered values number)
  where
    by : (found : Option ℕ) → list_any (λ n. number == n) (filter_map as_cap values)
        ≡ list_any (λ value. is_number number (as_cap value)) values
        → list_any (λ n. number == n) (cons_option found (filter_map as_cap values))
        ≡ (is_number number found || list_any (λ value. is_number number (as_cap value)) values)
    by None e = e
    by (Some n) e = ap (λ b. (number == n) || b) e

has_caps : (values : List Data) (number : ℕ) → has (caps_of values) number ≡ list_any (λ value. is_number number (as_cap value)) values
has_caps values number =
    has_folded none (filter_map as_cap values) number ∙ ap (λ b. b || list_any (λ n. number == n) (filter_map as_cap values))
    (has_none number) ∙ filtered values number

cap_named : (name : List ℕ) (number : ℕ) → cap_of name ≡ Some number → (number < 41) × (name ≡ name_of number)
unfolding name_of
cap_named name number e =
    let at = position-Some (λ known. bytes_eq known name) names number [] e in
    (at.0, sym (same_part (get_or names number []) name at.1))

value_names : (number : ℕ) (value : Data) → is_number number (as_cap value) ≡ true → (number < 41) × (as_str value ≡ Some (name_of number))
value_names number value h = by (as_str value) refl h
  where
    by : (text : Option (List ℕ)) → as_str value ≡ text → is_number number (option_and_then cap_of text) ≡ true
        → (number < 41) × (as_str value ≡ Some (name_of number))
    by None e h = absurd (false≢true h)
    by (Some name) e h = found (cap_of name) refl h
      where
        found : (cap : Option ℕ) → cap_of name ≡ cap → is_number number cap ≡ true → (number < 41) × (as_str value ≡ Some (name_of number))
        found None f h = absurd (false≢true h)
        found (Some n) f h = let is = cap_named name number (f ∙ ap Some (sym (eqb-true number n h))) in (is.0, e ∙ ap Some is.1)

pub caps_named : (values : List Data) (number : ℕ) → number ≤ 40 → (has (caps_of values) number ≡ true) ↔ IsNamed values number
caps_named values number small = (
  λ h.
      let some = Any-from_list_any (λ value. is_number number (as_cap value)) values (sym (has_caps values number) ∙ h) in
      record { value = some.1; listed = (some.0, some.2, some.3); name = (value_names number some.1 some.4).1 },
  λ h.
      has_caps values number
      ∙ list_any-from_Any (λ value. is_number number (as_cap value)) values
      (h.listed.0, h.value, h.listed.1, h.listed.2, ap (is_number number) (ap (option_and_then cap_of) h.name ∙ sym (the_cap (name_of number) number small refl)) ∙ eq-eqb number number refl),
)

pub caps_known : (values : List Data) (number : ℕ) → has (caps_of values) number ≡ true → number ≤ 40
caps_known values number h =
    let some = Any-from_list_any (λ value. is_number number (as_cap value)) values (sym (has_caps values number) ∙ h) in
    let known = (value_names number some.1 some.4).0 in
    omega arith
