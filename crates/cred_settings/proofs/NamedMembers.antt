-- The members of a named set.
use Rattle.std.proofs.Common.{◌≡◌, ℕ, ◌≤◌, Bool, true, false, List, [], ◌∷◌, Option, Some, None, refl, sym, ap, ◌∙◌}
use Rattle.std.specs.Prelude.{◌||◌, ◌==◌, fold}
use Rattle.std.specs.Str.{bytes_eq}
use Rattle.std.specs.List.{list_any, filter_map, cons_option}
use Rattle.std.proofs.lemmas.Bool.{false_from_ne_true, eqb-true, eq-eqb}
use Rattle.std.proofs.lemmas.List.Quantifiers.{position-Some}
use Rattle.std.proofs.lemmas.Slice.Eq.{bytes_eq-Decides}
use Rattle.site_table.specs.cap_sets.Names.{names, name_of, in_lower_case}
use Rattle.site_table.specs.cap_sets.Sets.{has, none, union, single}
use Rattle.site_table.proofs.OfCapSets.Members.{has_none, has_with}
use Rattle.cred_settings.specs.CapNames.{cap_named, named_caps}
use Rattle.cred_settings.specs.Writings.{is_name_of}
use Rattle.cred_settings.proofs.CapsNamed.{the_cap}

abbrev is_number : ℕ → Option ℕ → Bool
is_number number None = false
is_number number (Some other) = number == other

-- a capability that is found has the name
found_name : (word : List ℕ) (k : ℕ) → cap_named word ≡ Some k → is_name_of k word ≡ true
unfolding name_of cap_named
found_name word k e = (position-Some (λ name. bytes_eq (in_lower_case name) (in_lower_case word)) names k [] e).1

named_is : (word : List ℕ) (number : ℕ) → number ≤ 40 → (o : Option ℕ) → cap_named word ≡ o → is_name_of number word ≡ is_number number o
named_is word number small None e =
    false_from_ne_true (is_name_of number word)
    (λ t. let found = the_cap word number small ((bytes_eq-Decides (in_lower_case (name_of number)) (in_lower_case word)).0 t) in cc)
named_is word number small (Some k) e = by (number == k) refl
  where
    by : (b : Bool) → (number == k) ≡ b → is_name_of number word ≡ b
    by true same = ap (λ n. is_name_of n word) (eqb-true number k same) ∙ found_name word k e
    by false other =
        false_from_ne_true (is_name_of number word)
        (λ t.
        let found = the_cap word number small ((bytes_eq-Decides (in_lower_case (name_of number)) (in_lower_case word)).0 t) in
        let same : number ≡ k = cc in
        let clash : (number == k) ≡ true = eq-eqb number k same in
        cc)

or_assoc : (a b c : Bool) → ((a || b) || c) ≡ (a || (b || c))
or_assoc true b c = refl
or_assoc false b c = refl

or_none : (a : Bool) → a ≡ (a || false)
or_none true = refl
or_none false = refl

abbrev is_list : ℕ → ℕ → List ℕ → Bool → Type 0
is_list number set numbers any = has (fold (λ s n. union s (single n)) set numbers) number ≡ (has set number || any)

one_member : (number set : ℕ) (numbers : List ℕ) (any named : Bool) (o : Option ℕ) → named ≡ is_number number o
    → ((other : ℕ) → is_list number other numbers any) → is_list number set (cons_option o numbers) (named || any)
one_member number set numbers any named None e more = more set ∙ ap (λ b. has set number || (b || any)) (sym e)
one_member number set numbers any named (Some k) e more =
    more (union set (single k))
    ∙ ap (λ b. b || any) (has_with set k number)
    ∙ or_assoc (has set number) (number == k) any
    ∙ ap (λ b. has set number || (b || any)) (sym e)

members_of : (number : ℕ) → number ≤ 40 → (words : List (List ℕ)) (set : ℕ)
    → is_list number set (filter_map cap_named words) (list_any (is_name_of number) words)
members_of number small [] set = or_none (has set number)
members_of number small (word ∷ words) set =
    one_member number set (filter_map cap_named words) (list_any (is_name_of number) words) (is_name_of number word) (cap_named word)
    (named_is word number small (cap_named word) refl) (λ other. members_of number small words other)

pub members_named : (words : List (List ℕ)) (number : ℕ) → number ≤ 40 → has (named_caps words) number ≡ list_any (is_name_of number) words
members_named words number small = members_of number small words none ∙ ap (λ b. b || list_any (is_name_of number) words) (has_none number)
