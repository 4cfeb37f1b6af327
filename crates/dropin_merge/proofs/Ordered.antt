-- Names in byte order, each once, and lists of pairs by such names.
use Rattle.std.proofs.Common.{◌≡◌, ℕ, Bool, true, false, cond, List, [], ◌∷◌, Option, Some, None, refl, sym, ap, ◌∙◌}
use Rattle.std.specs.Prelude.{◌||◌}
use Rattle.std.specs.declared.cmp.Ordering.{Ordering}
use Rattle.std.specs.declared.cmp.Ordering.TheVariants.{Less, Equal, Greater}
use Rattle.std.specs.Ordering.{nat_cmp, match_ordering, ordering_reverse}
use Rattle.std.specs.Cmp.Lexicographic.{slice_cmp}
use Rattle.std.specs.List.{list_any, filter_map, cons_option, AllByRecursion}
use Rattle.std.specs.List.Sorted.{IsStrictlySortedBy}
use Rattle.std.specs.Map.{keys_of, lookup}
use Rattle.std.specs.Str.{bytes_eq}
use Rattle.std.specs.BTreeMap.{is_at}
use Rattle.std.proofs.lemmas.Cmp.{nat_list_cmp_total}
use Rattle.std.proofs.lemmas.Map.Lookups.{exact_bytes}
use Rattle.std.proofs.lemmas.Map.Text.{is_eq-slice_cmp}
use Rattle.std.proofs.lemmas.Slice.Eq.{bytes_eq-Decides}
use Rattle.dropin_merge.specs.Winners.{with_name, in_byte_order, won}

abbrev pub byte_cmp : List ℕ → List ℕ → Ordering
byte_cmp = slice_cmp nat_cmp

-- a name is below all names that are above a greater one
below_all : (name first : List ℕ) → byte_cmp name first ≡ Less → (names : List (List ℕ))
    → AllByRecursion (λ y. byte_cmp first y ≡ Less) names → AllByRecursion (λ y. byte_cmp name y ≡ Less) names
below_all name first less [] all = tt
below_all name first less (y ∷ names) all = (nat_list_cmp_total.trans name first y less all.0, below_all name first less names all.1)

-- a name below another and below some names is also below the other added to them
above_with : (first name : List ℕ) → byte_cmp first name ≡ Less → (names : List (List ℕ))
    → AllByRecursion (λ y. byte_cmp first y ≡ Less) names → AllByRecursion (λ y. byte_cmp first y ≡ Less) (with_name name names)
above_with first name less [] all = (less, tt)
above_with first name less (y ∷ names) all = by_order (above_with first name less names all.1) (byte_cmp name y)
  where
    by_order : AllByRecursion (λ y. byte_cmp first y ≡ Less) (with_name name names) → (o : Ordering)
        → AllByRecursion (λ y. byte_cmp first y ≡ Less) (match_ordering o (name ∷ y ∷ names) (y ∷ names) (y ∷ with_name name names))
    by_order rest Less = (less, all)
    by_order rest Equal = all
    by_order rest Greater = (all.0, rest)

greater_back : (a b : List ℕ) → byte_cmp a b ≡ Greater → byte_cmp b a ≡ Less
greater_back a b e = nat_list_cmp_total.antisymm b a ∙ ap ordering_reverse e

sorted_with : (name : List ℕ) (names : List (List ℕ)) → IsStrictlySortedBy byte_cmp names
    → IsStrictlySortedBy byte_cmp (with_name name names)
unfolding IsStrictlySortedBy
sorted_with name [] sorted = (tt, tt)
sorted_with name (y ∷ names) sorted = by_order (sorted_with name names sorted.1) (byte_cmp name y) refl
  where
    by_order : IsStrictlySortedBy byte_cmp (with_name name names) → (o : Ordering) → byte_cmp name y ≡ o
        → IsStrictlySortedBy byte_cmp (match_ordering o (name ∷ y ∷ names) (y ∷ names) (y ∷ with_name name names))
    by_order rest Less e = ((e, below_all name y e names sorted.0), sorted)
    by_order rest Equal e = sorted
    by_order rest Greater e = (above_with y name (greater_back name y e) names sorted.0, rest)

pub in_byte_order-sorted : (names : List (List ℕ)) → IsStrictlySortedBy byte_cmp (in_byte_order names)
unfolding IsStrictlySortedBy
in_byte_order-sorted [] = tt
in_byte_order-sorted (name ∷ names) = sorted_with name (in_byte_order names) (in_byte_order-sorted names)

-- ---- the names stay the same
swapped : (a b c : Bool) → (a || (b || c)) ≡ (b || (a || c))
swapped true true c = refl
swapped true false c = refl
swapped false true c = refl
swapped false false c = refl

doubled : (a c : Bool) → (a || c) ≡ (a || (a || c))
doubled true c = refl
doubled false c = refl

any_with : (q name : List ℕ) (names : List (List ℕ)) → list_any (bytes_eq q) (with_name name names)
    ≡ (bytes_eq q name || list_any (bytes_eq q) names)
any_with q name [] = refl
any_with q name (y ∷ names) = by_order (any_with q name names) (byte_cmp name y) refl
  where
    by_order : list_any (bytes_eq q) (with_name name names) ≡ (bytes_eq q name || list_any (bytes_eq q) names) → (o : Ordering)
        → byte_cmp name y ≡ o → list_any (bytes_eq q) (match_ordering o (name ∷ y ∷ names) (y ∷ names) (y ∷ with_name name names))
        ≡ (bytes_eq q name || (bytes_eq q y || list_any (bytes_eq q) names))
    by_order rest Less e = refl
    by_order rest Equal e = ap (λ n. bytes_eq q n || list_any (bytes_eq q) names) (sym (exact_bytes name y e))
        ∙ doubled (bytes_eq q name) (list_any (bytes_eq q) names)
        ∙ ap (λ n. bytes_eq q name || (bytes_eq q n || list_any (bytes_eq q) names)) (exact_bytes name y e)
    by_order rest Greater e = ap (λ b. bytes_eq q y || b) rest ∙ swapped (bytes_eq q y) (bytes_eq q name) (list_any (bytes_eq q) names)

pub any-in_byte_order : (q : List ℕ) (names : List (List ℕ)) → list_any (bytes_eq q) (in_byte_order names) ≡ list_any (bytes_eq q) names
any-in_byte_order q [] = refl
any-in_byte_order q (name ∷ names) = any_with q name (in_byte_order names) ∙ ap (λ b. bytes_eq q name || b) (any-in_byte_order q names)

-- ---- names with the values of a function for them
module _ (f : List ℕ → Option (List ℕ)) where
  all_given : (first : List ℕ) (names : List (List ℕ)) → AllByRecursion (λ y. byte_cmp first y ≡ Less) names
      → AllByRecursion (λ y. byte_cmp first y ≡ Less) (keys_of (filter_map (λ name. won name (f name)) names))
  all_given first [] all = tt
  all_given first (y ∷ names) all = by_found (all_given first names all.1) (f y)
    where
      by_found : AllByRecursion (λ y. byte_cmp first y ≡ Less) (keys_of (filter_map (λ name. won name (f name)) names))
          → (o : Option (List ℕ)) → AllByRecursion (λ y. byte_cmp first y ≡ Less)
          (keys_of (cons_option (won y o) (filter_map (λ name. won name (f name)) names)))
      by_found rest None = rest
      by_found rest (Some path) = (all.0, rest)

  pub sorted_given : (names : List (List ℕ)) → IsStrictlySortedBy byte_cmp names
      → IsStrictlySortedBy byte_cmp (keys_of (filter_map (λ name. won name (f name)) names))
  unfolding IsStrictlySortedBy
  sorted_given [] sorted = tt
  sorted_given (y ∷ names) sorted = by_found (sorted_given names sorted.1) (f y)
    where
      by_found : IsStrictlySortedBy byte_cmp (keys_of (filter_map (λ name. won name (f name)) names)) → (o : Option (List ℕ))
          → IsStrictlySortedBy byte_cmp (keys_of (cons_option (won y o) (filter_map (λ name. won name (f name)) names)))
      by_found rest None = rest
      by_found rest (Some path) = (all_given y names sorted.0, rest)

  none_left : (b : Bool) (o : Option (List ℕ)) → o ≡ None → cond b o None ≡ o
  none_left true o e = refl
  none_left false o e = sym e

  pub lookup_given : (q : List ℕ) (names : List (List ℕ)) → lookup (is_at (byte_cmp q)) (filter_map (λ name. won name (f name)) names)
      ≡ cond (list_any (bytes_eq q) names) (f q) None
  lookup_given q [] = refl
  lookup_given q (y ∷ names) = by_found (lookup_given q names) (f y) refl (bytes_eq q y) refl
    where
      by_found : lookup (is_at (byte_cmp q)) (filter_map (λ name. won name (f name)) names)
          ≡ cond (list_any (bytes_eq q) names) (f q) None → (o : Option (List ℕ)) → f y ≡ o → (b : Bool) → bytes_eq q y ≡ b
          → lookup (is_at (byte_cmp q)) (cons_option (won y o) (filter_map (λ name. won name (f name)) names))
          ≡ cond (b || list_any (bytes_eq q) names) (f q) None
      by_found rest None e true same =
          rest ∙ none_left (list_any (bytes_eq q) names) (f q) (ap f ((bytes_eq-Decides q y).0 same) ∙ e)
      by_found rest None e false same = rest
      by_found rest (Some path) e true same =
          ap (λ b. cond b (Some path) (lookup (is_at (byte_cmp q)) (filter_map (λ name. won name (f name)) names)))
          (is_eq-slice_cmp q y ∙ same)
          ∙ sym (ap f ((bytes_eq-Decides q y).0 same) ∙ e)
      by_found rest (Some path) e false same =
          ap (λ b. cond b (Some path) (lookup (is_at (byte_cmp q)) (filter_map (λ name. won name (f name)) names)))
          (is_eq-slice_cmp q y ∙ same)
          ∙ rest
