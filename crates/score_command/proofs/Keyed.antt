-- Lists of pairs by texts in byte order, whatever stands beside the texts.
use Rattle.std.proofs.Common.{◌≡◌, ℕ, Bool, true, false, cond, List, [], ◌∷◌, Option, Some, None, map, String, Global, refl, sym, ap, ◌∙◌}
use Rattle.std.proofs.Common.{subst}
use Rattle.std.specs.Prelude.{◌&&◌, ◌||◌, T, string_bytes}
use Rattle.std.specs.declared.cmp.Ordering.TheVariants.{Less}
use Rattle.std.specs.Option.{option_map}
use Rattle.std.specs.Ordering.{is_lt}
use Rattle.std.specs.String.{string_cmp}
use Rattle.std.specs.Str.{bytes_eq}
use Rattle.std.specs.List.{list_any, filter_map, cons_option, AllByRecursion}
use Rattle.std.specs.List.Sorted.{IsStrictlySortedBy}
use Rattle.std.specs.Map.{keys_of, values_of, lookup}
use Rattle.std.specs.BTreeMap.{is_at}
use Rattle.std.specs.FinMap.Entries.{find as find_key, below_all, is_sorted, same_entries}
use Rattle.std.proofs.lemmas.Cmp.{nat_list_cmp_total}
use Rattle.std.proofs.lemmas.Map.Lookups.{exact_bytes}
use Rattle.std.proofs.lemmas.Map.Text.{is_eq-slice_cmp}
use Rattle.std.proofs.lemmas.Slice.Eq.{bytes_eq-Decides}
use Rattle.report_text.proofs.OfDropinMerge.Ordered.{byte_cmp}

-- ---- texts with what a function gives for them
module _ {X : Type 0} (f : List ℕ → Option X) where
  abbrev pub given : List (List ℕ) → List (List ℕ × X)
  given texts = filter_map (λ text. option_map (λ x. (text, x)) (f text)) texts

  above_given : (first : List ℕ) (texts : List (List ℕ)) → AllByRecursion (λ y. byte_cmp first y ≡ Less) texts
      → AllByRecursion (λ y. byte_cmp first y ≡ Less) (keys_of (given texts))
  above_given first [] above = tt
  above_given first (text ∷ texts) above = by_found (above_given first texts above.1) (f text)
    where
      by_found : AllByRecursion (λ y. byte_cmp first y ≡ Less) (keys_of (given texts)) → (o : Option X)
          → AllByRecursion (λ y. byte_cmp first y ≡ Less) (keys_of (cons_option (option_map (λ x. (text, x)) o) (given texts)))
      by_found rest None = rest
      by_found rest (Some x) = (above.0, rest)

  pub sorted_given : (texts : List (List ℕ)) → IsStrictlySortedBy byte_cmp texts → IsStrictlySortedBy byte_cmp (keys_of (given texts))
  unfolding IsStrictlySortedBy
  sorted_given [] sorted = tt
  sorted_given (text ∷ texts) sorted = by_found (sorted_given texts sorted.1) (f text)
    where
      by_found : IsStrictlySortedBy byte_cmp (keys_of (given texts)) → (o : Option X)
          → IsStrictlySortedBy byte_cmp (keys_of (cons_option (option_map (λ x. (text, x)) o) (given texts)))
      by_found rest None = rest
      by_found rest (Some x) = (above_given text texts sorted.0, rest)

  none_left : (b : Bool) (o : Option X) → o ≡ None → cond b o None ≡ o
  none_left true o e = refl
  none_left false o e = sym e

  pub lookup_given : (q : List ℕ) (texts : List (List ℕ)) → lookup (is_at (byte_cmp q)) (given texts)
      ≡ cond (list_any (bytes_eq q) texts) (f q) None
  lookup_given q [] = refl
  lookup_given q (text ∷ texts) = by_found (lookup_given q texts) (f text) refl (bytes_eq q text) refl
    where
      by_found : lookup (is_at (byte_cmp q)) (given texts) ≡ cond (list_any (bytes_eq q) texts) (f q) None → (o : Option X) → f text ≡ o
          → (b : Bool) → bytes_eq q text ≡ b
          → lookup (is_at (byte_cmp q)) (cons_option (option_map (λ x. (text, x)) o) (given texts))
          ≡ cond (b || list_any (bytes_eq q) texts) (f q) None
      by_found rest None e true same = rest ∙ none_left (list_any (bytes_eq q) texts) (f q) (ap f ((bytes_eq-Decides q text).0 same) ∙ e)
      by_found rest None e false same = rest
      by_found rest (Some x) e true same =
          ap (λ b. cond b (Some x) (lookup (is_at (byte_cmp q)) (given texts))) (is_eq-slice_cmp q text ∙ same)
          ∙ sym (ap f ((bytes_eq-Decides q text).0 same) ∙ e)
      by_found rest (Some x) e false same = ap (λ b. cond b (Some x) (lookup (is_at (byte_cmp q)) (given texts)))
          (is_eq-slice_cmp q text ∙ same) ∙ rest

  pub values_given : (texts : List (List ℕ)) → values_of (given texts) ≡ filter_map f texts
  values_given [] = refl
  values_given (text ∷ texts) = by_found (values_given texts) (f text)
    where
      by_found : values_of (given texts) ≡ filter_map f texts → (o : Option X)
          → values_of (cons_option (option_map (λ x. (text, x)) o) (given texts)) ≡ cons_option o (filter_map f texts)
      by_found rest None = rest
      by_found rest (Some x) = ap (λ xs. x ∷ xs) rest

-- ---- entries of a map, and lists of pairs
both_hold : (a b : Bool) → T a → T b → T (a && b)
both_hold true b f g = g
both_hold false b f g = f

module _ {X : Type 0} where
  below_test : (first : List ℕ) (es : List (List ℕ × X)) → AllByRecursion (λ y. byte_cmp first y ≡ Less) (keys_of es)
      → T (below_all byte_cmp first es)
  below_test first [] all = tt
  below_test first (entry ∷ es) all = both_hold _ _ (subst (λ o. T (is_lt o)) (sym all.0) tt) (below_test first es all.1)

  sorted_test : (es : List (List ℕ × X)) → IsStrictlySortedBy byte_cmp (keys_of es) → T (is_sorted byte_cmp es)
  unfolding IsStrictlySortedBy
  sorted_test [] sorted = tt
  sorted_test (entry ∷ es) sorted = both_hold _ _ (below_test entry.0 es sorted.0) (sorted_test es sorted.1)

  find_is_lookup : (q : List ℕ) (es : List (List ℕ × X)) → find_key byte_cmp q es ≡ lookup (is_at (byte_cmp q)) es
  find_is_lookup q [] = refl
  find_is_lookup q (entry ∷ es) = ap (cond (is_at (byte_cmp q) entry.0) (Some entry.1)) (find_is_lookup q es)

  -- two lists in order are one where they have the same at each text
  pub same_from_lookups : (es fs : List (List ℕ × X)) → IsStrictlySortedBy byte_cmp (keys_of es)
      → IsStrictlySortedBy byte_cmp (keys_of fs) → ((q : List ℕ) → lookup (is_at (byte_cmp q)) es ≡ lookup (is_at (byte_cmp q)) fs)
      → es ≡ fs
  same_from_lookups es fs s t h =
      same_entries byte_cmp nat_list_cmp_total exact_bytes es fs (sorted_test es s) (sorted_test fs t)
      (λ q. find_is_lookup q es ∙ h q ∙ sym (find_is_lookup q fs))

  abbrev pub keyed : String Global × X → List ℕ × X
  keyed entry = (string_bytes entry.0, entry.1)

  pub lookup_keyed : (q : List ℕ) (es : List (String Global × X))
      → lookup (is_at (byte_cmp q)) (map keyed es) ≡ lookup (is_at (λ k. byte_cmp q (string_bytes k))) es
  lookup_keyed q [] = refl
  lookup_keyed q (entry ∷ es) = ap (cond (is_at (byte_cmp q) (string_bytes entry.0)) (Some entry.1)) (lookup_keyed q es)

  below_keyed : (first : String Global) (es : List (String Global × X)) → AllByRecursion (λ y. string_cmp first y ≡ Less) (keys_of es)
      → AllByRecursion (λ y. byte_cmp (string_bytes first) y ≡ Less) (keys_of (map keyed es))
  below_keyed first [] all = tt
  below_keyed first (entry ∷ es) all = (all.0, below_keyed first es all.1)

  pub sorted_keyed : (es : List (String Global × X)) → IsStrictlySortedBy string_cmp (keys_of es)
      → IsStrictlySortedBy byte_cmp (keys_of (map keyed es))
  unfolding IsStrictlySortedBy
  sorted_keyed [] sorted = tt
  sorted_keyed (entry ∷ es) sorted = (below_keyed entry.0 es sorted.0, sorted_keyed es sorted.1)

  pub values_keyed : (es : List (String Global × X)) → values_of (map keyed es) ≡ values_of es
  values_keyed [] = refl
  values_keyed (entry ∷ es) = ap (λ xs. entry.1 ∷ xs) (values_keyed es)
