-- A set of texts is known by its keys.
use Rattle.std.proofs.Common.{◌≡◌, ℕ, Bool, true, false, cond, List, [], ◌∷◌, map, String, Global, string_bytes, string_cmp, nat_cmp, is_eq}
use Rattle.std.proofs.Common.{refl, sym, ap, ◌∙◌}
use Rattle.std.specs.Prelude.{◌||◌}
use Rattle.std.specs.BTreeSet as set
use Rattle.std.specs.BTreeSet.{BTreeSet}
use Rattle.std.specs.Cmp.Lexicographic.{slice_cmp}
use Rattle.std.specs.List.{list_any}
use Rattle.std.specs.Str.{bytes_eq}
use Rattle.std.proofs.lemmas.Map.Text.{is_eq-slice_cmp, btree_set_updates_text}
use Rattle.abs_path.proofs.Prefixes.{same_part, part_itself}
use Rattle.site_table.specs.Texts.{has_text}

pub same_test : (one other : Bool) → (one ≡ true → other ≡ true) → (other ≡ true → one ≡ true) → one ≡ other
same_test true other h g = sym (h refl)
same_test false true h g = g refl
same_test false false h g = refl

pub bytes_eq-swap : (one other : List ℕ) → bytes_eq one other ≡ bytes_eq other one
bytes_eq-swap one other =
    same_test (bytes_eq one other) (bytes_eq other one) (λ e. part_itself other one (sym (same_part one other e)))
    (λ e. part_itself one other (sym (same_part other one e)))

pub seen_has : (keys : List (String Global)) (text : List ℕ)
    → list_any (λ key. is_eq (slice_cmp nat_cmp text (string_bytes key))) keys ≡ has_text (map string_bytes keys) text
seen_has [] text = refl
seen_has (key ∷ keys) text =
    ap (λ b. b || list_any (λ key. is_eq (slice_cmp nat_cmp text (string_bytes key))) keys) (is_eq-slice_cmp text (string_bytes key))
    ∙ ap (λ b. bytes_eq text (string_bytes key) || b) (seen_has keys text)

or_last : (b c : Bool) → cond b true c ≡ (c || b)
or_last true true = refl
or_last true false = refl
or_last false true = refl
or_last false false = refl

pub seen_more : (old new : BTreeSet (String Global)) (text : List ℕ)
    → set.UpdatesBy string_cmp (λ key. slice_cmp nat_cmp text (string_bytes key)) old new true
    → (other : List ℕ) → has_text (map string_bytes new.keys) other ≡ (has_text (map string_bytes old.keys) other || bytes_eq other text)
seen_more old new text updates other =
    sym (seen_has new.keys other) ∙ btree_set_updates_text text old new true updates other
    ∙ or_last (bytes_eq text other) (set.contains_text old other)
    ∙ ap (λ b. b || bytes_eq text other) (seen_has old.keys other)
    ∙ ap (λ b. has_text (map string_bytes old.keys) other || b) (bytes_eq-swap text other)
