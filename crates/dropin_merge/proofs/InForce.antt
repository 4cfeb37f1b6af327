-- The files in force, by the map of winners.
use Rattle.std.proofs.Common.{◌≡◌, ℕ, ◌<◌, ◌≤◌, Bool, true, false, cond, List, [], ◌∷◌, length, Option, Some, Result, Ok, Err, map, String}
use Rattle.std.proofs.Common.{Global, refl, sym, ap, ◌∙◌, subst, arith}
use Rattle.std.specs.Prelude.{◌||◌, nat_lt, string_bytes}
use Rattle.std.specs.List.{list_any}
use Rattle.std.specs.Map.{values_of}
use Rattle.std.specs.String.{string_cmp}
use Rattle.std.specs.BTreeMap.{BTreeMap, IsOrdered}
use Rattle.std.proofs.lemmas.Bool.Decides.{nat_tests}
use Rattle.std.proofs.lemmas.List.{length-map}
use Rattle.host_io.specs.Agreeing.{ForFiles}
use Rattle.host_io.specs.Files.{Files}
use Rattle.unit_names.specs.Names.{Name}
use Rattle.dropin_merge.specs.Answers.{IsUnlessFailed}
use Rattle.dropin_merge.specs.Places.{fragment_paths, dropin_places}
use Rattle.dropin_merge.specs.Winners.{winners_of}
use Rattle.dropin_merge.specs.Resolving.{fragment_of, fragment_read, is_overfull, is_crowded, winning_paths, dropins_read, joined_by}
use Rattle.dropin_merge.specs.Resolving.{files_of, with_fragment, as_resolved, for_unit}
use Rattle.dropin_merge.specs.Steps.{CollectsWinners}
use Rattle.dropin_merge.specs.declared.resolved.Resolved.{Resolved}
use Rattle.dropin_merge.specs.declared.resolved.UnitFile.{UnitFile}
use Rattle.dropin_merge.specs.declared.errors.ResolveError.{ResolveError}
use Rattle.dropin_merge.specs.declared.errors.ResolveError.TheVariants.{DropIns}
use Rattle.dropin_merge.proofs.Reading.{failed_on}
use Rattle.dropin_merge.proofs.Winning.{entry_texts, entries_are_winners}

paths_of_entries : (es : List (String Global × String Global))
    → map string_bytes (values_of es) ≡ map (λ winner. winner.1) (map entry_texts es)
paths_of_entries [] = refl
paths_of_entries (entry ∷ es) = ap (λ ps. string_bytes entry.1 ∷ ps) (paths_of_entries es)

above : (n : ℕ) → 256 < n → nat_lt 256 n ≡ true
above n h = grind (arith, nat_tests)

not_above : (n : ℕ) → n ≤ 256 → nat_lt 256 n ≡ false
not_above n h = grind (arith, nat_tests)

or_true : (a : Bool) → (a || true) ≡ true
or_true true = refl
or_true false = refl

module _ (files : Files) (unit : Name) (places : List (List ℕ)) (m : BTreeMap (String Global) (String Global)) (named : places ≡ dropin_places unit) (ordered : IsOrdered string_cmp m) (collected : CollectsWinners files places (Ok m)) where
  winners_are : map entry_texts m.entries ≡ winners_of files unit
  winners_are = entries_are_winners files unit m ordered (subst (λ ps. CollectsWinners files ps (Ok m)) named collected).0

  count_is : length (winners_of files unit) ≡ length m.entries
  count_is = ap length (sym winners_are) ∙ length-map m.entries entry_texts

  pub is_crowded_by_many : 256 < length m.entries → is_crowded files unit ≡ true
  is_crowded_by_many h =
      ap (λ n. list_any (is_overfull files) (dropin_places unit) || nat_lt 256 n) count_is
      ∙ ap (λ b. list_any (is_overfull files) (dropin_places unit) || b) (above (length m.entries) h)
      ∙ or_true (list_any (is_overfull files) (dropin_places unit))

  pub is_not_crowded : length m.entries ≤ 256 → is_crowded files unit ≡ false
  is_not_crowded h =
      ap (λ b. b || nat_lt 256 (length (winners_of files unit))) (subst (λ ps. CollectsWinners files ps (Ok m)) named collected).1
      ∙ ap (nat_lt 256) count_is ∙ not_above (length m.entries) h

  pub winning_are : map string_bytes (values_of m.entries) ≡ winning_paths files unit
  winning_are = paths_of_entries m.entries ∙ ap (map (λ winner. winner.1)) winners_are

  pub too_many : (fragment : UnitFile) → 256 < length m.entries → files_of files unit fragment ≡ Err DropIns
  too_many fragment h = ap (λ b. cond b (Err DropIns) (joined_by (fragment ∷ []) (dropins_read files (winning_paths files unit))))
      (is_crowded_by_many h)

  pub in_force : (fragment : UnitFile) → length m.entries ≤ 256
      → joined_by (fragment ∷ []) (dropins_read files (map string_bytes (values_of m.entries))) ≡ files_of files unit fragment
  in_force fragment h =
      ap (λ ps. joined_by (fragment ∷ []) (dropins_read files ps)) winning_are
      ∙ sym (ap (λ b. cond b (Err DropIns) (joined_by (fragment ∷ []) (dropins_read files (winning_paths files unit)))) (is_not_crowded h))

-- the answer over the files that agree with the shelf
pub refuses_many : (agrees : Files → Type 0) (unit : Name) (places : List (List ℕ)) (m : BTreeMap (String Global) (String Global))
    (fragment : UnitFile) → places ≡ dropin_places unit → IsOrdered string_cmp m
    → ForFiles agrees (λ files. CollectsWinners files places (Ok m)) → 256 < length m.entries
    → ForFiles agrees (λ files. files_of files unit fragment ≡ Err DropIns)
refuses_many agrees unit places m fragment named ordered collected h =
    (λ files e. too_many files unit places m named ordered
    (collected files e) fragment h)

pub reads_winners : (between agrees : Files → Type 0) (stays : ForFiles agrees between) (unit : Name) (places : List (List ℕ)) (m : BTreeMap (String Global) (String Global))
    (fragment : UnitFile) (paths : List (String Global)) (result : Result (List UnitFile) ResolveError) → places ≡ dropin_places unit
    → IsOrdered string_cmp m
    → ForFiles between (λ files. CollectsWinners files places (Ok m)) → length m.entries ≤ 256 → paths ≡ values_of m.entries
    → ForFiles agrees (λ files. IsUnlessFailed result (joined_by (fragment ∷ []) (dropins_read files (map string_bytes paths))))
    → ForFiles agrees (λ files. IsUnlessFailed result (files_of files unit fragment))
reads_winners between agrees stays unit places m fragment paths result named ordered collected h given read =
    (λ files e.
    subst (IsUnlessFailed result)
    (ap (λ ps. joined_by (fragment ∷ []) (dropins_read files (map string_bytes ps))) given
    ∙ in_force files unit places m named ordered (collected files (stays files e))
    fragment h)
    (read files e))

-- ---- a unit that is refused
pub fragment_refused : (agrees : Files → Type 0) (unit : Name) (paths : List (List ℕ)) (e : ResolveError) → paths ≡ fragment_paths unit
    → ForFiles agrees (λ files. IsUnlessFailed {T = UnitFile} (Err e) (fragment_read files (fragment_of files paths)))
    → ForFiles agrees (λ files. IsUnlessFailed {T = Resolved} (Err e) (for_unit files (Some unit)))
fragment_refused agrees unit paths e named read =
    (λ files known.
    failed_on e (fragment_read files (fragment_of files paths)) (for_unit files (Some unit))
    (λ h. ap (λ r. as_resolved unit (with_fragment files unit r)) (ap (λ ps. fragment_read files (fragment_of files ps)) (sym named) ∙ h))
    (read files known))

pub files_refused : (between agrees : Files → Type 0) (stays : ForFiles agrees between) (unit : Name) (paths : List (List ℕ)) (fragment : UnitFile) (e : ResolveError)
    → paths ≡ fragment_paths unit
    → ForFiles between (λ files. IsUnlessFailed {T = UnitFile} (Ok fragment) (fragment_read files (fragment_of files paths)))
    → ForFiles agrees (λ files. IsUnlessFailed {T = List UnitFile} (Err e) (files_of files unit fragment))
    → ForFiles agrees (λ files. IsUnlessFailed {T = Resolved} (Err e) (for_unit files (Some unit)))
files_refused between agrees stays unit paths fragment e named found read =
    (λ files known.
    failed_on e (files_of files unit fragment) (for_unit files (Some unit))
    (λ h.
    ap (λ r. as_resolved unit (with_fragment files unit r))
    (ap (λ ps. fragment_read files (fragment_of files ps)) (sym named)
    ∙ found files (stays files known))
    ∙ ap (as_resolved unit) h)
    (read files known))
