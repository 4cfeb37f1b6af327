-- The folders and the drop-ins are read after the fragment of a unit.
use Rattle.std.proofs.Common.{◌≡◌, ℕ, ◌<◌, ◌≤◌, Bool, true, false, cond, List, [], ◌∷◌, ◌++◌, length, Option, Some, None, Result, Ok, Err}
use Rattle.std.proofs.Common.{map, String, Global, refl, sym, ap, ◌∙◌, subst}
use Rattle.std.specs.Prelude.{◌||◌, nat_lt, string_bytes}
use Rattle.std.specs.List.{list_any}
use Rattle.std.specs.Map.{values_of}
use Rattle.std.specs.String.{string_cmp}
use Rattle.std.specs.BTreeMap.{BTreeMap, IsOrdered}
use Rattle.host_io.specs.Agreeing.{ForFiles}
use Rattle.host_io.specs.Calls.{Ask, ShelfCall, Course, Whole, Faulted, Cut, AsksExactly, unless_refused}
use Rattle.host_io.specs.Files.{Files}
use Rattle.host_io.proofs.Calling.{agreed_by, agreed_behind, agreed_short, went_cut}
use Rattle.unit_names.specs.Names.{Name}
use Rattle.dropin_merge.specs.Answers.{IsUnlessFailed}
use Rattle.dropin_merge.specs.Asking.{behind_fragment, course, dropin_asks, folder_asks, fragment_asks, unit_asks}
use Rattle.dropin_merge.specs.Places.{dropin_places, fragment_paths}
use Rattle.dropin_merge.specs.Resolving.{fragment_of, fragment_read, is_crowded, is_overfull, winning_paths}
use Rattle.dropin_merge.specs.Steps.{CollectsWinners}
use Rattle.dropin_merge.specs.Winners.{winners_of}
use Rattle.dropin_merge.specs.declared.resolved.Resolved.{Resolved}
use Rattle.dropin_merge.specs.declared.resolved.UnitFile.{UnitFile}
use Rattle.dropin_merge.specs.declared.errors.ResolveError.{ResolveError}
use Rattle.dropin_merge.specs.declared.errors.ResolveError.TheVariants.{BadName, NotFound, Masked, DropIns, TooLarge, Text, ReadFault}
use Rattle.dropin_merge.specs.declared.errors.ResolveError.TheVariants.{Memory}
use Rattle.dropin_merge.proofs.Asking.{course_as}
use Rattle.dropin_merge.proofs.InForce.{is_crowded_by_many, is_not_crowded, winning_are}

abbrev Winners : Type 0
Winners = BTreeMap (String Global) (String Global)

-- the winning drop-ins, if they are not too many
abbrev winning_asks : Name → Files → List Ask
winning_asks unit files = cond (is_crowded files unit) [] (dropin_asks files (winning_paths files unit))

overfull_by : (files : Files) (places : List (List ℕ)) (e : ResolveError) → CollectsWinners files places (Err e)
    → course {T = Winners} (Err e) ≡ Whole → list_any (is_overfull files) places ≡ true
overfull_by files places BadName h whole = absurd h
overfull_by files places NotFound h whole = absurd h
overfull_by files places Masked h whole = absurd h
overfull_by files places DropIns h whole = h
overfull_by files places (TooLarge path) h whole = absurd h
overfull_by files places (Text path error) h whole = absurd h
overfull_by files places ReadFault h whole = cc
overfull_by files places Memory h whole = cc

module _ {S : Type 0} (asks : S → ShelfCall → S → Type 0) (agrees : Files → Type 0) (unit : Name) (a b : S) (places : List (List ℕ)) (named : places ≡ dropin_places unit) where
  folders_of_it : (how : Course) → ForFiles agrees (λ files. AsksExactly asks a b (folder_asks files places) how)
      → ForFiles agrees (λ files. AsksExactly asks a b (folder_asks files (dropin_places unit)) how)
  folders_of_it how made = subst (λ ps. ForFiles agrees (λ files. AsksExactly asks a b (folder_asks files ps) how)) named made

  -- a folder has too many files, or the listing failed
  pub folders_stop : (e : ResolveError) → ForFiles agrees (λ files. CollectsWinners files places (Err e))
      → ForFiles agrees (λ files. AsksExactly asks a b (folder_asks files places) (course {T = Winners} (Err e)))
      → ForFiles agrees (λ files. AsksExactly asks a b (behind_fragment files unit) (course {T = List UnitFile} (Err e)))
  folders_stop e collected made =
      subst (λ how. ForFiles agrees (λ files. AsksExactly asks a b (behind_fragment files unit) how)) (course_as Winners (List UnitFile) e)
      (agreed_short asks agrees a b (λ files. folder_asks files (dropin_places unit)) (winning_asks unit) (course {T = Winners} (Err e))
      (folders_of_it (course {T = Winners} (Err e)) made)
      (agreed_by (λ files. CollectsWinners files places (Err e))
      (λ files. course {T = Winners} (Err e) ≡ Whole → winning_asks unit files ≡ []) agrees
      (λ files stopped whole.
      ap (λ b. cond (b || nat_lt 256 (length (winners_of files unit))) [] (dropin_asks files (winning_paths files unit)))
      (ap (list_any (is_overfull files)) (sym named) ∙ overfull_by files places e stopped whole))
      collected))

  -- memory ran out after the listing
  pub folders_cut : ForFiles agrees (λ files. AsksExactly asks a b (folder_asks files places) Whole)
      → ForFiles agrees (λ files. AsksExactly asks a b (behind_fragment files unit) Cut)
  folders_cut made =
      agreed_short asks agrees a b (λ files. folder_asks files (dropin_places unit)) (winning_asks unit) Cut
      (agreed_by (λ files. AsksExactly asks a b (folder_asks files (dropin_places unit)) Whole)
      (λ files. AsksExactly asks a b (folder_asks files (dropin_places unit)) Cut) agrees
      (λ files whole. went_cut asks a b (folder_asks files (dropin_places unit)) whole) (folders_of_it Whole made))
      ((λ files known e. cc))

  module _ (m : Winners) (ordered : IsOrdered string_cmp m) (collected : ForFiles agrees (λ files. CollectsWinners files places (Ok m))) (made : ForFiles agrees (λ files. AsksExactly asks a b (folder_asks files places) Whole)) where
    -- too many drop-ins win
    pub folders_alone : 256 < length m.entries → ForFiles agrees (λ files. AsksExactly asks a b (behind_fragment files unit) Whole)
    folders_alone many =
        agreed_short asks agrees a b (λ files. folder_asks files (dropin_places unit)) (winning_asks unit) Whole (folders_of_it Whole made)
        (agreed_by (λ files. CollectsWinners files places (Ok m)) (λ files. Whole ≡ Whole → winning_asks unit files ≡ []) agrees
        (λ files is whole. ap (λ b. cond b [] (dropin_asks files (winning_paths files unit)))
        (is_crowded_by_many files unit places m named ordered is many))
        collected)

    -- the drop-ins are read
    pub dropins_behind : (c : S) (after : Files → Type 0) (paths : List (String Global)) (how : Course) → ForFiles after agrees
        → length m.entries ≤ 256 → paths ≡ values_of m.entries
        → ForFiles after (λ files. AsksExactly asks b c (dropin_asks files (map string_bytes paths)) how)
        → ForFiles after (λ files. AsksExactly asks a c (behind_fragment files unit) how)
    dropins_behind c after paths how stays few given read =
        agreed_behind asks after a b c agrees (λ files. folder_asks files (dropin_places unit))
        (λ files. dropin_asks files (map string_bytes paths)) (winning_asks unit) how stays (folders_of_it Whole made) read
        (agreed_by (λ files. CollectsWinners files places (Ok m))
        (λ files. dropin_asks files (map string_bytes paths) ≡ winning_asks unit files) agrees
        (λ files is.
        ap (dropin_asks files) (ap (map string_bytes) given ∙ winning_are files unit places m named ordered is)
        ∙ sym (ap (λ b. cond b [] (dropin_asks files (winning_paths files unit)))
        (is_not_crowded files unit places m named ordered is few)))
        collected)

-- ---- the whole unit
module _ {S : Type 0} (asks : S → ShelfCall → S → Type 0) (agrees : Files → Type 0) (unit : Name) (a b : S) (paths : List (List ℕ)) (named : paths ≡ fragment_paths unit) where
  -- the fragment is missing or refused, or its reading failed
  pub fragment_alone : (e : ResolveError)
      → ForFiles agrees (λ files. IsUnlessFailed {T = UnitFile} (Err e) (fragment_read files (fragment_of files paths)))
      → ForFiles agrees (λ files. AsksExactly asks a b (fragment_asks files paths) (course {T = UnitFile} (Err e)))
      → ForFiles agrees (λ files. AsksExactly asks a b (unit_asks files unit) (course {T = Resolved} (Err e)))
  fragment_alone e read made =
      subst (λ how. ForFiles agrees (λ files. AsksExactly asks a b (unit_asks files unit) how)) (course_as UnitFile Resolved e)
      (agreed_short asks agrees a b (λ files. fragment_asks files (fragment_paths unit))
      (λ files. unless_refused (fragment_read files (fragment_of files (fragment_paths unit))) (behind_fragment files unit))
      (course {T = UnitFile} (Err e))
      (subst (λ ps. ForFiles agrees (λ files. AsksExactly asks a b (fragment_asks files ps) (course {T = UnitFile} (Err e)))) named made)
      (agreed_by (λ files. IsUnlessFailed {T = UnitFile} (Err e) (fragment_read files (fragment_of files paths)))
      (λ files. course {T = UnitFile} (Err e) ≡ Whole → unless_refused (fragment_read files (fragment_of files (fragment_paths unit)))
      (behind_fragment files unit) ≡ []) agrees
      (λ files refused whole. by_refusal files e
      (subst (λ ps. IsUnlessFailed {T = UnitFile} (Err e) (fragment_read files (fragment_of files ps))) named refused) whole)
      read))
    where
      by_refusal : (files : Files) (e : ResolveError) → IsUnlessFailed {T = UnitFile} (Err e)
          (fragment_read files (fragment_of files (fragment_paths unit))) → course {T = UnitFile} (Err e) ≡ Whole
          → unless_refused (fragment_read files (fragment_of files (fragment_paths unit))) (behind_fragment files unit) ≡ []
      by_refusal files BadName h whole = ap (λ r. unless_refused r (behind_fragment files unit)) h
      by_refusal files NotFound h whole = ap (λ r. unless_refused r (behind_fragment files unit)) h
      by_refusal files Masked h whole = ap (λ r. unless_refused r (behind_fragment files unit)) h
      by_refusal files DropIns h whole = ap (λ r. unless_refused r (behind_fragment files unit)) h
      by_refusal files (TooLarge path) h whole = ap (λ r. unless_refused r (behind_fragment files unit)) h
      by_refusal files (Text path error) h whole = ap (λ r. unless_refused r (behind_fragment files unit)) h
      by_refusal files ReadFault h whole = cc
      by_refusal files Memory h whole = cc

  -- the folders and the drop-ins are read after the fragment
  pub behind_it : (c : S) (after : Files → Type 0) (fragment : UnitFile) (how : Course) → ForFiles after agrees
      → ForFiles agrees (λ files. IsUnlessFailed {T = UnitFile} (Ok fragment) (fragment_read files (fragment_of files paths)))
      → ForFiles agrees (λ files. AsksExactly asks a b (fragment_asks files paths) Whole)
      → ForFiles after (λ files. AsksExactly asks b c (behind_fragment files unit) how)
      → ForFiles after (λ files. AsksExactly asks a c (unit_asks files unit) how)
  behind_it c after fragment how stays read made behind =
      agreed_behind asks after a b c agrees (λ files. fragment_asks files (fragment_paths unit)) (λ files. behind_fragment files unit)
      (λ files. unless_refused (fragment_read files (fragment_of files (fragment_paths unit))) (behind_fragment files unit)) how stays
      (subst (λ ps. ForFiles agrees (λ files. AsksExactly asks a b (fragment_asks files ps) Whole)) named made) behind
      (agreed_by (λ files. IsUnlessFailed {T = UnitFile} (Ok fragment) (fragment_read files (fragment_of files paths)))
      (λ files. behind_fragment files unit ≡ unless_refused (fragment_read files (fragment_of files (fragment_paths unit)))
      (behind_fragment files unit)) agrees
      (λ files is. sym (ap (λ r. unless_refused r (behind_fragment files unit))
      (ap (λ ps. fragment_read files (fragment_of files ps)) (sym named) ∙ is)))
      read)
