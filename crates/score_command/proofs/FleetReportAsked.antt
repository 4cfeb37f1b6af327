-- The calls by which the units of a report are read.
use Rattle.std.proofs.Common.{◌≡◌, ℕ, ◌+◌, ◌<◌, List, ◌++◌, drop, get_or, length, Result, Ok, Err, refl, sym, ◌∙◌, subst}
use Rattle.std.specs.Prelude.{IfErr, IsErrOf}
use Rattle.std.proofs.lemmas.List.{drop_more}
use Rattle.unit_inputs.specs.host_io.Agreeing.{ForFiles}
use Rattle.unit_inputs.specs.host_io.Calls.{Ask, ShelfCall, Whole, Cut, AsksExactly}
use Rattle.unit_inputs.specs.host_io.Files.{Files}
use Rattle.unit_inputs.proofs.OfHostIo.Calling.{Going, going_more, going_stops, agreed_cut, went_short}
use Rattle.unit_inputs.specs.unit_names.Names.{Name}
use Rattle.score_command.specs.fleet_command.fleet_report.Asking.{course, row_asks, rows_asks}
use Rattle.score_command.specs.declared.fleet_command.fleet_report.errors.FleetError.{FleetError}
use Rattle.score_command.specs.declared.fleet_command.fleet_report.errors.FleetError.TheVariants.{NoWeight, ReadFault, Memory}

-- how it ended is the same whatever was wanted
pub course_as : (T U : Type 0) (error : FleetError) → course {T = T} (Err error) ≡ course {T = U} (Err error)
course_as T U NoWeight = refl
course_as T U ReadFault = refl
course_as T U Memory = refl

no_whole : {T : Type 0} (error : FleetError) → (IsErrOf {T = T} (Err error) NoWeight → ⊥) → course {T = T} (Err error) ≡ Whole → ⊥
no_whole NoWeight never whole = absurd (never refl)
no_whole ReadFault never whole = cc
no_whole Memory never whole = cc

module _ {S : Type 0} (asks : S → ShelfCall → S → Type 0) where
  module _ (agrees : Files → Type 0) (a b : S) (wanted : Files → List Ask) where
    -- what only want of memory stops reads nothing
    pub only_memory : {T : Type 0} (result : Result T FleetError) → IfErr result (λ error. error ≡ Memory)
        → ForFiles agrees (λ files. AsksExactly asks a b (wanted files) Whole) → ForFiles agrees (λ files. AsksExactly asks a b (wanted files) (course result))
    only_memory (Ok value) only made = made
    only_memory {T} (Err error) only made =
        subst (λ e. ForFiles agrees (λ files. AsksExactly asks a b (wanted files) (course {T = T} (Err e)))) (sym only)
        (agreed_cut asks agrees a b wanted made)

  -- the units that are left, behind those that are read
  abbrev pub GoesThrough : S → S → List Name → ℕ → Files → Type 0
  GoesThrough a b names i files = Going asks a b (rows_asks files names) (rows_asks files (drop i names))

  module _ (between agrees : Files → Type 0) (stays : ForFiles agrees between) (a b c : S) (names : List Name) (i : ℕ) (name d : Name)
      (h : i < length names) (is : name ≡ get_or names i d)
      (going : (files : Files) → between files → GoesThrough a b names i files) where
    at_row : (files : Files) → agrees files → Going asks a b (rows_asks files names)
        (row_asks files name ++ rows_asks files (drop (i + 1) names))
    at_row files known =
        subst (λ own. Going asks a b (rows_asks files names) (row_asks files own ++ rows_asks files (drop (i + 1) names))) (sym is)
        (subst (λ left. Going asks a b (rows_asks files names) (rows_asks files left)) (drop_more names i d h) (going files (stays files known)))

    -- a row that is made
    pub row_more : ForFiles agrees (λ files. AsksExactly asks b c (row_asks files name) Whole) → (files : Files) → agrees files
        → GoesThrough a c names (i + 1) files
    row_more made files known =
        going_more asks a b c (rows_asks files names) (row_asks files name) (rows_asks files (drop (i + 1) names)) (at_row files known)
        (made files known)

    -- one that is not
    pub row_stops : (T : Type 0) {U : Type 0} (error : FleetError) → (IsErrOf {T = U} (Err error) NoWeight → ⊥)
        → ForFiles agrees (λ files. AsksExactly asks b c (row_asks files name) (course {T = U} (Err error)))
        → ForFiles agrees (λ files. AsksExactly asks a c (rows_asks files names) (course {T = T} (Err error)))
    row_stops T {U} error never made =
        (λ files known.
        subst (AsksExactly asks a c (rows_asks files names)) (course_as U T error)
        (going_stops asks a b c (rows_asks files names) (row_asks files name ++ rows_asks files (drop (i + 1) names))
        (course {T = U} (Err error)) (at_row files known)
        (went_short asks b c (row_asks files name) (rows_asks files (drop (i + 1) names)) (course {T = U} (Err error))
        (no_whole error never)
        (made files known))))

    -- memory ran out behind one that is made
    pub row_cut : ForFiles agrees (λ files. AsksExactly asks b c (row_asks files name) Whole)
        → ForFiles agrees (λ files. AsksExactly asks a c (rows_asks files names) Cut)
    row_cut made =
        (λ files known. (let own = row_more made files known in (own.front, rows_asks files (drop (i + 1) names), own.is, own.made)))
