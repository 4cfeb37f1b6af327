-- The calls by which folders are listed.
use Rattle.std.proofs.Common.{◌≡◌, ℕ, ◌+◌, ◌<◌, true, List, [], ◌∷◌, drop, get_or, length, Ok, Err, map, Vec, String, Global}
use Rattle.std.proofs.Common.{Bor, refl, ◌∙◌, subst}
use Rattle.unit_inputs.specs.host_io.Agreeing.{ForFiles}
use Rattle.unit_inputs.specs.host_io.Calls.{ShelfCall, Whole, Cut, AsksExactly, NamesIn}
use Rattle.unit_inputs.specs.host_io.Files.{Files, names_in}
use Rattle.unit_inputs.proofs.OfHostIo.Calling.{Going, goes_on, stops_there, went_cut}
use Rattle.report_text.specs.dropin_merge.Asking.{folder_asks}
use Rattle.report_text.specs.dropin_merge.Resolving.{is_overfull}
use Rattle.score_command.specs.fleet_command.fleet_names.Asking.{course}
use Rattle.score_command.specs.fleet_command.fleet_names.Steps.{ListsFolder}
use Rattle.score_command.specs.declared.fleet_command.fleet_names.errors.NamesError.{NamesError}
use Rattle.score_command.specs.declared.fleet_command.fleet_names.errors.NamesError.TheVariants.{TooMany, ReadFault, Memory}
use Rattle.score_command.proofs.Taking.{texts_left}

-- how it ended is the same whatever was wanted
pub course_as : (T U : Type 0) (error : NamesError) → course {T = T} (Err error) ≡ course {T = U} (Err error)
course_as T U TooMany = refl
course_as T U ReadFault = refl
course_as T U Memory = refl

refused_is_overfull : (files : Files) (folder : List ℕ) (error : NamesError) → ListsFolder (names_in files folder) (Err error)
    → course {T = Vec (String Global) Global} (Err error) ≡ Whole → is_overfull files folder ≡ true
refused_is_overfull files folder TooMany said whole = said
refused_is_overfull files folder ReadFault said whole = cc
refused_is_overfull files folder Memory said whole = cc

-- the folders that are left, behind those that are listed
abbrev pub GoesThrough : {S : Type 0} → (S → ShelfCall → S → Type 0) → S → S → List (Bor (List ℕ)) → ℕ → Files → Type 0
GoesThrough asks a b folders i files = Going asks a b (folder_asks files (map (λ folder. folder.now) folders))
    (folder_asks files (map (λ folder. folder.now) (drop i folders)))

module _ {S : Type 0} (asks : S → ShelfCall → S → Type 0) (between agrees : Files → Type 0) (stays : ForFiles agrees between) (a b c : S)
    (folders : List (Bor (List ℕ))) (i : ℕ) (d : Bor (List ℕ)) (h : i < length folders)
    (going : (files : Files) → between files → GoesThrough asks a b folders i files) where
  at_folder : (files : Files) → agrees files
      → Going asks a b (folder_asks files (map (λ folder. folder.now) folders))
      (folder_asks files ((get_or folders i d).now ∷ map (λ folder. folder.now) (drop (i + 1) folders)))
  at_folder files known =
      subst (λ left. Going asks a b (folder_asks files (map (λ (folder : Bor (List ℕ)). folder.now) folders)) (folder_asks files left))
      (texts_left folders i d h) (going files (stays files known))

  -- a folder that is listed
  pub folder_more : (names : Vec (String Global) Global) → ForFiles agrees
      (λ files. ListsFolder (names_in files (get_or folders i d).now) (Ok names))
      → AsksExactly asks b c (NamesIn (get_or folders i d).now ∷ []) Whole
      → (files : Files) → agrees files → GoesThrough asks a c folders (i + 1) files
  folder_more names listed made files known =
      goes_on asks (is_overfull files) NamesIn a b c (folder_asks files (map (λ (folder : Bor (List ℕ)). folder.now) folders))
      (get_or folders i d).now (map (λ (folder : Bor (List ℕ)). folder.now) (drop (i + 1) folders))
      (listed files known).1
      (at_folder files known) made

  -- one that is not
  pub folder_stops : (T : Type 0) (error : NamesError) → ForFiles agrees
      (λ files. ListsFolder (names_in files (get_or folders i d).now) (Err error))
      → AsksExactly asks b c (NamesIn (get_or folders i d).now ∷ []) (course {T = Vec (String Global) Global} (Err error))
      → ForFiles agrees (λ files. AsksExactly asks a c (folder_asks files (map (λ folder. folder.now) folders)) (course {T = T} (Err error)))
  folder_stops T error listed made =
      (λ files known.
      subst (AsksExactly asks a c (folder_asks files (map (λ (folder : Bor (List ℕ)). folder.now) folders)))
      (course_as (Vec (String Global) Global) T error)
      (stops_there asks (is_overfull files) NamesIn a b c (folder_asks files (map (λ (folder : Bor (List ℕ)). folder.now) folders))
      (get_or folders i d).now (map (λ (folder : Bor (List ℕ)). folder.now) (drop (i + 1) folders))
      (course {T = Vec (String Global) Global} (Err error))
      (refused_is_overfull files (get_or folders i d).now error
      (listed files known))
      (at_folder files known) made))

  -- memory ran out behind one that is listed
  pub folder_cut : AsksExactly asks b c (NamesIn (get_or folders i d).now ∷ []) Whole
      → ForFiles agrees (λ files. AsksExactly asks a c (folder_asks files (map (λ folder. folder.now) folders)) Cut)
  folder_cut made =
      (λ files known.
      stops_there asks (is_overfull files) NamesIn a b c (folder_asks files (map (λ (folder : Bor (List ℕ)). folder.now) folders))
      (get_or folders i d).now (map (λ (folder : Bor (List ℕ)). folder.now) (drop (i + 1) folders))
      Cut (λ e. cc) (at_folder files known) (went_cut asks b c (NamesIn (get_or folders i d).now ∷ []) made))
