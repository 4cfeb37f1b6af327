-- A unit is read by these calls: the paths of its fragment, then the folders of its drop-ins, then the winning drop-ins
-- (systemd.unit(5), Unit File Load Path). Each answer is judged before the next call.
use Rattle.std.specs.Prelude.{ℕ, Bool, true, false, cond, Option, Some, None, Result, Ok, Err, List, [], ◌++◌, map}
use Rattle.host_io.specs.Calls.{Ask, FileAt, NamesIn, Course, Whole, Faulted, Cut, unless_refused, up_to}
use Rattle.host_io.specs.Files.{Files, bytes_at}
use Rattle.unit_names.specs.Cutting.{name_of}
use Rattle.unit_names.specs.Names.{Name}
use Rattle.dropin_merge.specs.Places.{dropin_places, fragment_paths}
use Rattle.dropin_merge.specs.Resolving.{fragment_of, fragment_read, is_crowded, is_overfull, winning_paths}
use Rattle.dropin_merge.specs.Steps.{file_at}
use Rattle.dropin_merge.specs.Winners.{is_there}
use Rattle.dropin_merge.specs.declared.errors.ResolveError.{ResolveError}
use Rattle.dropin_merge.specs.declared.errors.ResolveError.TheVariants.{BadName, NotFound, Masked, DropIns, TooLarge, Text, ReadFault}
use Rattle.dropin_merge.specs.declared.errors.ResolveError.TheVariants.{Memory}

-- a file of a unit has at most 1 MiB
abbrev pub unit_file : List ℕ → Ask
unit_file path = FileAt path 1048576

-- the file at a path is refused
abbrev pub is_refusal : {T E : Type 0} → Result T E → Bool
is_refusal (Ok value) = false
is_refusal (Err refusal) = true

abbrev pub is_refused : Files → List ℕ → Bool
is_refused files path = is_refusal (file_at path (bytes_at files path))

-- the paths of the fragment, up to the first that exists
abbrev pub fragment_asks : Files → List (List ℕ) → List Ask
fragment_asks files paths = map unit_file (up_to (is_there files) paths)

-- the folders, up to the first with too many files
abbrev pub folder_asks : Files → List (List ℕ) → List Ask
folder_asks files places = map NamesIn (up_to (is_overfull files) places)

-- the drop-ins, up to the first that is refused
abbrev pub dropin_asks : Files → List (List ℕ) → List Ask
dropin_asks files paths = map unit_file (up_to (is_refused files) paths)

-- after the fragment: all folders, and the winning drop-ins if these are not too many
abbrev pub behind_fragment : Files → Name → List Ask
behind_fragment files unit = folder_asks files (dropin_places unit) ++ cond (is_crowded files unit) []
    (dropin_asks files (winning_paths files unit))

-- all calls for a unit; if the fragment is missing or refused, nothing is read after it
abbrev pub unit_asks : Files → Name → List Ask
unit_asks files unit = fragment_asks files (fragment_paths unit) ++ unless_refused
    (fragment_read files (fragment_of files (fragment_paths unit))) (behind_fragment files unit)

-- a text that is no name is refused without a read
abbrev pub name_asks : Files → Option Name → List Ask
name_asks files None = []
name_asks files (Some unit) = unit_asks files unit

abbrev pub resolve_asks : Files → List ℕ → List Ask
resolve_asks files text = name_asks files (name_of text)

-- the course of a reading with this answer
abbrev pub course : {T : Type 0} → Result T ResolveError → Course
course (Ok value) = Whole
course (Err BadName) = Whole
course (Err NotFound) = Whole
course (Err Masked) = Whole
course (Err DropIns) = Whole
course (Err (TooLarge path)) = Whole
course (Err (Text path fault)) = Whole
course (Err ReadFault) = Faulted
course (Err Memory) = Cut
