-- The answers of the parts of a resolution, by the files that agree with the shelf.
use Rattle.std.specs.Prelude.{Vec, String, string_bytes, ◌≡◌, ◌≢◌, ◌≤◌, ◌&&◌, nat_lt, ℕ, true, false, cond, Option, Some, None, Result, Ok}
use Rattle.std.specs.Prelude.{Err, List, [], ◌∷◌, map, length}
use Rattle.std.specs.List.{All, list_any}
use Rattle.std.specs.Map.{values_of}
use Rattle.std.specs.Option.{option_map}
use Rattle.std.specs.Str.{bytes_eq}
use Rattle.std.specs.BTreeMap.{BTreeMap, get_by_text}
use Rattle.std.specs.declared.alloc.Global.{Global}
use Rattle.host_io.specs.Files.{Files}
use Rattle.unit_grammar.specs.declared.unit.UnitError.TheVariants as fault
use Rattle.dropin_merge.specs.Answers.{IsDropinPath}
use Rattle.dropin_merge.specs.Places.{below}
use Rattle.dropin_merge.specs.Winners.{ends_in_conf, winner_among}
use Rattle.dropin_merge.specs.Judging.{is_empty, judged}
use Rattle.dropin_merge.specs.Resolving.{is_overfull}
use Rattle.dropin_merge.specs.declared.resolved.UnitFile.{UnitFile}
use Rattle.dropin_merge.specs.declared.files.Found.{Found}
use Rattle.dropin_merge.specs.declared.files.Found.TheVariants.{Missing, Empty, Says}
use Rattle.dropin_merge.specs.declared.errors.ResolveError.{ResolveError}
use Rattle.dropin_merge.specs.declared.errors.ResolveError.TheVariants.{BadName, NotFound, Masked, DropIns, TooLarge, Text, ReadFault}
use Rattle.dropin_merge.specs.declared.errors.ResolveError.TheVariants.{Memory}

-- a file with a text, or its refusal
abbrev pub says : Result UnitFile ResolveError → Result Found ResolveError
says (Ok file) = Ok (Says file)
says (Err refusal) = Err refusal

-- the finding at a path, by the bytes of its file
abbrev pub file_at : List ℕ → Option (List ℕ) → Result Found ResolveError
file_at path None = Ok Missing
file_at path (Some bytes) = cond (is_empty bytes) (Ok Empty) (says (judged path bytes))

-- the file with a text, if there is one
abbrev pub file_in : Found → List UnitFile
file_in Missing = []
file_in Empty = []
file_in (Says file) = file ∷ []

-- the file lies at this path
abbrev pub LiesAt : List ℕ → Found → Type 0
LiesAt path Missing = Unit {0}
LiesAt path Empty = Unit {0}
LiesAt path (Says file) = file.path ≡ path

-- the answer has the names of the folder, in any order, or refuses too many names
abbrev pub ListsPlace : List (List ℕ) → Result (Vec (String Global) Global) ResolveError → Type 0
ListsPlace names (Ok listed) = ((q : List ℕ) → list_any (bytes_eq q) (map string_bytes listed.items) ≡ list_any (bytes_eq q) names) ×
    (nat_lt 4096 (length names) ≡ false)
ListsPlace names (Err DropIns) = nat_lt 4096 (length names) ≡ true
ListsPlace names (Err ReadFault) = Unit {0}
ListsPlace names (Err Memory) = Unit {0}
ListsPlace names (Err BadName) = ⊥
ListsPlace names (Err NotFound) = ⊥
ListsPlace names (Err Masked) = ⊥
ListsPlace names (Err (TooLarge path)) = ⊥
ListsPlace names (Err (Text path fault)) = ⊥

-- the path that has won a file name
abbrev pub winner_at : BTreeMap (String Global) (String Global) → List ℕ → Option (List ℕ)
winner_at winners q = option_map string_bytes (get_by_text winners q)

-- the path that a file of a place gives for a file name
abbrev pub at_name : List ℕ → List ℕ → List ℕ → Option (List ℕ)
at_name place name q = cond (ends_in_conf q && bytes_eq q name) (Some (below place q)) None

-- the path that the files of a place give for a file name
abbrev pub at_place : List ℕ → List (List ℕ) → List ℕ → Option (List ℕ)
at_place place names q = cond (ends_in_conf q && list_any (bytes_eq q) names) (Some (below place q)) None

-- each file name has its winner among these places, or a place has too many files
abbrev pub CollectsWinners : Files → List (List ℕ) → Result (BTreeMap (String Global) (String Global)) ResolveError → Type 0
CollectsWinners files places (Ok winners) = ((q : List ℕ) → winner_at winners q ≡ winner_among files places q) ×
    (list_any (is_overfull files) places ≡ false)
CollectsWinners files places (Err DropIns) = list_any (is_overfull files) places ≡ true
CollectsWinners files places (Err ReadFault) = Unit {0}
CollectsWinners files places (Err Memory) = Unit {0}
CollectsWinners files places (Err BadName) = ⊥
CollectsWinners files places (Err NotFound) = ⊥
CollectsWinners files places (Err Masked) = ⊥
CollectsWinners files places (Err (TooLarge path)) = ⊥
CollectsWinners files places (Err (Text path fault)) = ⊥

-- a step never refuses a name, and it refuses only a file at one of these paths
abbrev pub RefusesAt : (List ℕ → Type 0) → {T : Type 0} → Result T ResolveError → Type 0
RefusesAt P (Ok value) = Unit {0}
RefusesAt P (Err BadName) = ⊥
RefusesAt P (Err NotFound) = Unit {0}
RefusesAt P (Err Masked) = Unit {0}
RefusesAt P (Err DropIns) = Unit {0}
RefusesAt P (Err (TooLarge path)) = P path
RefusesAt P (Err (Text path error)) = P path × (error ≢ fault.Memory)
RefusesAt P (Err ReadFault) = Unit {0}
RefusesAt P (Err Memory) = Unit {0}

-- the files are this fragment and at most so many others after it, which have this property
pub record IsLedBy (P : UnitFile → Type 0) (fragment : UnitFile) (count : ℕ) (files : List UnitFile) : Type 0 where
  pub dropins : List UnitFile
  pub led : files ≡ fragment ∷ dropins
  pub few : length dropins ≤ count
  pub placed : All P dropins

-- the winning paths lie in these places
abbrev pub KeepsTo : List (List ℕ) → BTreeMap (String Global) (String Global) → Type 0
KeepsTo places winners = All (λ path. IsDropinPath places (string_bytes path)) (values_of winners.entries)
