-- The promises about an answer.
use Rattle.std.specs.Prelude.{◌≡◌, ◌≢◌, ◌⊎◌, ◌≤◌, ℕ, Some, None, true, IsSome, IfSome, IsErrOf, Result, Ok, Err, List, ◌∷◌, length}
use Rattle.std.specs.List.{All, Contains}
use Rattle.host_io.specs.Causes.{Rose}
use Rattle.unit_grammar.specs.declared.unit.UnitError.TheVariants as fault
use Rattle.unit_names.specs.Names.{Name}
use Rattle.unit_names.specs.Cutting.{name_of}
use Rattle.dropin_merge.specs.Places.{below, fragment_paths, dropin_places}
use Rattle.dropin_merge.specs.Winners.{ends_in_conf}
use Rattle.dropin_merge.specs.declared.resolved.UnitFile.{UnitFile}
use Rattle.dropin_merge.specs.declared.resolved.Resolved.{Resolved}
use Rattle.dropin_merge.specs.declared.errors.ResolveError.{ResolveError}
use Rattle.dropin_merge.specs.declared.errors.ResolveError.TheVariants.{BadName, NotFound, Masked, DropIns, TooLarge, Text, ReadFault}
use Rattle.dropin_merge.specs.declared.errors.ResolveError.TheVariants.{Memory}

-- the answer is this one, unless a read failed or memory ran out
abbrev pub IsUnlessFailed : {T : Type 0} → Result T ResolveError → Result T ResolveError → Type 0
IsUnlessFailed (Ok value) wanted = wanted ≡ Ok value
IsUnlessFailed (Err BadName) wanted = wanted ≡ Err BadName
IsUnlessFailed (Err NotFound) wanted = wanted ≡ Err NotFound
IsUnlessFailed (Err Masked) wanted = wanted ≡ Err Masked
IsUnlessFailed (Err DropIns) wanted = wanted ≡ Err DropIns
IsUnlessFailed (Err (TooLarge path)) wanted = wanted ≡ Err (TooLarge path)
IsUnlessFailed (Err (Text path fault)) wanted = wanted ≡ Err (Text path fault)
IsUnlessFailed (Err ReadFault) wanted = Unit {0}
IsUnlessFailed (Err Memory) wanted = Unit {0}

-- the count of faults does not fall, and it rises if the answer is `ReadFault`
pub record HasCause {T : Type 0} (before now : ℕ) (result : Result T ResolveError) : Type 0 where
  pub later : before ≤ now
  pub failed : IsErrOf result ReadFault → Rose before now

-- the answer is `BadName` only if the text is no name, and any other answer except `Memory` only if the text is a name
abbrev pub NamesUnit : List ℕ → Result Resolved ResolveError → Type 0
NamesUnit text (Ok resolved) = name_of text ≡ Some resolved.name
NamesUnit text (Err BadName) = name_of text ≡ None
NamesUnit text (Err NotFound) = IsSome (name_of text)
NamesUnit text (Err Masked) = IsSome (name_of text)
NamesUnit text (Err DropIns) = IsSome (name_of text)
NamesUnit text (Err (TooLarge path)) = IsSome (name_of text)
NamesUnit text (Err (Text path fault)) = IsSome (name_of text)
NamesUnit text (Err ReadFault) = IsSome (name_of text)
NamesUnit text (Err Memory) = Unit {0}

-- the path is a drop-in directly in one of these places
pub record IsDropinPath (places : List (List ℕ)) (path : List ℕ) : Type 0 where
  pub place : List ℕ
  pub name : List ℕ
  pub placed : Contains places place
  pub counts : ends_in_conf name ≡ true
  pub lies : path ≡ below place name

-- a file of the unit may lie at this path
abbrev pub IsUnitPath : Name → List ℕ → Type 0
IsUnitPath unit path = Contains (fragment_paths unit) path ⊎ IsDropinPath (dropin_places unit) path

-- the files are a fragment and at most 256 drop-ins after it
pub record AreUnitFiles (unit : Name) (files : List UnitFile) : Type 0 where
  pub fragment : UnitFile
  pub dropins : List UnitFile
  pub led : files ≡ fragment ∷ dropins
  pub found : Contains (fragment_paths unit) fragment.path
  pub few : length dropins ≤ 256
  pub placed : All (λ file. IsDropinPath (dropin_places unit) file.path) dropins

-- the answer has files of the unit, or refuses one of them
abbrev pub LiesInPlaces : List ℕ → Result Resolved ResolveError → Type 0
LiesInPlaces text (Ok resolved) = AreUnitFiles resolved.name resolved.files
LiesInPlaces text (Err BadName) = Unit {0}
LiesInPlaces text (Err NotFound) = Unit {0}
LiesInPlaces text (Err Masked) = Unit {0}
LiesInPlaces text (Err DropIns) = Unit {0}
LiesInPlaces text (Err (TooLarge path)) = IfSome (name_of text) (λ unit. IsUnitPath unit path)
LiesInPlaces text (Err (Text path error)) = IfSome (name_of text) (λ unit. IsUnitPath unit path) × (error ≢ fault.Memory)
LiesInPlaces text (Err ReadFault) = Unit {0}
LiesInPlaces text (Err Memory) = Unit {0}
