-- The files in force of a unit, or the first reason for a refusal (systemd.unit(5)).
use Rattle.std.specs.Prelude.{ℕ, ◌||◌, not, nat_lt, Bool, cond, Option, Some, None, Result, Ok, Err, List, [], ◌∷◌, ◌++◌, length, map}
use Rattle.std.specs.Prelude.{filter, find}
use Rattle.std.specs.List.{filter_map, list_any, slice_get}
use Rattle.std.specs.Result.{result_ok, result_err}
use Rattle.host_io.specs.Files.{Files, names_in}
use Rattle.unit_names.specs.Names.{Name}
use Rattle.unit_names.specs.Cutting.{name_of}
use Rattle.dropin_merge.specs.Places.{fragment_paths, dropin_places}
use Rattle.dropin_merge.specs.Winners.{is_there, winners_of}
use Rattle.dropin_merge.specs.Judging.{content, is_empty, judged, fragment_judged}
use Rattle.dropin_merge.specs.declared.resolved.UnitFile.{UnitFile}
use Rattle.dropin_merge.specs.declared.resolved.Resolved.{Resolved}
use Rattle.dropin_merge.specs.declared.errors.ResolveError.{ResolveError}
use Rattle.dropin_merge.specs.declared.errors.ResolveError.TheVariants.{BadName, NotFound, DropIns}

-- the fragment is the first of these paths that exists
abbrev pub fragment_of : Files → List (List ℕ) → Option (List ℕ)
fragment_of files paths = find (is_there files) paths

-- the file of the fragment, or its refusal
abbrev pub fragment_read : Files → Option (List ℕ) → Result UnitFile ResolveError
fragment_read files None = Err NotFound
fragment_read files (Some path) = fragment_judged path (content files path)

-- more than 4,096 files lie directly in a folder
abbrev pub is_overfull : Files → List ℕ → Bool
is_overfull files place = nat_lt 4096 (length (names_in files place))

-- a folder of drop-ins in one location is overfull, or more than 256 drop-ins win
abbrev pub is_crowded : Files → Name → Bool
is_crowded files unit = list_any (is_overfull files) (dropin_places unit) || nat_lt 256 (length (winners_of files unit))

-- the winning paths, in byte order of file names
abbrev pub winning_paths : Files → Name → List (List ℕ)
winning_paths files unit = map (λ winner. winner.1) (winners_of files unit)

-- the drop-ins that are not empty, one after the other; an empty one contributes nothing
abbrev pub dropins_read : Files → List (List ℕ) → List (Result UnitFile ResolveError)
dropins_read files paths = map (λ path. judged path (content files path)) (filter (λ path. not (is_empty (content files path))) paths)

-- the files, or the refusal if there is one
abbrev pub unless_refused : Option ResolveError → List UnitFile → Result (List UnitFile) ResolveError
unless_refused None files = Ok files
unless_refused (Some refusal) files = Err refusal

-- these files followed by the files that are read, or the first refusal among those
abbrev pub joined_by : List UnitFile → List (Result UnitFile ResolveError) → Result (List UnitFile) ResolveError
joined_by files read = unless_refused (slice_get (filter_map result_err read) 0) (files ++ filter_map result_ok read)

-- the files in force: the fragment, and then the winning drop-ins
abbrev pub files_of : Files → Name → UnitFile → Result (List UnitFile) ResolveError
files_of files unit fragment = cond (is_crowded files unit) (Err DropIns)
    (joined_by (fragment ∷ []) (dropins_read files (winning_paths files unit)))

abbrev pub with_fragment : Files → Name → Result UnitFile ResolveError → Result (List UnitFile) ResolveError
with_fragment files unit (Ok fragment) = files_of files unit fragment
with_fragment files unit (Err refusal) = Err refusal

abbrev pub as_resolved : Name → Result (List UnitFile) ResolveError → Result Resolved ResolveError
as_resolved unit (Ok files) = Ok (record { name = unit; files = files; systemd = None })
as_resolved unit (Err refusal) = Err refusal

abbrev pub for_unit : Files → Option Name → Result Resolved ResolveError
for_unit files None = Err BadName
for_unit files (Some unit) = as_resolved unit (with_fragment files unit (fragment_read files (fragment_of files (fragment_paths unit))))

-- the unit of a name over some files: the first refusal, or its files in force, read without a version
abbrev pub resolved_of : Files → List ℕ → Result Resolved ResolveError
resolved_of files text = for_unit files (name_of text)
