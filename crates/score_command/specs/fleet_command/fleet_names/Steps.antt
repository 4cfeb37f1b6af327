-- The results of the parts of the listing, by the files that agree with the shelf.
use Rattle.std.specs.Prelude.{Vec, String, string_bytes, ◌≡◌, nat_lt, ℕ, true, false, cond, Option, None, Result, Ok, Err, List, length}
use Rattle.std.specs.Prelude.{map, flat_map}
use Rattle.std.specs.List.{list_any}
use Rattle.std.specs.Str.{bytes_eq}
use Rattle.std.specs.BTreeMap.{BTreeMap, get_by_text}
use Rattle.std.specs.declared.alloc.Global.{Global}
use Rattle.unit_inputs.specs.host_io.Files.{Files, names_in}
use Rattle.unit_inputs.specs.unit_names.Cutting.{name_of}
use Rattle.unit_inputs.specs.unit_names.Names.{Name}
use Rattle.report_text.specs.dropin_merge.Resolving.{is_overfull}
use Rattle.score_command.specs.declared.fleet_command.fleet_names.errors.NamesError.{NamesError}
use Rattle.score_command.specs.declared.fleet_command.fleet_names.errors.NamesError.TheVariants.{TooMany, ReadFault, Memory}

-- the names of a folder are answered, in any order, or that there are too many
abbrev pub ListsFolder : List (List ℕ) → Result (Vec (String Global) Global) NamesError → Type 0
ListsFolder names (Ok listed) = ((q : List ℕ) → list_any (bytes_eq q) (map string_bytes listed.items) ≡ list_any (bytes_eq q) names) ×
    (nat_lt 4096 (length names) ≡ false)
ListsFolder names (Err TooMany) = nat_lt 4096 (length names) ≡ true
ListsFolder names (Err ReadFault) = Unit {0}
ListsFolder names (Err Memory) = Unit {0}

-- the unit of a text, where the text is this name
abbrev pub unit_called : List ℕ → List ℕ → Option Name
unit_called name q = cond (bytes_eq q name) (name_of q) None

-- the same, where it is one of these names
abbrev pub unit_among : List (List ℕ) → List ℕ → Option Name
unit_among names q = cond (list_any (bytes_eq q) names) (name_of q) None

-- the units among the files of some folders are kept by their texts, and none of the folders has too many files
abbrev pub CollectsUnits : Files → List (List ℕ) → Result (BTreeMap (String Global) Name) NamesError → Type 0
CollectsUnits files folders (Ok units) = ((q : List ℕ) → get_by_text units q ≡ unit_among (flat_map (names_in files) folders) q) ×
    (list_any (is_overfull files) folders ≡ false)
CollectsUnits files folders (Err TooMany) = list_any (is_overfull files) folders ≡ true
CollectsUnits files folders (Err ReadFault) = Unit {0}
CollectsUnits files folders (Err Memory) = Unit {0}
