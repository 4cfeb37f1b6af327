-- The units of a host: the services that files are named for directly in the folders of units (systemd.unit(5), Unit File Load Path).
use Rattle.std.specs.Prelude.{ℕ, ◌||◌, nat_lt, Bool, List, length, flat_map}
use Rattle.std.specs.List.{filter_map, list_any}
use Rattle.unit_inputs.specs.host_io.Files.{Files, names_in}
use Rattle.unit_inputs.specs.unit_names.Cutting.{name_of}
use Rattle.unit_inputs.specs.unit_names.Names.{Name}
use Rattle.report_text.specs.dropin_merge.Places.{locations}
use Rattle.report_text.specs.dropin_merge.Resolving.{is_overfull}
use Rattle.report_text.specs.dropin_merge.Winners.{in_byte_order}

-- the units among the names of the files in some folders, each once, in byte order
abbrev pub units_in : Files → List (List ℕ) → List Name
units_in files folders = filter_map name_of (in_byte_order (flat_map (names_in files) folders))

-- those in the folders of units
abbrev pub units_of : Files → List Name
units_of files = units_in files locations

-- one of the folders has more than 4,096 files, or there are more than 1,024 units
abbrev pub are_too_many : Files → Bool
are_too_many files = list_any (is_overfull files) locations || nat_lt 1024 (length (units_of files))
