-- Names that a drop-in can list, and the names that it need not list.
use Rattle.std.specs.Prelude.{◌≡◌, ℕ, ◌≤◌, false, true, List, ◌∷◌, ◌++◌, codes, flat_map, length, Ok}
use Rattle.std.specs.List.{list_all}
use Rattle.asked_service.specs.call_table.Kernels.{known_by}
use Rattle.asked_service.specs.call_table.Names.{is_name}
use Rattle.asked_service.specs.call_table.Reading.{table_of}
use Rattle.asked_service.specs.call_table.Table.{Table, every_call}
use Rattle.asked_service.specs.call_table.declared.call_names.kernel.Kernel.{Kernel}
use Rattle.asked_service.specs.filter_settings.filter_rules.Covers.{covers}
use Rattle.asked_service.specs.unit_names.Expansion.{longest_value}
use Rattle.derive_command.specs.trace_profile.Extended.{name_at}
use Rattle.derive_command.specs.trace_profile.Names.{AreNames}

-- the names of the calls are ASCII letters, digits, `_` and `-`, and any of them have room in one value of a unit file
pub record HasPlainNames (table : Table) : Type 0 where
  pub plain : list_all (λ line. is_name line.name) (every_call table) ≡ true
  pub short : (names : List ℕ) → AreNames table names → length
      (codes "@default" ++ flat_map (λ place. 32 ∷ name_at table place) names) ≤ longest_value

-- `@default` has not the name of the call line at this place
abbrev pub IsBesideDefault : Table → ℕ → Type 0
IsBesideDefault table place = covers table (codes "@default") (name_at table place) ≡ false

-- the table that is read from these bytes, of which a file has at most 1 MiB, and whose names a kernel reads: its names are plain
pub record IsReadFrom (bytes : List ℕ) (table : Table) : Type 0 where
  pub fits_a_file : length bytes ≤ 1048576
  pub read : Table
  pub kernel : Kernel
  pub is_its_table : table_of bytes ≡ Ok read
  pub is_known_by : known_by kernel read ≡ table
