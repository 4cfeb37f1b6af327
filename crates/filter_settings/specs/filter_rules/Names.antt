-- The names of filters, in the order in which filters are installed.
use Rattle.std.specs.Prelude.{ℕ, List, [], ◌∷◌, codes, map, Option, None, Some}
use Rattle.std.specs.List.{flat_map}
use Rattle.call_table.specs.Table.{Abi}
use Rattle.filter_settings.specs.declared.filter_rules.names.FilterName.{FilterName}
use Rattle.filter_settings.specs.declared.filter_rules.names.FilterName.TheVariants.{Families, MemoryDenyWriteExecute, Realtime, Suid}
use Rattle.filter_settings.specs.declared.filter_rules.names.FilterName.TheVariants.{Namespaces, Tunables, Hostname, Modules, Logs, Clock, Devices}
use Rattle.filter_settings.specs.declared.filter_rules.names.FilterName.TheVariants.{Personality, Calls, Archs}

-- the filters that have a program for each ABI
abbrev pub all_filters : List FilterName
all_filters =
    Families ∷ MemoryDenyWriteExecute ∷ Realtime ∷ Suid ∷ Namespaces ∷ Tunables ∷ Hostname ∷ Modules ∷ Logs ∷ Clock ∷ Devices ∷
    Personality ∷ Calls ∷ []

-- the program of a filter for the ABI at a position
abbrev pub Place : Type 0
Place = FilterName × ℕ

abbrev pub alone : FilterName → Place
alone name = (name, 0)

abbrev pub in_both : FilterName → List Place
in_both name = (name, 0) ∷ (name, 1) ∷ []

-- all programs in the order of installation: first the program that ends the calls of a second ABI, then each filter for each ABI, the
-- native one first
abbrev pub all_programs : Option Abi → List Place
all_programs None = map alone all_filters
all_programs (Some second) = (Archs, 1) ∷ flat_map in_both all_filters

-- the names as they are printed
abbrev pub text_of : FilterName → List ℕ
text_of = elim [
  | Families ↦ codes "families"
  | MemoryDenyWriteExecute ↦ codes "mdwe"
  | Realtime ↦ codes "realtime"
  | Suid ↦ codes "suid"
  | Namespaces ↦ codes "namespaces"
  | Tunables ↦ codes "tunables"
  | Hostname ↦ codes "hostname"
  | Modules ↦ codes "modules"
  | Logs ↦ codes "logs"
  | Clock ↦ codes "clock"
  | Devices ↦ codes "devices"
  | Personality ↦ codes "personality"
  | Calls ↦ codes "calls"
  | Archs ↦ codes "archs"
]
