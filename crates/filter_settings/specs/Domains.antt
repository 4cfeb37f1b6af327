-- systemd.exec(5), Personality=: the execution domain of the service (personality(2)).
use Rattle.std.specs.Prelude.{ℕ, ◌==◌, ◌||◌, Bool, false, if◌then◌else◌, Option, Some, None, List, length, codes}
use Rattle.std.specs.Option.{option_map_or}
use Rattle.std.specs.Str.{bytes_eq}
use Rattle.dropin_merge.specs.declared.resolved.Resolved.{Resolved}
use Rattle.dropin_merge.specs.unit_values.Lasting.{unit_last}
use Rattle.call_table.specs.Table.{Table}
use Rattle.filter_settings.specs.declared.filter_rules.personality.Domain.{Domain}
use Rattle.filter_settings.specs.declared.filter_rules.personality.Domain.TheVariants.{Linux, Linux32}

-- the architecture of 32 bits whose programs the machines of one of 64 bits run too; names are those of systemd.unit(5)
abbrev pub second_of : List ℕ → Option (List ℕ)
second_of native =
    if bytes_eq native (codes "x86-64") then Some (codes "x86")
    else if bytes_eq native (codes "arm64") then Some (codes "arm")
    else if bytes_eq native (codes "mips64") then Some (codes "mips")
    else if bytes_eq native (codes "mips64-le") then Some (codes "mips-le")
    else if bytes_eq native (codes "ppc64") then Some (codes "ppc")
    else if bytes_eq native (codes "ppc64-le") then Some (codes "ppc-le")
    else if bytes_eq native (codes "s390x") then Some (codes "s390")
    else if bytes_eq native (codes "sparc64") then Some (codes "sparc")
    else None

abbrev pub runs_too : List ℕ → List ℕ → Bool
runs_too native name = option_map_or (bytes_eq name) (second_of native) false

-- the domain that a value names; an empty value names that of the native architecture, and any other name is none
abbrev pub domain_named : Table → List ℕ → Option Domain
domain_named table text =
    if length text == 0 || bytes_eq text table.name then Some Linux
    else if runs_too table.name text then Some Linux32
    else None

-- what the files of a unit say of such a key
abbrev pub unit_domain : Resolved → Table → List ℕ → Domain
unit_domain unit table key = unit_last (domain_named table) Linux unit key
