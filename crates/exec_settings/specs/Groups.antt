-- Groups of calls that settings need and that the table of calls must have (systemd.exec(5), SystemCallFilter=).
use Rattle.std.specs.Prelude.{ℕ, not, is_some, Bool, true, false, cond, codes, Option, List, [], ◌∷◌, ◌++◌, find}
use Rattle.std.specs.Option.{option_map_or}
use Rattle.filter_settings.specs.call_table.Table.{Table}
use Rattle.filter_settings.specs.call_table.Lookups.{group_named}
use Rattle.filter_settings.specs.declared.filter_rules.mentions.CallList.{CallList}
use Rattle.filter_settings.specs.declared.filter_rules.mentions.Mode.{Mode}
use Rattle.filter_settings.specs.declared.filter_rules.mentions.Mode.TheVariants.{Allow, Deny}
use Rattle.filter_settings.specs.declared.filter_rules.settings.FilterSettings.{FilterSettings}

abbrev pub is_allowing : Mode → Bool
is_allowing Allow = true
is_allowing Deny = false

-- an allow list begins with `@default`
abbrev pub begins_with_default : Option CallList → Bool
begins_with_default calls = option_map_or (λ list. is_allowing list.mode) calls false

abbrev pub only_if : Bool → List ℕ → List (List ℕ)
only_if on name = cond on (name ∷ []) []

-- the groups that the settings need, in the order in which they are looked up
abbrev pub needed_groups : FilterSettings → List (List ℕ)
needed_groups settings =
    only_if (begins_with_default settings.calls) (codes "default") ++ only_if settings.private_devices (codes "raw-io")
    ++ only_if settings.protect_kernel_modules (codes "module") ++ only_if settings.protect_clock (codes "clock")

abbrev pub is_missing : Table → List ℕ → Bool
is_missing table name = not (is_some (group_named name table.groups))

-- the first needed group that the table lacks
unfoldable pub missing_group : Table → FilterSettings → Option (List ℕ)
missing_group table settings = find (is_missing table) (needed_groups settings)
