-- The tests of a line of the table: the end of each identifier, and how bad the service is by each test.
use Rattle.std.specs.Prelude.{ℕ, ◌==◌, ◌&&◌, ◌||◌, not, cond, Bool, false, is_some, is_none, codes, List, [], ◌∷◌, map, slice_get, unwrap_or}
use Rattle.std.specs.List.{list_any, range_with_len}
use Rattle.std.specs.Option.{option_map_or}
use Rattle.exec_settings.specs.call_table.Table.{Table, every_call}
use Rattle.exec_settings.specs.call_table.Lookups.{named}
use Rattle.exec_settings.specs.call_table.declared.listed.GroupLine.{GroupLine}
use Rattle.exec_settings.specs.cap_sets.Names.{name_of as cap_name}
use Rattle.exec_settings.specs.cap_sets.Sets.{has}
use Rattle.exec_settings.specs.filter_settings.declared.filter_rules.settings.FilterSettings.{FilterSettings}
use Rattle.exec_settings.specs.filter_settings.filter_rules.Calls.{allows_call}
use Rattle.exec_settings.specs.filter_settings.filter_rules.Families.{permits_family}
use Rattle.exec_settings.specs.filter_settings.filter_rules.NamespaceTypes.{all_types, permits}
use Rattle.exec_settings.specs.linux_numbers.Namespaces.{name_of as type_name}
use Rattle.exposure_score.specs.declared.service_facts.sandbox.Sandbox.{Sandbox}
use Rattle.exposure_score.specs.declared.service_facts.lines.Matter.{Matter}
use Rattle.exposure_score.specs.declared.service_facts.lines.Matter.TheVariants.{RunsAsRoot, NamesGroups, GainsPrivileges, HasAmbient}
use Rattle.exposure_score.specs.declared.service_facts.lines.Matter.TheVariants.{Lacks, WritesSystem, SeesHomes, EachCapability}
use Rattle.exposure_score.specs.declared.service_facts.lines.Matter.TheVariants.{EachNamespaceType, EachFamily, InternetFamilies, EachGroup}
use Rattle.exposure_score.specs.service_facts.Badness.{one_if, is_on, system_badness, home_badness, has_ambient}

-- the end of an identifier, and a badness
abbrev pub End : Type 0
End = List ℕ × ℕ

-- the identifier has no such end
abbrev pub alone : ℕ → List End
alone badness = ([], badness) ∷ []

-- SystemCallFilter= allows the call at this place among the calls of all ABIs
abbrev pub allows_place : Table → FilterSettings → ℕ → Bool
allows_place table filters place = option_map_or (λ call. allows_call table filters call.name) (slice_get (every_call table) place) false

-- a place is marked
abbrev pub is_marked : List Bool → ℕ → Bool
is_marked marks place = unwrap_or (slice_get marks place) false

-- SystemCallFilter= is off, or allows a member of the group
abbrev pub lets_through : Table → FilterSettings → GroupLine → Bool
lets_through table filters group = is_none filters.calls || list_any (allows_place table filters) group.members

abbrev pub has_family : Table → List ℕ → Bool
has_family table name = is_some (named name table.families)

-- the table has both families of the Internet, and none of the name of both
abbrev pub has_internet : Table → Bool
has_internet table = has_family table (codes "AF_INET") && has_family table (codes "AF_INET6") && not
    (has_family table (codes "AF_INET_INET6"))

-- the family of this name is permitted
abbrev pub permits_named : Table → FilterSettings → List ℕ → Bool
permits_named table filters name = option_map_or (λ family. permits_family filters.families family.number) (named name table.families) false

abbrev pub permits_internet : Table → FilterSettings → Bool
permits_internet table filters = permits_named table filters (codes "AF_INET") || permits_named table filters (codes "AF_INET6")

abbrev pub ends : Sandbox → Table → Matter → List End
ends sandbox table RunsAsRoot = alone (one_if (sandbox.uid == 0))
ends sandbox table NamesGroups = alone (one_if sandbox.names_groups)
ends sandbox table GainsPrivileges = alone (one_if (not sandbox.no_new_privs))
ends sandbox table HasAmbient = alone (one_if (has_ambient sandbox))
ends sandbox table (Lacks protection) = alone (one_if (not (is_on sandbox protection)))
ends sandbox table WritesSystem = alone (system_badness sandbox.protections.protect_system)
ends sandbox table SeesHomes = alone (home_badness sandbox.protections.protect_home)
ends sandbox table EachCapability = map (λ number. (cap_name number, one_if (has sandbox.bounding number))) (range_with_len 0 41)
ends sandbox table EachNamespaceType = map (λ kind. (type_name kind, one_if (permits sandbox.filters.namespaces kind))) all_types
ends sandbox table EachFamily = map (λ family. (family.name, one_if (permits_family sandbox.filters.families family.number))) table.families
ends sandbox table InternetFamilies = cond (has_internet table) (alone (one_if (permits_internet table sandbox.filters))) []
ends sandbox table EachGroup = map (λ group. (group.name, one_if (lets_through table sandbox.filters group))) table.groups

-- the same without a badness, which does not depend on the settings
abbrev pub names : Table → Matter → List (List ℕ)
names table EachCapability = map cap_name (range_with_len 0 41)
names table EachNamespaceType = map type_name all_types
names table EachFamily = map (λ family. family.name) table.families
names table InternetFamilies = cond (has_internet table) ([] ∷ []) []
names table EachGroup = map (λ group. group.name) table.groups
names table _ = [] ∷ []
