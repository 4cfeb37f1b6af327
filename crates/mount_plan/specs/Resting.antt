-- The facts of a host that decide about a plan, and hosts that differ only below a folder.
use Rattle.std.specs.Prelude.{◌≡◌, ⊤, true, false, List, Ok, Some}
use Rattle.std.specs.List.{AllByRecursion}
use Rattle.path_settings.specs.abs_path.Paths.{Path, is_normal}
use Rattle.path_settings.specs.abs_path.Prefix.{is_prefix, is_below}
use Rattle.path_settings.specs.declared.mentions.Mention.{Mention}
use Rattle.path_settings.specs.view_map.Asked.{beneath_places}
use Rattle.path_settings.specs.declared.mentioned.Mentioned.{Mentioned}
use Rattle.path_settings.specs.declared.mentioned.Mentioned.TheVariants.{Base, Systemd}
use Rattle.path_settings.specs.systemd.Entries.{leaves_the_root}
use Rattle.path_settings.specs.systemd.Made.{source_row}
use Rattle.path_settings.specs.view_map.Kept.{Host}
use Rattle.path_settings.specs.view_map.Resting.{AreSame, AreSameSources}
use Rattle.kern_mounts.specs.Finds.{host_place}
use Rattle.kern_mounts.specs.declared.step.MountStep.{MountStep}
use Rattle.mount_plan.specs.Plan.{table_of, places_of}
use Rattle.mount_plan.specs.Planned.{paths_of, planned}

-- the plan of kept mentions depends only on the objects beneath its places
abbrev pub PlanRestsOnItsPlaces : Type 0
PlanRestsOnItsPlaces = (row_at other : Host) (kept : List Mention) → AreSame row_at other (beneath_places kept (places_of kept))
    → table_of other kept ≡ table_of row_at kept

-- both hosts have the same objects, except strictly below the folder
abbrev pub AgreeButBelow : Path → Host → Host → Type 0
AgreeButBelow folder row_at other = (path : Path) → is_below path folder ≡ false → other path ≡ row_at path

-- no path of the table shows the folder or a path below it
abbrev pub ShowsNothingOf : List MountStep → Path → Type 0
ShowsNothingOf table folder = (path place : Path) → host_place table path ≡ Some place → is_prefix folder place ≡ false

-- the source of each bind, and of each node, is a directory in both hosts, another row in both, or no row in both
abbrev pub HaveSameSources : Host → Host → Mentioned → Type 0
HaveSameSources row_at other (Base mentions) = AreSameSources row_at other mentions
HaveSameSources row_at other (Systemd entries no_new_privs) = AllByRecursion (λ one. source_row other one ≡ source_row row_at one) entries

-- by the rules of systemd the plan begins with the host's root, so no entry may say which object is there
abbrev pub HasTheHostsRoot : Mentioned → Type 0
HasTheHostsRoot (Base mentions) = ⊤
HasTheHostsRoot (Systemd entries no_new_privs) = leaves_the_root entries ≡ true

-- the parts of a host that a plan does not show do not change it
abbrev pub PlanIsBlind : Type 0
PlanIsBlind = (folder : Path) (row_at other : Host) (mentioned : Mentioned) (table : List MountStep)
    → AllByRecursion (λ path. is_normal path ≡ true) (paths_of mentioned) → HasTheHostsRoot mentioned → planned row_at mentioned ≡ Ok table
    → HaveSameSources row_at other mentioned → AgreeButBelow folder row_at other → ShowsNothingOf table folder
    → planned other mentioned ≡ Ok table
