-- Which folders a service cannot look into: no entry of a table that the power allows shows a place strictly below.
use Rattle.std.specs.Prelude.{◌≡◌, ◌≤◌, ◌<◌, Bool, true, false, ◌&&◌, ◌||◌, not, [], ◌∷◌, ◌++◌, length, map, Option, Some, Ok}
use Rattle.std.specs.List.{list_any, AllByRecursion}
use Rattle.filter_settings.specs.linux_numbers.Limits.{mount_max}
use Rattle.kernel_model.specs.abs_path.Paths.{Path, text_of, is_normal, is_root, proc}
use Rattle.kernel_model.specs.abs_path.Prefix.{is_prefix, is_below, rest_of}
use Rattle.kernel_model.specs.site_table.Kinds.{is_dir}
use Rattle.kernel_model.specs.site_table.declared.row.Row.{Row}
use Rattle.kernel_model.specs.kern_mounts.Entry.{leads_to}
use Rattle.kernel_model.specs.kern_mounts.Finds.{host_place}
use Rattle.kernel_model.specs.kern_mounts.Launch.{HasShortPlace}
use Rattle.kernel_model.specs.kern_mounts.Mounts.{plain}
use Rattle.kernel_model.specs.kern_mounts.Split.{Table}
use Rattle.kernel_model.specs.kern_mounts.Unmounts.{Unmounts, IsOrdered}
use Rattle.kernel_model.specs.kern_mounts.declared.step.What.{What}
use Rattle.kernel_model.specs.kern_mounts.declared.step.What.TheVariants.{Host, Empty, Hidden}
use Rattle.kernel_model.specs.kern_mounts.declared.step.MountStep.{MountStep}
use Rattle.kernel_model.specs.kern_files.MountCall.{ms_bind, target_kind, after_mount}
use Rattle.kernel_model.specs.World.{World}
use Rattle.kernel_laws.specs.Bound.{power_of}
use Rattle.kernel_laws.specs.Denied.{IsBlind, Exposes}
use Rattle.kernel_laws.specs.Launched.{Launch, launch_of, IsLaunchedWorld}
use Rattle.kernel_laws.specs.declared.question_types.power.Power.{Power}
use Rattle.kernel_laws.specs.declared.question_types.power.Power.TheVariants.{None as Nowise, Unmount as Unmounting, Mount as Mounting}

-- no later entry covers the path, or it can be uncovered
abbrev pub is_clear : Bool → Path → Table → Bool
is_clear uncover path later = uncover || not (list_any (leads_to path) later)

-- the entry shows places strictly below the folder: its own, or those that come at the folder and below
abbrev pub shows_below : Bool → Path → MountStep → Table → What → Bool
shows_below uncover folder entry later (Host source) =
    (is_below source folder && is_clear uncover entry.place later)
    || (is_prefix source folder && is_clear uncover (entry.place ++ rest_of source folder) later)
shows_below uncover folder entry later Empty = false
shows_below uncover folder entry later (Hidden directory) = false

-- some entry of the table does
abbrev pub exposes : Bool → Path → Table → Bool
exposes uncover folder [] = false
exposes uncover folder (entry ∷ later) = shows_below uncover folder entry later entry.what || exposes uncover folder later

-- the folder is not shown at this power; with mount(2) every folder is
abbrev pub blind_at : Power → Table → Path → Bool
blind_at Nowise table folder = not (exposes false folder table)
blind_at Unmounting table folder = not (exposes true folder table)
blind_at Mounting table folder = false

-- by the launch's own power
abbrev pub is_blind : Launch → Path → Bool
is_blind launch folder = blind_at (power_of launch) launch.table folder

-- a path has its host place strictly below the folder, path_resolution(7)
pub record SeesBelow (folder : Path) (table : Table) : Type 0 where
  pub path : Path
  pub place : Path
  pub shown : host_place table path ≡ Some place
  pub below : is_below place folder ≡ true

-- what is blind by the table is blind in every world
abbrev pub BlindIsSound : Type 0
BlindIsSound = (world : World) (folder : Path) → IsLaunchedWorld world → is_blind (launch_of world) folder ≡ true → IsBlind world folder

-- a table that exposes the folder at the power of umount2(2) becomes, by calls of umount2(2), a table that shows a place below the folder
abbrev pub ExposesByUnmounts : Type 0
ExposesByUnmounts = (folder : Path) (table : Table) → IsOrdered table → exposes true folder table ≡ true
    → (now : Table) × Unmounts table now × SeesBelow folder now

-- the table is one that launches leave: at most 193 entries, at normal paths of at most 250 bytes
pub record IsSmall (table : Table) : Type 0 where
  pub few : length table ≤ 193
  pub places : AllByRecursion HasShortPlace table

-- a folder of a site: a normal path of at most 250 bytes
pub record IsFolder (folder : Path) : Type 0 where
  pub normal : is_normal folder ≡ true
  pub short : length (text_of folder) ≤ 250

-- a folder that is not blind by the table alone is exposed in the launched world itself
abbrev pub ExposedAtOnce : Type 0
ExposedAtOnce = (world : World) (folder : Path) → IsLaunchedWorld world → IsSmall (launch_of world).table → IsFolder folder
    → blind_at Nowise (launch_of world).table folder ≡ false → Exposes folder world

-- one mount(2) call, which binds the host at the folder of the processes, shows a place below every folder
abbrev pub ExposedByMount : Type 0
ExposedByMount = (rows : Path → Option Row) (table : Table) (first : MountStep) (rest : Table) (folder : Path) (root : Row)
    → table ≡ first ∷ rest → first.place ≡ [] → first.what ≡ Host []
    → AllByRecursion (λ (entry : MountStep). is_root entry.place ≡ false) rest
    → rows [] ≡ Some root → is_dir root.kind ≡ true → target_kind rows table proc ≡ Ok true → length table < mount_max
    → (now : Table) × (after_mount rows (map plain table) [] proc ms_bind ≡ Ok (map plain now)) × SeesBelow folder now
