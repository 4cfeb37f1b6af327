-- The form of a plan, whatever its mentions are.
use Rattle.std.specs.Prelude.{◌≡◌, ◌≤◌, ◌+◌, ◌⊎◌, ⊤, true, List, [], length, map, Ok}
use Rattle.std.specs.List.{AllByRecursion, Contains}
use Rattle.path_settings.specs.abs_path.ByteOrder.{AreAscending}
use Rattle.path_settings.specs.declared.mentioned.Mentioned.{Mentioned}
use Rattle.path_settings.specs.declared.mentioned.Mentioned.TheVariants.{Base, Systemd}
use Rattle.path_settings.specs.Mentioned.{are_whole, leaves_the_root}
use Rattle.path_settings.specs.view_map.Kept.{Host}
use Rattle.kern_mounts.specs.declared.step.MountStep.{MountStep}
use Rattle.kern_mounts.specs.Launch.{BeginsAtRoot, IsNotNoSuid, IsPlainIfHidden, FindsProc}
use Rattle.site_table.specs.Table.{Site, IsSite}
use Rattle.mount_plan.specs.Host.{host_of}
use Rattle.mount_plan.specs.Planned.{paths_of, planned}

-- each place is the root or a path that is mentioned
abbrev pub HasPlacesOf : Mentioned → List MountStep → Type 0
HasPlacesOf mentioned table = AllByRecursion (λ step. (step.place ≡ []) ⊎ Contains (paths_of mentioned) step.place) table

-- in the base profile no entry takes privileges from programs
abbrev pub LeavesPrivileges : Mentioned → List MountStep → Type 0
LeavesPrivileges (Base mentions) table = AllByRecursion IsNotNoSuid table
LeavesPrivileges (Systemd entries no_new_privs) table = ⊤

-- the first entry is the root on the host; the places are in byte order, and no two are the same; there is at most one more place than
-- mentions; in the base profile no entry takes privileges from programs; a hidden object has no flags; /proc is found as a directory, or
-- is the place of a hidden directory
pub record HasForm (rows : Host) (mentioned : Mentioned) (table : List MountStep) : Type 0 where
  pub begins_at_root : BeginsAtRoot table
  pub places_ascend : AreAscending (map (λ step. step.place) table)
  pub one_more_than_mentions : length table ≤ length (paths_of mentioned) + 1
  pub leaves_privileges : LeavesPrivileges mentioned table
  pub hidden_without_flags : AllByRecursion IsPlainIfHidden table
  pub finds_proc : FindsProc rows table

-- on each site, a plan has this form if nothing says which object is at the root
abbrev pub PlansHaveForm : Type 0
PlansHaveForm = (site : Site) (mentioned : Mentioned) (table : List MountStep) → IsSite site → are_whole mentioned ≡ true
    → leaves_the_root mentioned ≡ true → planned (host_of site) mentioned ≡ Ok table → HasForm (host_of site) mentioned table
