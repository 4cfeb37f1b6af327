-- Each path belongs to an entry of the plan that shows what the view has there.
use Rattle.std.specs.Prelude.{◌≡◌, ◌++◌, List, Some}
use Rattle.path_settings.specs.abs_path.Paths.{Path}
use Rattle.path_settings.specs.abs_path.Prefix.{rest_of}
use Rattle.path_settings.specs.Sight.{Sight}
use Rattle.path_settings.specs.view_map.Object.{Object, on_host, empty, hidden}
use Rattle.kern_mounts.specs.declared.step.What.{What}
use Rattle.kern_mounts.specs.declared.step.What.TheVariants as what
use Rattle.kern_mounts.specs.declared.step.MountStep.{MountStep}
use Rattle.kern_mounts.specs.Entry.{entry_of}
use Rattle.mount_plan.specs.Plan.{flags_in}

-- the object that a mount at a place shows at a path that the place leads to
abbrev pub shown_by : What → Path → Path → Object
shown_by (what.Host source) place path = on_host (source ++ rest_of place path)
shown_by what.Empty place path = empty
shown_by (what.Hidden is_dir) place path = hidden

-- the entry has the view's object at the path, and the view's flags unless the object is hidden
pub record Agrees (sight : Sight) (path : Path) (step : MountStep) : Type 0 where
  pub origin : shown_by step.what step.place path ≡ sight.object
  pub flags : step.flags ≡ flags_in sight.object sight.read_only sight.no_exec sight.no_suid

-- each path belongs to such an entry
abbrev pub FindsAsView : (Path → Sight) → List MountStep → Type 0
FindsAsView view table = (path : Path) → (step : MountStep) × (entry_of table path ≡ Some step) × Agrees (view path) path step
