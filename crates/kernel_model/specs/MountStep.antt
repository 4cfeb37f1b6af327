-- A mount step, which a launcher makes for a process; the rules of mount(2) do not apply. At `/` the step changes the flags of
-- the first entry of the process's table. Elsewhere it adds its entry after the others.
use Rattle.std.specs.Prelude.{ℕ, ◌<◌, [], ◌∷◌, ◌++◌, length, Option, Some, None, if◌then◌else◌}
use Rattle.site_table.specs.abs_path.Paths.{is_root}
use Rattle.kern_mounts.specs.linux_numbers.Limits.{mount_max}
use Rattle.kern_mounts.specs.declared.step.MountStep.{MountStep}
use Rattle.kern_mounts.specs.Mounts.{Mounts as Table, plain}
use Rattle.kern_mounts.specs.Remount.{with_root_flags}
use Rattle.kernel_model.specs.declared.process.Process.{Process}
use Rattle.kernel_model.specs.World.{World, living_of, mounts_of, with_table}

abbrev pub with_step : Table → MountStep → Table
with_step table step = if is_root step.place then with_root_flags step.flags table else table ++ plain step ∷ []

abbrev pub stepped_by : World → MountStep → Option Process → World
stepped_by world step None = world
stepped_by world step (Some process) = with_table world process.namespace (with_step (mounts_of world process.namespace) step)

-- the world after a mount step of the living process with this number
abbrev pub after_mount_step : World → ℕ → MountStep → World
after_mount_step world pid step = stepped_by world step (living_of world pid)

-- the process lives, and its table has room for an entry
abbrev pub HasRoom : World → Option Process → Type 0
HasRoom world None = ⊥
HasRoom world (Some process) = length (mounts_of world process.namespace) < mount_max

abbrev pub CanStep : World → ℕ → Type 0
CanStep world pid = HasRoom world (living_of world pid)
