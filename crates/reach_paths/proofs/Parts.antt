-- What tables and their parts have.
use Rattle.std.specs.Prelude.{[], ◌∷◌}
use Rattle.std.specs.List.{AllByRecursion}
use Rattle.kernel_laws.specs.kern_mounts.Launch.{BeginsAtRoot}
use Rattle.kernel_laws.specs.kern_mounts.Table.{StartsAtRoot}
use Rattle.kernel_laws.specs.kern_mounts.declared.step.MountStep.{MountStep}
use Rattle.kernel_laws.specs.kern_mounts.Split.{Table}
use Rattle.kernel_laws.specs.kern_mounts.Unmounts.{IsPart, nothing, keeps, leaves}

-- what holds of each entry of a table holds of each entry of a part
pub part_all : (P : MountStep → Type 0) {part table : Table} → IsPart part table → AllByRecursion P table → AllByRecursion P part
part_all P nothing h = tt
part_all P (keeps entry part) h = (h.0, part_all P part h.1)
part_all P (leaves entry part) h = part_all P part h.1

-- a table that begins at the root of the host starts at the root
pub starts : (table : Table) → BeginsAtRoot table → StartsAtRoot table
starts [] h = h
starts (step ∷ table) h = h.0
