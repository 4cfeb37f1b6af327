-- Reach says exactly what can be found.
use Rattle.std.specs.Prelude.{◌≡◌, Bool, true}
use Rattle.kernel_model.specs.abs_path.Paths.{Path}
use Rattle.kernel_model.specs.kern_mounts.Table.{StartsAtRoot}
use Rattle.kernel_model.specs.kern_mounts.Split.{Table}
use Rattle.kernel_model.specs.kern_mounts.declared.step.Flags.{Flags}
use Rattle.kernel_laws.specs.declared.question_types.power.Power.TheVariants.{None as Nowise, Unmount as Unmounting}
use Rattle.kernel_laws.specs.Reach.{LeadsWith, reaches_with}
use Rattle.kernel_model.specs.kern_mounts.Unmounts.{Unmounts, IsOrdered}

-- by any test of the flags of mounts. With no power: exactly where a path of this very table finds the row
abbrev pub ReachOfTheTable : Type 0
ReachOfTheTable = (table : Table) (row : Path) (test : Flags → Bool)
    → (reaches_with Nowise table row test ≡ true → LeadsWith table row test) × (LeadsWith table row test → reaches_with Nowise table row test ≡ true)

-- with umount2: exactly where a path of some table that umount2 calls make does
abbrev pub ReachByUnmounts : Type 0
ReachByUnmounts = (table : Table) (row : Path) (test : Flags → Bool) → StartsAtRoot table → IsOrdered table
    → (reaches_with Unmounting table row test ≡ true → (now : Table) × Unmounts table now × LeadsWith now row test)
    × ((now : Table) → Unmounts table now → LeadsWith now row test → reaches_with Unmounting table row test ≡ true)
