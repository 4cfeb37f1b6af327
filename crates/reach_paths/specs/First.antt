-- Which entry of a mount table leads to a row of the host, by its number; and that it is the first.
use Rattle.std.specs.Prelude.{◌≡◌, ℕ, ◌<◌, Bool, true, ◌∷◌, ◌++◌, length, Option, Some, None}
use Rattle.kernel_laws.specs.abs_path.Paths.{Path}
use Rattle.kernel_laws.specs.kern_mounts.declared.step.What.TheVariants.{Host}
use Rattle.kernel_laws.specs.kern_mounts.declared.step.MountStep.{MountStep}
use Rattle.kernel_laws.specs.kern_mounts.Split.{Table}
use Rattle.kernel_laws.specs.kern_mounts.declared.step.Flags.{Flags}
use Rattle.kernel_laws.specs.declared.question_types.power.Power.{Power}
use Rattle.kernel_laws.specs.declared.question_types.power.Power.TheVariants.{None as Nowise, Unmount as Unmounting, Mount as Mounting}
use Rattle.kernel_laws.specs.Reach.{LeadsWith}

-- a path of this very table belongs to the entry of this number and finds the row, with flags that pass the test
pub record LeadsBy (table : Table) (target : Path) (test : Flags → Bool) (at : ℕ) : Type 0 where
  pub lead : LeadsWith table target test
  pub number : at ≡ length lead.split.earlier

-- the entry of this number shows the host at or above the row, with flags that pass the test, whatever covers it
pub record Shows (table : Table) (target : Path) (test : Flags → Bool) (at : ℕ) : Type 0 where
  pub earlier : Table
  pub entry : MountStep
  pub later : Table
  pub whole : table ≡ earlier ++ entry ∷ later
  pub number : at ≡ length earlier
  pub source : Path
  pub host : entry.what ≡ Host source
  pub rest : Path
  pub row_is : target ≡ source ++ rest
  pub flags : test entry.flags ≡ true

-- the first number that is such, or none where no number is
abbrev pub IsFirst : (ℕ → Type 0) → Option ℕ → Type 0
IsFirst P None = (at : ℕ) → ¬ P at
IsFirst P (Some at) = P at × ((other : ℕ) → other < at → ¬ P other)

-- the first entry that leads there, by a power. What covers an entry's path can be unmounted, umount2(2); and the first
-- entry can be bound anew, mount(2).
abbrev pub IsFirstByPower : Power → Table → Path → (Flags → Bool) → Option ℕ → Type 0
IsFirstByPower Nowise table target test place = IsFirst (LeadsBy table target test) place
IsFirstByPower Unmounting table target test place = IsFirst (Shows table target test) place
IsFirstByPower Mounting table target test place = place ≡ Some 0
