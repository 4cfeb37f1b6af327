-- A mount namespace of a newer user namespace shows nothing that the first one could not show.
use Rattle.std.specs.Prelude.{◌≡◌, true, false, map}
use Rattle.kernel_model.specs.abs_path.Paths.{Path}
use Rattle.kernel_model.specs.kern_mounts.Split.{Table}
use Rattle.kernel_model.specs.kern_mounts.Unmounts.{IsOrdered}
use Rattle.kernel_model.specs.kern_mounts.Mounts.{Mounts, plain, steps_of}
use Rattle.kernel_model.specs.kern_mounts.Copying.{locked_copy}
use Rattle.kernel_model.specs.kern_mounts.Backing.{AreBacked}
use Rattle.kernel_model.specs.kern_mounts.Changes.{Changes}
use Rattle.kernel_laws.specs.Blind.{SeesBelow, blind_at}
use Rattle.kernel_laws.specs.Ceiling.{CanHave}
use Rattle.kernel_laws.specs.declared.question_types.wish.Wish.{Wish}
use Rattle.kernel_laws.specs.declared.question_types.power.Power.{Power}
use Rattle.kernel_laws.specs.declared.question_types.power.Power.TheVariants.{None as Nowise, Unmount as Unmounting, Mount as Mounting}
use Rattle.kernel_laws.specs.Reach.{Leads, reaches}
use Rattle.kernel_laws.specs.Showing.{shown_by}

-- the mounts that a namespace of a newer user namespace can have at a power; with mount any
abbrev pub CanHaveNewer : Power → Table → Mounts → Type 0
CanHaveNewer Nowise launched mounts = AreBacked (shown_by Nowise launched) mounts
CanHaveNewer Unmounting launched mounts = AreBacked (shown_by Unmounting launched) mounts
CanHaveNewer Mounting launched mounts = Unit {0}

-- a copy of a table of the first user namespace is such
abbrev pub FirstCopies : Type 0
FirstCopies = (power : Power) (launched table : Table) → IsOrdered launched → CanHave power launched table
    → CanHaveNewer power launched (locked_copy (map plain table))

-- whatever calls are done, and however often it is copied, it stays such
abbrev pub CallsKeep : Type 0
CallsKeep = (power : Power) (launched : Table) (mounts last : Mounts) → CanHaveNewer power launched mounts → Changes mounts last
    → CanHaveNewer power launched last

-- a path of such mounts that finds a row, with the flags that a wish needs: the row is reached for the wish
abbrev pub RowsAreReached : Type 0
RowsAreReached = (power : Power) (launched : Table) (mounts : Mounts) (row : Path) (wish : Wish) → CanHaveNewer power launched mounts
    → Leads (steps_of mounts) row wish → reaches power launched row wish ≡ true

-- a path of such mounts with its host place strictly below a folder: the folder is not blind
abbrev pub FoldersAreSeen : Type 0
FoldersAreSeen = (power : Power) (launched : Table) (mounts : Mounts) (folder : Path) → CanHaveNewer power launched mounts
    → SeesBelow folder (steps_of mounts) → blind_at power launched folder ≡ false
