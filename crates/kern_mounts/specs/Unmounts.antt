-- The tables that calls of umount2(2) can make.
use Rattle.std.specs.Prelude.{◌≡◌, Bool, false, [], ◌∷◌, ◌++◌, Some, Ok, filter, map, not}
use Rattle.std.specs.List.{AllByRecursion}
use Rattle.abs_path.specs.Paths.{Path, is_root}
use Rattle.abs_path.specs.Prefix.{is_prefix}
use Rattle.kern_mounts.specs.declared.step.MountStep.{MountStep}
use Rattle.kern_mounts.specs.Mounts.{plain}
use Rattle.kern_mounts.specs.Split.{Table, Split, split_at, is_below}
use Rattle.kern_mounts.specs.Umount.{after_umount}

-- any number of successful calls of umount2, on a table without locked mounts
pub data Unmounts : Table → Table → Type 0 where
  still : {table : Table} → Unmounts table table
  then_one : {table next last : Table} (path : Path) (detach : Bool) → after_umount (map plain table) path detach ≡ Ok (map plain next)
      → Unmounts next last → Unmounts table last

-- a part of a table, in the same order
pub data IsPart : Table → Table → Type 0 where
  nothing : IsPart [] []
  keeps : {part table : Table} (entry : MountStep) → IsPart part table → IsPart (entry ∷ part) (entry ∷ table)
  leaves : {part table : Table} (entry : MountStep) → IsPart part table → IsPart part (entry ∷ table)

-- a part of a table that has the table's first entry
pub data IsTrimmed : Table → Table → Type 0 where
  trimmed : {part table : Table} (first : MountStep) → IsPart part table → IsTrimmed (first ∷ part) (first ∷ table)

-- one call removes an entry at this path, and the later entries below it
pub record Removes (path : Path) (table next : Table) : Type 0 where
  pub earlier : Table
  pub entry : MountStep
  pub later : Table
  pub whole : table ≡ earlier ++ entry ∷ later
  pub place : path ≡ entry.place
  pub next_is : next ≡ earlier ++ filter (λ other. not (is_below path other)) later
  pub below_root : is_root path ≡ false

-- no later entry's place leads to an earlier one's
abbrev pub IsOrdered : Table → Type 0
IsOrdered [] = Unit {0}
IsOrdered (entry ∷ table) = AllByRecursion (λ other. is_prefix other.place entry.place ≡ false) table × IsOrdered table

-- the table has the entry
abbrev pub Has : Table → MountStep → Type 0
Has table entry = (earlier later : Table) × (table ≡ earlier ++ entry ∷ later)

-- calls of umount2 can make a table in which a path belongs to the entry; the path is the entry's place, then this rest
abbrev pub Uncovers : Table → MountStep → Path → Type 0
Uncovers table entry rest = (now : Table) × (path : Path) × (split : Split) × Unmounts table now × (split_at path now ≡ Some split) ×
    (split.entry ≡ entry) × (path ≡ entry.place ++ rest)
