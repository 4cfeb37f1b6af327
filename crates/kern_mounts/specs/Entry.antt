-- The entry of a mount table that a path belongs to. A mount covers what earlier ones show at its place and below
-- (mount_namespaces(7)), so the last entry whose place leads to the path decides.
use Rattle.std.specs.Prelude.{◌≡◌, ◌+◌, ◌<◌, ℕ, Bool, true, false, filter, List, length, Option, None}
use Rattle.std.specs.List.{AllWithin, HoldsAt, last_or}
use Rattle.abs_path.specs.Paths.{Path}
use Rattle.abs_path.specs.Prefix.{is_prefix}
use Rattle.kern_mounts.specs.declared.step.MountStep.{MountStep}

-- the entry's place is the path, or leads to it
abbrev pub leads_to : Path → MountStep → Bool
leads_to path step = is_prefix step.place path

-- the path belongs to the entry of this number: the entry's place leads to the path, and no later entry's place does
pub record Belongs (table : List MountStep) (path : Path) (at : ℕ) : Type 0 where
  pub in_range : at < length table
  pub leads : HoldsAt (λ step. leads_to path step ≡ true) table at
  pub none_later : AllWithin (λ step. leads_to path step ≡ false) table (at + 1) (length table)

-- the entry that a path belongs to: the last entry whose place leads to the path
abbrev pub entry_of : List MountStep → Path → Option MountStep
entry_of table path = last_or None (filter (leads_to path) table)
