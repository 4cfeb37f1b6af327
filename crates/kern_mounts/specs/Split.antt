-- A list split at its last element of a kind, such as a mount table split at the entry of a path (mount_namespaces(7)).
use Rattle.std.specs.Prelude.{Bool, true, false, List, [], ◌∷◌, Option, Some, None}
use Rattle.abs_path.specs.Paths.{Path}
use Rattle.abs_path.specs.Prefix.{is_same, is_below as is_path_below}
use Rattle.kern_mounts.specs.declared.step.MountStep.{MountStep}
use Rattle.kern_mounts.specs.Entry.{leads_to}

-- the entries of a table, the earliest first
abbrev pub Table : Type 0
Table = List MountStep

-- an entry, with the elements before it and after it
pub record SplitOf (X : Type 0) : Type 0 where
  pub earlier : List X
  pub entry : X
  pub later : List X

abbrev pub Split : Type 0
Split = SplitOf MountStep

-- split at an entry of the later ones; failing that, at this entry if it is of the kind
abbrev pub split_or : {X : Type 0} → Option (SplitOf X) → Bool → X → List X → Option (SplitOf X)
split_or (Some split) own entry table = Some (record split { earlier = entry ∷ split.earlier })
split_or None true entry table = Some (record { earlier = []; entry = entry; later = table })
split_or None false entry table = None

-- split at the last entry of this kind
abbrev pub split_last : {X : Type 0} → (X → Bool) → List X → Option (SplitOf X)
split_last p [] = None
split_last p (entry ∷ table) = split_or (split_last p table) (p entry) entry table

-- split at the entry that a path belongs to: the last whose place leads to the path
abbrev pub split_at : Path → Table → Option Split
split_at path table = split_last (leads_to path) table

-- the entry's place is this path
abbrev pub is_at : Path → MountStep → Bool
is_at path entry = is_same entry.place path

-- the entry's place is strictly below this path, by whole parts
abbrev pub is_below : Path → MountStep → Bool
is_below path entry = is_path_below entry.place path
