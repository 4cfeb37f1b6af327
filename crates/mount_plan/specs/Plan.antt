-- The plan: one entry for `/` and one for each kept path, in byte order, each by the view of its own place
-- (systemd.exec(5), Sandboxing; mount_namespaces(7)).
use Rattle.std.specs.Prelude.{Bool, true, false, List, [], ◌∷◌, map}
use Rattle.path_settings.specs.abs_path.Paths.{Path}
use Rattle.path_settings.specs.abs_path.ByteOrder.{in_byte_order}
use Rattle.path_settings.specs.declared.mentions.Mention.{Mention}
use Rattle.path_settings.specs.view_map.View.{is_read_only, is_no_exec}
use Rattle.path_settings.specs.view_map.Object.{Object, on_host, empty, hidden, object_at}
use Rattle.path_settings.specs.declared.view_map.rules.Beneath.{Beneath}
use Rattle.path_settings.specs.declared.view_map.rules.Beneath.TheVariants.{Row}
use Rattle.path_settings.specs.view_map.Kept.{Host, beneath_at}
use Rattle.kern_mounts.specs.declared.step.What.{What}
use Rattle.kern_mounts.specs.declared.step.What.TheVariants as what
use Rattle.kern_mounts.specs.declared.step.Flags.{Flags}
use Rattle.kern_mounts.specs.declared.step.MountStep.{MountStep}
use Rattle.kern_mounts.specs.Table.{no_flags}

-- what a mount shows if this object is seen; `is_dir` says if a hidden object is a directory
abbrev pub what_of : Object → Bool → What
what_of (on_host path) is_dir = what.Host path
what_of empty is_dir = what.Empty
what_of hidden is_dir = what.Hidden is_dir

-- the flags of an object; a hidden object cannot be used at all, and has none
abbrev pub flags_in : Object → Bool → Bool → Bool → Flags
flags_in hidden read_only no_exec no_suid = no_flags
flags_in _ read_only no_exec no_suid = record { read_only = read_only; no_exec = no_exec; no_suid = no_suid }

-- the same in the base profile, which leaves the privileges of programs as they are
abbrev pub flags_of : Object → Bool → Bool → Flags
flags_of object read_only no_exec = flags_in object read_only no_exec false

-- the same by what a mount shows
abbrev pub flags_by : What → Bool → Bool → Flags
flags_by (what.Hidden is_dir) read_only no_exec = no_flags
flags_by _ read_only no_exec = record { read_only = read_only; no_exec = no_exec; no_suid = false }

-- whether a hidden object is a directory: as the row is, and always below an empty file system
abbrev pub hides_dir : Beneath → Bool
hides_dir (Row is_dir) = is_dir
hides_dir _ = true

-- the entry at a place, by the view of that place
abbrev pub step_at : List Mention → (Path → Bool) → Path → MountStep
step_at kept is_dir place = record {
  place = place;
  what = what_of (object_at kept place) (is_dir place);
  flags = flags_of (object_at kept place) (is_read_only kept place) (is_no_exec kept place);
}

-- whether a hidden object at a place is a directory, by the object beneath
abbrev pub hides_dir_at : Host → List Mention → Path → Bool
hides_dir_at row_at kept place = hides_dir (beneath_at row_at kept place)

-- the root and each kept path, in byte order
abbrev pub places_of : List Mention → List Path
places_of kept = in_byte_order ([] ∷ map (λ mention. mention.path) kept)

abbrev pub table_of : Host → List Mention → List MountStep
table_of row_at kept = map (step_at kept (hides_dir_at row_at kept)) (places_of kept)
