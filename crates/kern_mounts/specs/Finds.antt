-- What a path lookup finds on a mount table (path_resolution(7), mount_namespaces(7)). The table has no files: a function from
-- the host's paths gives the rows of a site.
use Rattle.std.specs.Prelude.{ℕ, cond, List, ◌++◌, Option, Some, None, option_and_then}
use Rattle.abs_path.specs.Paths.{Path}
use Rattle.abs_path.specs.Prefix.{is_same, rest_of}
use Rattle.linux_numbers.specs.Errnos.{enoent, eacces}
use Rattle.kern_mounts.specs.declared.step.What.{What}
use Rattle.kern_mounts.specs.declared.step.What.TheVariants.{Host, Empty, Hidden}
use Rattle.kern_mounts.specs.declared.step.MountStep.{MountStep}
use Rattle.kern_mounts.specs.Entry.{entry_of}

-- the host's path of what a mount at this place shows at a path: the mount's source, then the rest of the path after the place
abbrev pub host_place_by : What → Path → Path → Option Path
host_place_by (Host source) place path = Some (source ++ rest_of place path)
host_place_by Empty place path = None
host_place_by (Hidden directory) place path = None

-- the host's path of what a path shows, if the path belongs to an entry of the host
abbrev pub host_place : List MountStep → Path → Option Path
host_place table path = option_and_then (λ step. host_place_by step.what step.place path) (entry_of table path)

-- the result of a lookup: a row of the site, the directory of an empty file system, or nothing and an errno
pub data Found (Row : Type 0) : Type 0 where
  row : Row → Found Row
  empty_directory : Found Row
  nothing : ℕ → Found Row

abbrev pub row_or_nothing : {Row : Type 0} → Option Row → Found Row
row_or_nothing None = nothing enoent
row_or_nothing (Some found) = row found

-- what a lookup finds at a path to which this mount's place leads
abbrev pub found_by : {Row : Type 0} → (Path → Option Row) → What → Path → Path → Found Row
found_by rows (Host source) place path = row_or_nothing (rows (source ++ rest_of place path))
found_by rows Empty place path = cond (is_same place path) empty_directory (nothing enoent)
found_by rows (Hidden directory) place path = nothing eacces

abbrev pub found_at : {Row : Type 0} → (Path → Option Row) → Path → Option MountStep → Found Row
found_at rows path None = nothing enoent
found_at rows path (Some step) = found_by rows step.what step.place path

-- what a path lookup finds: the entry that the path belongs to decides
abbrev pub finds : {Row : Type 0} → (Path → Option Row) → List MountStep → Path → Found Row
finds rows table path = found_at rows path (entry_of table path)
