-- The mounts before and after the mount that a path belongs to: the last whose place leads to the path (mount_namespaces(7)).
use Rattle.std.specs.Prelude.{Option}
use Rattle.abs_path.specs.Paths.{Path}
use Rattle.kern_mounts.specs.declared.step.Mount.{Mount}
use Rattle.kern_mounts.specs.Mounts.{Mounts, leads}
use Rattle.kern_mounts.specs.Split.{SplitOf, split_last}

abbrev pub mount_at : Path → Mounts → Option (SplitOf Mount)
mount_at path mounts = split_last (leads path) mounts
