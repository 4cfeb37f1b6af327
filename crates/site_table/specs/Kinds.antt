-- The kinds of rows.
use Rattle.std.specs.Prelude.{ℕ, Bool, true, false, cond, codes, List, Option, Some, None}
use Rattle.std.specs.Str.{bytes_eq}
use Rattle.site_table.specs.declared.kinds.RowKind.{RowKind}
use Rattle.site_table.specs.declared.kinds.RowKind.TheVariants.{Dir, File, Exe, Dev}

-- the kind of a name
abbrev pub kind_named : List ℕ → Option RowKind
kind_named name =
    cond (bytes_eq name (codes "dir")) (Some Dir)
    (cond (bytes_eq name (codes "file")) (Some File)
    (cond (bytes_eq name (codes "exe")) (Some Exe)
    (cond (bytes_eq name (codes "dev")) (Some Dev) None)))

abbrev pub is_dir : RowKind → Bool
is_dir Dir = true
is_dir File = false
is_dir Exe = false
is_dir Dev = false

abbrev pub is_exe : RowKind → Bool
is_exe Dir = false
is_exe File = false
is_exe Exe = true
is_exe Dev = false

-- a node of a device, mknod(2): a mount that is read-only does not keep it from being written
abbrev pub is_dev : RowKind → Bool
is_dev Dir = false
is_dev File = false
is_dev Exe = false
is_dev Dev = true
