-- Facts of the inputs of a sample, in the words of the crates that launch and judge.
use Rattle.std.specs.Prelude.{◌≡◌, ℕ, ◌<◌, codes, false, List, [], ◌∷◌, None, Some}
use Rattle.launcher.specs.abs_path.Paths.{Path}
use Rattle.launcher.specs.cap_sets.Sets.{none}
use Rattle.launcher.specs.dropin_merge.declared.resolved.Resolved.{Resolved}
use Rattle.launcher.specs.site_table.Order.{plain_dir}
use Rattle.launcher.specs.site_table.Table.{Site, row_at}
use Rattle.launcher.specs.site_table.declared.accounts.Group.{Group}
use Rattle.launcher.specs.site_table.declared.accounts.User.{User}
use Rattle.launcher.specs.site_table.declared.kinds.RowKind.TheVariants.{Exe}
use Rattle.launcher.specs.site_table.declared.row.Row.{Row}
use Rattle.sample_inputs.specs.Site.{folder_name}
use Rattle.sample_inputs.specs.Unit.{unit_path, unit_said}

-- `/usr/bin/app`, the program of the unit, and `/dK`
abbrev pub program : Path
program = codes "usr" ∷ codes "bin" ∷ codes "app" ∷ []

abbrev pub folder : ℕ → Path
folder k = folder_name k ∷ []

-- an executable of which nothing else is said
abbrev pub plain_exe : Path → Row
plain_exe path = record { path = path; kind = Exe; setuid = None; setgid = None; caps = none; effective = false }

abbrev pub site_accounts : List User
site_accounts = record { name = codes "root"; uid = 0; gid = 0; groups = [] } ∷ record
    { name = codes "app"; uid = 100; gid = 100; groups = [] } ∷ []

abbrev pub site_account_groups : List Group
site_account_groups = record { name = codes "root"; gid = 0 } ∷ record { name = codes "app"; gid = 100 } ∷ []

-- the uid of services with a dynamic user (systemd.exec(5), DynamicUser=), no version of systemd, the sixteen folders and the program as rows, and the users and
-- groups
pub record HasSampleRows (site : Site) : Type 0 where
  pub dynamic_uid : site.dynamic_uid ≡ 61184
  pub systemd : site.systemd ≡ None
  pub folders : (k : ℕ) → k < 16 → row_at site.rows (folder k) ≡ Some (plain_dir (folder k))
  pub program : row_at site.rows program ≡ Some (plain_exe program)
  pub users : site.users ≡ site_accounts
  pub groups : site.groups ≡ site_account_groups

-- the unit has one file, which says this, and is read without a version of systemd
pub record SaysSample (n : ℕ) (unit : Resolved) : Type 0 where
  pub files : unit.files ≡ record { path = unit_path; text = unit_said n } ∷ []
  pub systemd : unit.systemd ≡ None
