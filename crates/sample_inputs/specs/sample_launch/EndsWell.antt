-- A launch without filters of an unprivileged program that the plan shows: no step of it is refused.
use Rattle.std.specs.Prelude.{◌≡◌, ℕ, ◌<◌, ◌≤◌, true, false, [], length, Err}
use Rattle.launcher.specs.abs_path.Paths.{Path}
use Rattle.launcher.specs.call_table.Facts.{IsWhole}
use Rattle.launcher.specs.call_table.Table as calls
use Rattle.launcher.specs.cap_sets.Sets.{all, IsWithin}
use Rattle.launcher.specs.exec_settings.declared.service.Settings.{Settings}
use Rattle.launcher.specs.kern_creds.Exec.{is_privileged}
use Rattle.launcher.specs.kernel_model.kern_files.Executing.{marks_of}
use Rattle.launcher.specs.kernel_model.kern_files.Looking.{flags_at}
use Rattle.launcher.specs.kern_mounts.Finds.{row, finds}
use Rattle.launcher.specs.kern_mounts.Launch.{CanBeMounted}
use Rattle.launcher.specs.kern_mounts.Split.{Table}
use Rattle.launcher.specs.kernel_model.World.{World}
use Rattle.launcher.specs.Answers.{EndsAs, wanted_of}
use Rattle.launcher.specs.Launch.{Wanted, Launched, launch, launch_steps}
use Rattle.launcher.specs.declared.error.LaunchError.TheVariants as error
use Rattle.launcher.specs.linux_numbers.Limits.{ngroups_max, no_id}
use Rattle.launcher.specs.mount_plan.Host.{host_of}
use Rattle.launcher.specs.site_table.declared.row.Row.{Row}
use Rattle.launcher.specs.site_table.Kinds.{is_exe}
use Rattle.launcher.specs.site_table.Table.{Site, row_at}

-- execve(2), EACCES: the path finds an executable file, on a mount that is not noexec; and the file has no set-id bit and no
-- capabilities
pub record ShowsProgram (site : Site) (plan : Table) (path : Path) : Type 0 where
  pub program : Row
  pub found : finds (row_at site.rows) plan path ≡ row program
  pub exe : is_exe program.kind ≡ true
  pub plain : is_privileged (marks_of program) ≡ false
  pub runs : (flags_at plan path).no_exec ≡ false

-- no filter and nothing that is kept for filters, an id that setresuid(2) does not take for none, no more groups than setgroups(2) takes,
-- an ambient set within the bounding one, whose capabilities are the known ones, capabilities(7), and no mark that refuses memory, which
-- not every host has, prctl(2)
pub record IsPlain (wanted : Wanted) : Type 0 where
  pub programs : wanted.programs ≡ []
  pub uid : wanted.uid < no_id
  pub groups : length wanted.groups ≤ ngroups_max
  pub ambient : IsWithin wanted.ambient wanted.bounding
  pub bounding : IsWithin wanted.bounding all
  pub keeps : wanted.keeps_capabilities ≡ false
  pub memory : wanted.mdwe ≡ false

-- every step of such a launch is done
abbrev pub PlainLaunchEndsWell : Type 0
PlainLaunchEndsWell = (table : calls.Table) (site : Site) (wanted : Wanted) (plan : Table)
    → IsWhole table → CanBeMounted (host_of site) plan → IsPlain wanted → ShowsProgram site plan wanted.program
    → (last : World) × (launch table site wanted plan ≡ Launched last (length (launch_steps table.calls wanted plan)))

-- settings that ask for such a launch
pub record ArePlain (settings : Settings) : Type 0 where
  pub filters : settings.filters.items ≡ []
  pub plain : IsPlain (wanted_of settings [])

-- no answer that refuses the launch is one of these settings
pub record IsNeverRefused (table : calls.Table) (site : Site) (settings : Settings) (plan : Table) : Type 0 where
  pub not_privileged : (path : Path) → EndsAs table site settings plan (Err (error.PrivilegedProgram path)) → ⊥
  pub not_refused : (step errno : ℕ) → EndsAs table site settings plan (Err (error.Refused step errno)) → ⊥
  pub not_killed : (step : ℕ) → EndsAs table site settings plan (Err (error.Killed step)) → ⊥

abbrev pub PlainSettingsAreLaunched : Type 0
PlainSettingsAreLaunched = (table : calls.Table) (site : Site) (settings : Settings) (plan : Table)
    → IsWhole table → CanBeMounted (host_of site) plan → ArePlain settings → ShowsProgram site plan settings.program
    → IsNeverRefused table site settings plan
