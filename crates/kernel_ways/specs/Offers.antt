-- The facts of a launched service by which lists of calls show what is open. Its tables were read, its plan was mounted, its program
-- runs, and its filters do not look at the words of some calls.
use Rattle.std.specs.Prelude.{◌≡◌, ℕ, ◌<◌, ◌^◌, Bool, true, false, List, Some}
use Rattle.launcher.specs.abs_path.Paths.{Path}
use Rattle.launcher.specs.call_table.declared.call_names.rule.CallRule.TheVariants.{Execve, Mount, Umount, Setuid, Setgid, Setresuid}
use Rattle.launcher.specs.call_table.declared.call_names.rule.CallRule.TheVariants.{Setresgid, Setreuid, Setregid, Setgroups, Capset}
use Rattle.launcher.specs.call_table.Facts.{IsTable}
use Rattle.launcher.specs.site_table.declared.row.Row.{Row}
use Rattle.launcher.specs.site_table.Kinds.{is_exe}
use Rattle.launcher.specs.site_table.Table.{IsSite, row_at}
use Rattle.launcher.specs.kern_creds.Exec.{is_privileged}
use Rattle.launcher.specs.kern_mounts.Launch.{CanBeMounted}
use Rattle.launcher.specs.kernel_model.kern_files.Executing.{marks_of}
use Rattle.launcher.specs.kernel_model.declared.kernel_calls.rule.Rule.{Rule}
use Rattle.launcher.specs.kernel_model.declared.kernel_calls.rule.Rule.TheVariants.{Known}
use Rattle.launcher.specs.kernel_model.kernel_calls.Rules.{rule_at}
use Rattle.launcher.specs.kernel_laws.Kinds.{AreWords}
use Rattle.launcher.specs.kernel_laws.Launched.{Launch, passes, lets}
use Rattle.launcher.specs.kernel_laws.declared.question_types.kind.CallKind.TheVariants.{ForPath}
use Rattle.launcher.specs.kernel_laws.declared.question_types.wish.Wish.TheVariants.{Exec as ToExec}
use Rattle.launcher.specs.kernel_laws.Reach.{fits}
use Rattle.reach_paths.specs.Finding.{dirs_of, FindsRow}
use Rattle.kernel_ways.specs.Ways.{CallAt, IsCallAt, rule_there, passes_at}

-- execve(2) and execveat(2), the calls that mount, and those that set ids or capabilities: no setting of systemd.exec(5) filters them
-- by their words
abbrev pub is_unlooked : Rule → Bool
is_unlooked (Known Execve) = true
is_unlooked (Known Mount) = true
is_unlooked (Known Umount) = true
is_unlooked (Known Setuid) = true
is_unlooked (Known Setgid) = true
is_unlooked (Known Setresuid) = true
is_unlooked (Known Setresgid) = true
is_unlooked (Known Setreuid) = true
is_unlooked (Known Setregid) = true
is_unlooked (Known Setgroups) = true
is_unlooked (Known Capset) = true
is_unlooked rule = false

-- what the filters let through with some words they let through with any
abbrev pub PassesAlike : Launch → Type 0
PassesAlike launch = (nr : CallAt) (rule : Rule) (args other : List ℕ) → IsCallAt nr → AreWords args → AreWords other
    → rule_there launch nr ≡ Some rule → is_unlooked rule ≡ true
    → passes_at launch nr args → passes_at launch nr other

-- the program that the launch ran: a row without set-id bits and capabilities, which a path of the launched table finds
pub record HasProgram (launch : Launch) : Type 0 where
  pub program : Row
  pub found : FindsRow (row_at launch.site.rows) launch.table (fits ToExec) program
  pub exe : is_exe program.kind ≡ true
  pub plain : is_privileged (marks_of program) ≡ false

-- this path finds it
abbrev pub RunsProgram : Launch → Path → Type 0
RunsProgram launch path = (runs : HasProgram launch) × (runs.found.path ≡ path)

pub record Offers (launch : Launch) : Type 0 where
  pub calls : IsTable launch.calls
  pub site : IsSite launch.site
  pub plan : CanBeMounted (dirs_of launch.site) launch.table
  pub program : HasProgram launch
  -- the last step of the launch is a call of execve(2) with the words 0
  pub execs : lets launch (ForPath ToExec) ≡ true
  -- sets of the capabilities 0 to 40, capabilities(7)
  pub bounding : launch.creds.bounding < 2 ^ 41
  pub inheritable : launch.creds.inheritable < 2 ^ 41
  pub alike : PassesAlike launch
