-- Programs that a plan shows, in the words of the view that it is a plan of (systemd.exec(5), Sandboxing).
use Rattle.std.specs.Prelude.{◌≡◌, true, false, List, Some}
use Rattle.std.specs.List.{AllByRecursion}
use Rattle.launcher.specs.abs_path.Paths.{Path}
use Rattle.launcher.specs.abs_path.Prefix.{is_prefix}
use Rattle.launcher.specs.kern_creds.Exec.{is_privileged}
use Rattle.launcher.specs.kernel_model.kern_files.Executing.{marks_of}
use Rattle.launcher.specs.kern_mounts.Split.{Table}
use Rattle.launcher.specs.mount_plan.AsView.{FindsAsView}
use Rattle.launcher.specs.mount_plan.Host.{host_of}
use Rattle.launcher.specs.mount_plan.Planned.{base_view}
use Rattle.launcher.specs.path_settings.declared.mentions.Mention.{Mention}
use Rattle.launcher.specs.site_table.declared.row.Row.{Row}
use Rattle.launcher.specs.site_table.Kinds.{is_exe}
use Rattle.launcher.specs.site_table.Table.{Site, row_at}
use Rattle.launcher.specs.path_settings.view_map.Kept.{KeepsByRules}
use Rattle.launcher.specs.path_settings.view_map.Object.{on_host, object_at}
use Rattle.launcher.specs.path_settings.view_map.View.{is_no_exec}
use Rattle.sample_inputs.specs.sample_launch.EndsWell.{ShowsProgram}

-- the row is an executable file without set-id bits and capabilities
pub record IsPlainProgram (program : Row) : Type 0 where
  pub exe : is_exe program.kind ≡ true
  pub plain : is_privileged (marks_of program) ≡ false

-- the view has the host's file of this place at the path, and leaves it executable
abbrev pub ShownByTheView : Type 0
ShownByTheView = (site : Site) (kept : List Mention) (plan : Table) (path place : Path) (program : Row)
    → FindsAsView (base_view kept) plan → object_at kept path ≡ on_host place → is_no_exec kept path ≡ false
    → row_at site.rows place ≡ Some program → IsPlainProgram program → ShowsProgram site plan path

-- no mention is at the path, nor at one that leads to it
abbrev pub AreElsewhere : Path → List Mention → Type 0
AreElsewhere path mentions = AllByRecursion (λ mention. is_prefix mention.path path ≡ false) mentions

-- then the host's own file is there
abbrev pub ShownBesideMentions : Type 0
ShownBesideMentions = (site : Site) (mentions kept : List Mention) (plan : Table) (path : Path) (program : Row)
    → KeepsByRules (host_of site) mentions kept → FindsAsView (base_view kept) plan → AreElsewhere path mentions
    → row_at site.rows path ≡ Some program → IsPlainProgram program → ShowsProgram site plan path
