-- The plan of what the settings of a unit say about paths, by the rules that read them, and the view that it shows.
use Rattle.std.specs.Prelude.{⊤, false, List, map, Result, Ok, Err, IfOk}
use Rattle.path_settings.specs.abs_path.Paths.{Path}
use Rattle.path_settings.specs.declared.mentioned.Mentioned.{Mentioned}
use Rattle.path_settings.specs.declared.mentioned.Mentioned.TheVariants.{Base, Systemd}
use Rattle.path_settings.specs.declared.mentions.Mention.{Mention}
use Rattle.path_settings.specs.Sight.{Sight}
use Rattle.path_settings.specs.view_map.Kept.{Host, Refusal, KeepsByRules, kept_of}
use Rattle.path_settings.specs.view_map.Object.{object_at}
use Rattle.path_settings.specs.view_map.View.{is_read_only, is_no_exec}
use Rattle.path_settings.specs.systemd.Made.{made_of}
use Rattle.path_settings.specs.systemd.View.{view}
use Rattle.kern_mounts.specs.declared.step.MountStep.{MountStep}
use Rattle.mount_plan.specs.Plan as base
use Rattle.mount_plan.specs.systemd.Table as systemd

-- the paths that settings mention
abbrev pub paths_of : Mentioned → List Path
paths_of (Base mentions) = map (λ mention. mention.path) mentions
paths_of (Systemd entries no_new_privs) = map (λ one. one.path) entries

abbrev pub unless_refused : {X Y : Type 0} → (X → Y) → Result X Refusal → Result Y Refusal
unless_refused f (Ok found) = Ok (f found)
unless_refused f (Err refusal) = Err refusal

-- the table of the plan, or the first refusal in byte order of the paths
unfoldable pub planned : Host → Mentioned → Result (List MountStep) Refusal
planned row_at (Base mentions) = unless_refused (base.table_of row_at) (kept_of row_at mentions)
planned row_at (Systemd entries no_new_privs) =
    unless_refused (λ made. systemd.table_of row_at no_new_privs entries) (made_of row_at entries)

-- what the service sees at a path by the rules of the base profile: three choices. They leave the privileges of programs
abbrev pub base_view : List Mention → Path → Sight
base_view kept path = record {
  object = object_at kept path;
  read_only = is_read_only kept path;
  no_exec = is_no_exec kept path;
  no_suid = false;
}

-- what the service sees at each path, or the first refusal
abbrev pub views : Host → Mentioned → Result (Path → Sight) Refusal
views row_at (Base mentions) = unless_refused base_view (kept_of row_at mentions)
views row_at (Systemd entries no_new_privs) = unless_refused (λ made. view row_at no_new_privs entries) (made_of row_at entries)

-- the rules of the base profile keep just the kept mentions, if they are asked with these
abbrev pub AreKeptByRules : Host → Mentioned → Type 0
AreKeptByRules row_at (Base mentions) = IfOk (kept_of row_at mentions) (KeepsByRules row_at mentions)
AreKeptByRules row_at (Systemd entries no_new_privs) = ⊤
