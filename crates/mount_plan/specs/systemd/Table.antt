-- The plan of systemd 252 and 257: the host's root with the flags of the mount at it, followed by one entry for each other made mount, in
-- byte order of their paths (systemd's namespace.c, `apply_mounts`; mount_namespaces(7)).
use Rattle.std.specs.Prelude.{Bool, not, cond, List, [], ◌∷◌, map, filter, find, Option, Some, None}
use Rattle.path_settings.specs.abs_path.Paths.{is_root}
use Rattle.path_settings.specs.declared.systemd.entries.MountEntry.{MountEntry}
use Rattle.path_settings.specs.view_map.Kept.{Host}
use Rattle.path_settings.specs.view_map.Object.{Object}
use Rattle.path_settings.specs.systemd.Modes.{hides, is_left, is_origin}
use Rattle.path_settings.specs.systemd.Made.{object_by, object_in, beneath_in, longest_such, putting, made}
use Rattle.path_settings.specs.systemd.View.{begins_for, beginning, begins_by, is_read_only, set_no_exec, set_no_suid}
use Rattle.kern_mounts.specs.declared.step.What.{What}
use Rattle.kern_mounts.specs.declared.step.What.TheVariants as what
use Rattle.kern_mounts.specs.declared.step.Flags.{Flags}
use Rattle.kern_mounts.specs.declared.step.MountStep.{MountStep}
use Rattle.kern_mounts.specs.Table.{no_flags}
use Rattle.mount_plan.specs.Plan.{what_of, hides_dir}

-- what the entry of a made mount shows, by the mounts that put objects
abbrev pub object_among : List MountEntry → MountEntry → Object
object_among put one = cond (is_origin one.mode) (object_by one.mode one.path one.path) (object_in put one.path)

abbrev pub what_among : Host → List MountEntry → MountEntry → What
what_among row_at put one = what_of (object_among put one) (hides_dir (beneath_in row_at put one.path))

-- its flags, by the mounts that begin in a way of their own, and by the made ones; a hidden object has none
abbrev pub no_exec_among : List MountEntry → MountEntry → Bool → Bool
no_exec_among entries one begins = cond (is_left one.mode) begins (set_no_exec entries one begins)

abbrev pub flags_among : Bool → List MountEntry → List MountEntry → List MountEntry → MountEntry → Flags
flags_among no_new_privs entries begun found one = cond (hides one.mode) no_flags (record {
  read_only = is_read_only entries one;
  no_exec = no_exec_among entries one (begins_by (longest_such (begins_for one.path) begun)).no_exec;
  no_suid = set_no_suid no_new_privs found one.path (begins_by (longest_such (begins_for one.path) begun)).no_suid;
})

abbrev pub step_among : Host → Bool → List MountEntry → List MountEntry → List MountEntry → List MountEntry → MountEntry → MountStep
step_among row_at no_new_privs entries put begun found one = record {
  place = one.path;
  what = what_among row_at put one;
  flags = flags_among no_new_privs entries begun found one;
}

-- the first entry is the host's root, with the flags of the mount that is made there
abbrev pub root_flags : Bool → List MountEntry → List MountEntry → List MountEntry → Option MountEntry → Flags
root_flags no_new_privs entries begun found None = no_flags
root_flags no_new_privs entries begun found (Some one) = flags_among no_new_privs entries begun found one

abbrev pub root_step : Bool → List MountEntry → List MountEntry → List MountEntry → List MountEntry → MountStep
root_step no_new_privs entries begun found there = record {
  place = [];
  what = what.Host [];
  flags = root_flags no_new_privs entries begun found (find (λ one. is_root one.path) there);
}

abbrev pub steps_among : Host → Bool → List MountEntry → List MountEntry → List MountEntry → List MountEntry → List MountStep
steps_among row_at no_new_privs entries put begun found =
    root_step no_new_privs entries begun found found
    ∷ map (step_among row_at no_new_privs entries put begun found) (filter (λ one. not (is_root one.path)) found)

-- by whether NoNewPrivileges= or DynamicUser= is on
abbrev pub table_of : Host → Bool → List MountEntry → List MountStep
table_of row_at no_new_privs entries =
    steps_among row_at no_new_privs entries (putting row_at entries) (beginning row_at entries) (made row_at entries)
