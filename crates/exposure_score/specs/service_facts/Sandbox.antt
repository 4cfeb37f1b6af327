-- What the tests look at: the settings of a unit that are in effect, implied ones among them.
use Rattle.std.specs.Prelude.{ℕ, ◌==◌, not, Bool, true, false, length, count_by}
use Rattle.exec_settings.specs.call_table.Table.{Table}
use Rattle.exec_settings.specs.cred_settings.FurtherGroups.{further_words}
use Rattle.exec_settings.specs.dropin_merge.declared.resolved.Resolved.{Resolved}
use Rattle.exec_settings.specs.declared.service.Settings.{Settings}
use Rattle.exec_settings.specs.Dynamic.{is_dynamic, unit_filters}
use Rattle.exec_settings.specs.mount_settings.Protections.{unit_protections, in_effect}
use Rattle.exec_settings.specs.mount_settings.Written.{unit_written}
use Rattle.exec_settings.specs.path_settings.declared.keys.PathKey.{PathKey}
use Rattle.exec_settings.specs.path_settings.declared.keys.PathKey.TheVariants.{ReadWritePaths, BindPaths}
use Rattle.exposure_score.specs.declared.service_facts.sandbox.Sandbox.{Sandbox}

-- SupplementaryGroups= names a group
abbrev pub names_groups : Resolved → Bool
names_groups unit = not (length (further_words unit) == 0)

unfoldable pub sandbox_of : Resolved → Table → Settings → Sandbox
sandbox_of unit table settings = record {
  uid = settings.uid;
  names_groups = names_groups unit;
  no_new_privs = settings.no_new_privs;
  bounding = settings.bounding;
  ambient = settings.ambient;
  filters = unit_filters unit table;
  protections = in_effect (is_dynamic unit) (unit_protections unit);
}

-- keys of paths that are written or bound
abbrev pub is_writable_key : PathKey → Bool
is_writable_key ReadWritePaths = true
is_writable_key BindPaths = true
is_writable_key _ = false

-- how many paths are written or bound
unfoldable pub writable_paths : Resolved → ℕ
writable_paths unit = count_by (λ path. is_writable_key path.key) (unit_written unit)
