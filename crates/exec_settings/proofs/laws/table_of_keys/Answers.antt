use Rattle.std.proofs.Common.{◌≡◌, Option, Some, None, true, refl}
use Rattle.mount_settings.specs.unit_names.declared.version.Version.{Version}
use Rattle.mount_settings.specs.unit_names.declared.version.Version.TheVariants.{V252, V257}
use Rattle.exec_settings.specs.Keys.{ascend_strictly, has_path_keys, keys}
use Rattle.exec_settings.proofs.laws.table_of_keys.Goals as goal

ascends : (systemd : Option Version) → ascend_strictly systemd ≡ true
unfolding ascend_strictly keys
ascends None = refl
ascends (Some version) = refl

has_each : (systemd : Option Version) → has_path_keys systemd ≡ true
unfolding has_path_keys keys
has_each None = refl
has_each (Some V252) = refl
has_each (Some V257) = refl

pub returns-clause-in_byte_order : goal.returns-clause-in_byte_order
returns-clause-in_byte_order c = ascends

pub returns-clause-every_path_key : goal.returns-clause-every_path_key
returns-clause-every_path_key c = has_each
