-- systemd.exec(5), MemoryDenyWriteExecute=: systemd 257 installs no filter for it, but has the kernel refuse the process memory that can
-- be both written and executed (prctl(2), PR_SET_MDWE).
use Rattle.std.specs.Prelude.{◌&&◌, Bool}
use Rattle.dropin_merge.specs.unit_names.Versions.{is_257}
use Rattle.filter_settings.specs.declared.filter_rules.settings.FilterSettings.{FilterSettings}

abbrev pub marks_memory : FilterSettings → Bool
marks_memory settings = settings.memory_deny_write_execute && is_257 settings.systemd
