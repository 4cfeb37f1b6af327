-- The keys that protect the file system, and the protections that DynamicUser= implies (systemd.exec(5), DynamicUser=).
use Rattle.std.specs.Prelude.{Bool, true, false, codes, List, ◌++◌}
use Rattle.dropin_merge.specs.declared.resolved.Resolved.{Resolved}
use Rattle.dropin_merge.specs.declared.unit_values.value.FileNote.{FileNote}
use Rattle.dropin_merge.specs.unit_values.Flags.{unit_flag, unit_flag_notes}
use Rattle.mount_settings.specs.declared.protections.SystemProtection.TheVariants.{Strict}
use Rattle.mount_settings.specs.declared.protections.HomeProtection.{HomeProtection}
use Rattle.mount_settings.specs.declared.protections.HomeProtection.TheVariants.{No, Yes, ReadOnly, Tmpfs}
use Rattle.mount_settings.specs.declared.protections.Protections.{Protections}
use Rattle.mount_settings.specs.System.{unit_system, unit_system_notes}
use Rattle.mount_settings.specs.Home.{unit_home, unit_home_notes}
use Rattle.mount_settings.specs.Tmp.{unit_tmp, unit_tmp_notes}
use Rattle.mount_settings.specs.systemd.Keys.{unit_groups, unit_groups_notes}
use Rattle.mount_settings.specs.systemd.Words.{is_on}

-- the values of the keys in the files of a unit
unfoldable pub unit_protections : Resolved → Protections
unit_protections unit =
    record {
      protect_system = unit_system unit;
      protect_home = unit_home unit;
      private_tmp = unit_tmp unit;
      protect_kernel_tunables = unit_flag unit (codes "ProtectKernelTunables");
      protect_control_groups = is_on (unit_groups unit);
    }

-- the notes, key by key
unfoldable pub protection_notes : Resolved → List FileNote
protection_notes unit =
    (((unit_system_notes unit ++ unit_home_notes unit)
    ++ unit_tmp_notes unit)
    ++ unit_flag_notes unit (codes "ProtectKernelTunables"))
    ++ unit_groups_notes unit

-- DynamicUser= implies ProtectHome=read-only: the homes are at least read-only
abbrev pub raised : HomeProtection → HomeProtection
raised No = ReadOnly
raised Yes = Yes
raised ReadOnly = ReadOnly
raised Tmpfs = Tmpfs

-- DynamicUser= implies ProtectSystem=strict and PrivateTmp=yes, whatever these keys say
abbrev pub in_effect : Bool → Protections → Protections
in_effect false said = said
in_effect true said =
    record {
      protect_system = Strict;
      protect_home = raised said.protect_home;
      private_tmp = true;
      protect_kernel_tunables = said.protect_kernel_tunables;
      protect_control_groups = said.protect_control_groups;
    }
