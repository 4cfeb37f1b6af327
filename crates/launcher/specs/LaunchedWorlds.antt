-- A launch by the programs of settings leaves a world in which the service can be judged.
use Rattle.std.specs.Prelude.{◌≡◌, ℕ, ◌<◌, ◌^◌, List, Some}
use Rattle.std.specs.List.{AllByRecursion}
use Rattle.kernel_laws.specs.bpf_code.ProgramOf.{program_of}
use Rattle.kernel_laws.specs.bpf_code.declared.machine.Insn.{Insn}
use Rattle.kernel_laws.specs.call_table.Facts.{IsWhole}
use Rattle.kernel_laws.specs.call_table.Table as calls
use Rattle.exec_settings.specs.filter_settings.filter_rules.Refusing.{AreRefusing}
use Rattle.exec_settings.specs.filter_settings.declared.filter_rules.settings.FilterSettings.{FilterSettings}
use Rattle.kernel_laws.specs.kern_mounts.Launch.{CanBeMounted}
use Rattle.kernel_laws.specs.kern_mounts.Split.{Table}
use Rattle.kernel_laws.specs.FirstChoice.{Means}
use Rattle.kernel_laws.specs.Launched.{IsLaunchedWorld}
use Rattle.kernel_laws.specs.kernel_model.World.{World}
use Rattle.kernel_laws.specs.linux_numbers.Limits.{no_id}
use Rattle.mount_plan.specs.Host.{host_of}
use Rattle.exec_settings.specs.site_table.Table.{Site}
use Rattle.launcher.specs.Alike.{HasWordArchs}
use Rattle.launcher.specs.Launch.{Wanted, Launched, launch}
use Rattle.launcher.specs.Launches.{KeepsForUser}

-- bytes of a program that decides as a filter of the settings
abbrev pub IsMeant : FilterSettings → calls.Table → List ℕ → Type 0
IsMeant settings table bytes = (code : List Insn) → program_of bytes ≡ Some code → Means settings table code

abbrev pub LaunchedIsWorld : Type 0
LaunchedIsWorld = (settings : FilterSettings) (table : calls.Table) (site : Site) (wanted : Wanted) (plan : Table) (last : World)
    (steps : ℕ)
    → IsWhole table → HasWordArchs table → AreRefusing settings → CanBeMounted (host_of site) plan
    → wanted.uid < no_id → KeepsForUser wanted → AllByRecursion (IsMeant settings table) wanted.programs
    → launch table site wanted plan ≡ Launched last steps → IsLaunchedWorld last
