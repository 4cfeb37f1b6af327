-- A launch by the programs of settings leaves a world in which what is open can be shown.
use Rattle.std.specs.Prelude.{◌≡◌, ℕ, ◌<◌, ◌^◌, ◌==◌, false, IfSome}
use Rattle.std.specs.List.{AllByRecursion}
use Rattle.launcher.specs.bpf_code.declared.machine.CallData.{CallData}
use Rattle.launcher.specs.bpf_code.Meaning.{IsCallData}
use Rattle.launcher.specs.bpf_code.Refusing.{ArePlain}
use Rattle.launcher.specs.bpf_code.Stack.{answers_of}
use Rattle.launcher.specs.call_table.Facts.{IsWhole}
use Rattle.launcher.specs.call_table.Table as calls
use Rattle.launcher.specs.filter_settings.filter_rules.Refusing.{AreRefusing}
use Rattle.launcher.specs.filter_settings.declared.filter_rules.settings.FilterSettings.{FilterSettings}
use Rattle.launcher.specs.kern_mounts.Launch.{CanBeMounted}
use Rattle.launcher.specs.kern_mounts.Split.{Table}
use Rattle.launcher.specs.kernel_laws.FirstChoice.{Means}
use Rattle.launcher.specs.kernel_model.kernel_calls.Calls.{IsPath}
use Rattle.launcher.specs.kernel_laws.Launched.{Launch, launch_of}
use Rattle.launcher.specs.kernel_model.World.{World}
use Rattle.launcher.specs.Launch.{Wanted, Launched, launch}
use Rattle.launcher.specs.LaunchedWorlds.{IsMeant}
use Rattle.launcher.specs.Launches.{KeepsForUser}
use Rattle.launcher.specs.linux_numbers.Limits.{no_id}
use Rattle.launcher.specs.mount_plan.Host.{host_of}
use Rattle.launcher.specs.site_table.Table.{Site, IsSite}
use Rattle.kernel_ways.specs.Laws.{IsServedWorld}
use Rattle.kernel_ways.specs.Offers.{PassesAlike, RunsProgram}
use Rattle.launcher.specs.Alike.{HasWordArchs}

-- programs that decide as filters of settings let execve(2), mount(2), umount2(2), capset(2) and the calls that set ids through by
-- their numbers alone
abbrev pub SettingsPassAlike : Type 0
SettingsPassAlike = (launch : Launch) (settings : FilterSettings) → ((abi : ℕ) → calls.arch_of launch.calls abi < 2 ^ 32)
    → IfSome launch.calls.second (λ second. second.arch == launch.calls.arch ≡ false)
    → AllByRecursion (Means settings launch.calls) launch.stack
    → ((input : CallData) → IsCallData input → ArePlain (answers_of launch.stack input)) → PassesAlike launch

-- a launch with such programs, over a table and a site that were read and with a plan that can be mounted, leaves a served world
abbrev pub LaunchedIsServed : Type 0
LaunchedIsServed = (settings : FilterSettings) (table : calls.Table) (site : Site) (wanted : Wanted) (plan : Table) (last : World)
    (steps : ℕ)
    → IsWhole table → HasWordArchs table → IsSite site → AreRefusing settings → CanBeMounted (host_of site) plan
    → wanted.uid < no_id → KeepsForUser wanted → AllByRecursion (IsMeant settings table) wanted.programs
    → launch table site wanted plan ≡ Launched last steps → IsServedWorld last

-- the path that the settings give finds the program, which has no set-id bit and no capability, on a mount that runs programs
abbrev pub LaunchedRunsProgram : Type 0
LaunchedRunsProgram = (settings : FilterSettings) (table : calls.Table) (site : Site) (wanted : Wanted) (plan : Table) (last : World)
    (steps : ℕ)
    → IsWhole table → HasWordArchs table → IsSite site → AreRefusing settings → CanBeMounted (host_of site) plan
    → wanted.uid < no_id → KeepsForUser wanted → AllByRecursion (IsMeant settings table) wanted.programs → IsPath wanted.program
    → launch table site wanted plan ≡ Launched last steps → RunsProgram (launch_of last) wanted.program
