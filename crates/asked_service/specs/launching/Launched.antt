-- The launched service of a unit, or why the unit is not launched.
use Rattle.std.specs.Prelude.{◌≡◌, ⊤, List, Some, None, Result, Ok, Err}
use Rattle.judge.specs.call_table.Table as calls
use Rattle.judge.specs.dropin_merge.declared.resolved.Resolved.{Resolved}
use Rattle.judge.specs.exec_settings.AreSettings.{AreSettings}
use Rattle.judge.specs.exec_settings.Mounts.{unit_mentions}
use Rattle.judge.specs.exec_settings.Refusals.{refusal_of}
use Rattle.judge.specs.exec_settings.declared.service.Settings.{Settings}
use Rattle.judge.specs.kern_mounts.Split.{Table}
use Rattle.judge.specs.kern_mounts.declared.step.MountStep.{MountStep}
use Rattle.judge.specs.kernel_laws.Launched.{IsLaunchedWorld, launch_of}
use Rattle.judge.specs.kernel_ways.Laws.{IsServedWorld}
use Rattle.judge.specs.kernel_ways.Offers.{RunsProgram}
use Rattle.judge.specs.launcher.Answers.{EndsAs, LaunchesTo, LeavesService}
use Rattle.judge.specs.launcher.declared.error.LaunchError.{LaunchError}
use Rattle.judge.specs.launcher.declared.error.LaunchError.TheVariants as error
use Rattle.judge.specs.launcher.declared.launched.Launched.{Launched as Service}
use Rattle.judge.specs.mount_plan.Host.{host_of}
use Rattle.judge.specs.mount_plan.Planned.{planned}
use Rattle.judge.specs.mount_plan.declared.error.PlanError.{PlanError}
use Rattle.judge.specs.mount_plan.declared.error.PlanError.TheVariants as plan
use Rattle.judge.specs.path_settings.declared.mentioned.Mentioned.{Mentioned}
use Rattle.judge.specs.path_settings.view_map.Kept.{Host, missing, wrong_kind}
use Rattle.judge.specs.site_table.Table.{Site}
use Rattle.plan_command.specs.Planned.{IsPlan}
use Rattle.asked_service.specs.launching.OtherPrograms.{WhicheverPrograms}
use Rattle.asked_service.specs.declared.launching.refusal.Refusal.{Refusal}
use Rattle.asked_service.specs.declared.launching.refusal.Refusal.TheVariants.{Settings as InSettings, Plan, Launch, Memory}

-- the settings are launched to this service, by programs that match their filters. Process 1 is alone, with those programs in their order
-- and the plan as its table, in a launched world. With whichever other programs that match the filters its calls are answered alike
-- (`WhicheverPrograms`). What is open there can be shown, and its program can be executed again by the path that the settings give
pub record IsLaunched (table : calls.Table) (site : Site) (settings : Settings) (plan : Table) (service : Service) : Type 0 where
  pub launches : LaunchesTo table site settings plan service
  pub leaves_one_process : LeavesService table site settings plan service
  pub is_a_launched_world : IsLaunchedWorld service.world
  pub whichever_programs : WhicheverPrograms table site settings plan service
  pub is_served : IsServedWorld service.world
  pub runs_its_program : RunsProgram (launch_of service.world) service.program

-- the program is privileged; or this is the first step that is not done, with all programs that match the filters
abbrev pub IsRefused : calls.Table → Site → Settings → Table → LaunchError → Type 0
IsRefused table site settings plan (error.PrivilegedProgram program) = EndsAs table site settings plan (Err (error.PrivilegedProgram program))
IsRefused table site settings plan (error.Refused step errno) = EndsAs table site settings plan (Err (error.Refused step errno))
IsRefused table site settings plan (error.Killed step) = EndsAs table site settings plan (Err (error.Killed step))
IsRefused table site settings plan error.Memory = ⊥

-- the first path at which the mentions of a unit are refused
abbrev pub RefusesPath : Host → Mentioned → PlanError → Type 0
RefusesPath row_at mentions (plan.Missing path) = planned row_at mentions ≡ Err (missing path)
RefusesPath row_at mentions (plan.Kind path) = planned row_at mentions ≡ Err (wrong_kind path)
RefusesPath row_at mentions plan.Memory = ⊥

-- the unit has these settings and this plan of its mounts, and is launched to this service
pub record IsLaunchedUnit (unit : Resolved) (table : calls.Table) (site : Site) (service : Service) : Type 0 where
  pub settings : Settings
  pub accepted : refusal_of unit table site ≡ None
  pub are_settings : AreSettings unit table site settings
  pub plan : List MountStep
  pub is_plan : IsPlan (host_of site) (unit_mentions unit site) plan
  pub launched : IsLaunched table site settings plan service

-- it has them, and its launch is refused
pub record IsRefusedUnit (unit : Resolved) (table : calls.Table) (site : Site) (error : LaunchError) : Type 0 where
  pub settings : Settings
  pub accepted : refusal_of unit table site ≡ None
  pub are_settings : AreSettings unit table site settings
  pub plan : List MountStep
  pub is_plan : IsPlan (host_of site) (unit_mentions unit site) plan
  pub refused : IsRefused table site settings plan error

-- why a unit is not launched: the first setting, the first path or the launch that is refused. An answer that memory ran out says nothing
abbrev pub IsNotLaunched : Resolved → calls.Table → Site → Refusal → Type 0
IsNotLaunched unit table site (InSettings error) = refusal_of unit table site ≡ Some error
IsNotLaunched unit table site (Plan error) = (refusal_of unit table site ≡ None) × RefusesPath (host_of site)
    (unit_mentions unit site) error
IsNotLaunched unit table site (Launch error) = IsRefusedUnit unit table site error
IsNotLaunched unit table site Memory = ⊤

abbrev pub Launches : Resolved → calls.Table → Site → Result Service Refusal → Type 0
Launches unit table site (Ok service) = IsLaunchedUnit unit table site service
Launches unit table site (Err refusal) = IsNotLaunched unit table site refusal

-- the plan of some mentions, which a launch can take, or the first path that is refused
abbrev pub LaysOut : Host → Mentioned → Result (List MountStep) Refusal → Type 0
LaysOut row_at mentions (Ok plan) = IsPlan row_at mentions plan
LaysOut row_at mentions (Err (InSettings error)) = ⊥
LaysOut row_at mentions (Err (Plan error)) = RefusesPath row_at mentions error
LaysOut row_at mentions (Err (Launch error)) = ⊥
LaysOut row_at mentions (Err Memory) = ⊤

-- the launch of these settings with this plan
abbrev pub LaunchesPlanned : calls.Table → Site → Settings → Table → Result Service Refusal → Type 0
LaunchesPlanned table site settings plan (Ok service) = IsLaunched table site settings plan service
LaunchesPlanned table site settings plan (Err (InSettings error)) = ⊥
LaunchesPlanned table site settings plan (Err (Plan error)) = ⊥
LaunchesPlanned table site settings plan (Err (Launch error)) = IsRefused table site settings plan error
LaunchesPlanned table site settings plan (Err Memory) = ⊤

-- the launch of a unit with these settings of the unit
abbrev pub LaunchesBy : Resolved → calls.Table → Site → Settings → Result Service Refusal → Type 0
LaunchesBy unit table site settings (Ok service) = (is : IsLaunchedUnit unit table site service) × (is.settings ≡ settings)
LaunchesBy unit table site settings (Err (InSettings error)) = ⊥
LaunchesBy unit table site settings (Err (Plan error)) = IsNotLaunched unit table site (Plan error)
LaunchesBy unit table site settings (Err (Launch error)) = (is : IsRefusedUnit unit table site error) × (is.settings ≡ settings)
LaunchesBy unit table site settings (Err Memory) = ⊤
