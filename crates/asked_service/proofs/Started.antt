-- What a command answers by the launch of a unit, and the refusals before it.
use Rattle.std.proofs.Common.{◌≡◌, ◌∙◌, ℕ, List, [], ◌∷◌, Option, Some, None, Result, Ok, Err, refl, sym, ap, subst}
use Rattle.std.specs.Option.{option_map}
use Rattle.std.specs.Prelude.{IfOk, IsErrOf}
use Rattle.judge.specs.call_table.Table as calls
use Rattle.judge.specs.dropin_merge.declared.resolved.Resolved.{Resolved}
use Rattle.judge.specs.exec_settings.Mounts.{unit_mentions}
use Rattle.judge.specs.exec_settings.Refusals.{refusal_of}
use Rattle.judge.specs.exec_settings.declared.errors.SettingsError.{SettingsError}
use Rattle.judge.specs.kern_mounts.declared.step.MountStep.{MountStep}
use Rattle.judge.specs.launcher.declared.error.LaunchError.{LaunchError}
use Rattle.judge.specs.launcher.declared.launched.Launched.{Launched as Service}
use Rattle.judge.specs.mount_plan.Host.{host_of}
use Rattle.judge.specs.mount_plan.Planned.{planned as planned_at}
use Rattle.judge.specs.mount_plan.declared.error.PlanError.{PlanError}
use Rattle.judge.specs.mount_plan.declared.error.PlanError.TheVariants as plan
use Rattle.judge.specs.path_settings.view_map.Kept.{Refusal as PathRefusal}
use Rattle.judge.specs.site_table.Table.{Site}
use Rattle.plan_command.specs.Planned.{IsPlan}
use Rattle.plan_command.specs.Refusals.{error_line, plan_line}
use Rattle.plan_command.specs.Prints.{refused_paths}
use Rattle.plan_command.specs.unit_inputs.Inputs.{inputs_view}
use Rattle.plan_command.specs.unit_inputs.Settled.{AreSettled, refusals_of}
use Rattle.plan_command.specs.unit_inputs.SettingsRefusals.{settings_line}
use Rattle.plan_command.specs.unit_inputs.command_answers.CommandErrors.{Prepares, first_refusal, or_line, refusal_in}
use Rattle.plan_command.specs.unit_inputs.command_answers.ReadyTexts.{IsReadyWith, status_of, text_of}
use Rattle.plan_command.specs.unit_inputs.declared.command_answers.error.CommandError.{CommandError}
use Rattle.plan_command.specs.unit_inputs.declared.command_answers.error.CommandError.TheVariants as stop
use Rattle.plan_command.specs.unit_inputs.declared.command_answers.exit_status.ExitStatus.{ExitStatus}
use Rattle.plan_command.specs.unit_inputs.declared.command_answers.exit_status.ExitStatus.TheVariants.{LaunchRefused}
use Rattle.plan_command.specs.unit_inputs.declared.command_answers.ready_text.ReadyText.{ReadyText}
use Rattle.plan_command.specs.unit_inputs.declared.inputs.UnitInputs.{UnitInputs}
use Rattle.plan_command.specs.unit_inputs.declared.settling.SettledUnit.{SettledUnit}
use Rattle.asked_service.specs.declared.launching.refusal.Refusal.{Refusal}
use Rattle.asked_service.specs.declared.launching.refusal.Refusal.TheVariants.{Settings as InSettings, Plan, Launch, Memory}
use Rattle.asked_service.specs.launching.Launched.{IsLaunchedUnit, IsNotLaunched, IsRefusedUnit, RefusesPath}
use Rattle.asked_service.specs.launching.Refusals.{StopsUnlessLaunch, TellsRefusal, launch_line}
use Rattle.asked_service.specs.launching.Settled.{IsSettled, LaunchesSettled, StartsBy, inputs_in}
use Rattle.asked_service.specs.launching.Starting.{given, start_refusals}

module _ (name : List ℕ) (unit : Resolved) (table : calls.Table) (site : Site) where
  abbrev refusals : List (Option (List ℕ))
  refusals = start_refusals name (given unit table site)

  -- of what a setting and the paths are found to be
  abbrev refusals_from : Option SettingsError → Result (List MountStep) PathRefusal → List (Option (List ℕ))
  refusals_from settings kept = option_map (settings_line name) settings ∷ (refusal_in (or_line (plan_line name) kept) ∷ [])

  abbrev kept : Result (List MountStep) PathRefusal
  kept = planned_at (host_of site) (unit_mentions unit site)

  -- a setting is refused
  pub at_settings : (error : SettingsError) → refusal_of unit table site ≡ Some error
      → first_refusal refusals ≡ Some (settings_line name error)
  at_settings error is = ap (λ found. first_refusal (refusals_from found kept)) is

  -- a path is refused
  pub at_paths : (error : PlanError) → refusal_of unit table site ≡ None → RefusesPath (host_of site) (unit_mentions unit site) error
      → first_refusal refusals ≡ Some (error_line name error)
  at_paths (plan.Missing path) accepted is = ap (λ found. first_refusal (refusals_from found kept)) accepted
      ∙ ap (λ found. first_refusal (refusals_from None found)) is
  at_paths (plan.Kind path) accepted is = ap (λ found. first_refusal (refusals_from found kept)) accepted
      ∙ ap (λ found. first_refusal (refusals_from None found)) is
  at_paths plan.Memory accepted is = absurd is

  -- nothing is refused before the launch
  pub planned : (steps : List MountStep) → refusal_of unit table site ≡ None → IsPlan (host_of site) (unit_mentions unit site) steps
      → first_refusal refusals ≡ None
  planned steps accepted is = ap (λ found. first_refusal (refusals_from found kept)) accepted
      ∙ ap (λ found. first_refusal (refusals_from None found)) is.is_planned

  pub launched : (service : Service) → IsLaunchedUnit unit table site service → first_refusal refusals ≡ None
  launched service is = planned is.plan is.accepted is.is_plan

  pub barred : (error : LaunchError) → IsRefusedUnit unit table site error → first_refusal refusals ≡ None
  barred error is = planned is.plan is.accepted is.is_plan

  -- a refusal stops, unless it is of the launch
  pub stopped : (refusal : Refusal) (result : Result LaunchError CommandError) → IsNotLaunched unit table site refusal
      → StopsUnlessLaunch name refusal result
      → Prepares (λ error. IsRefusedUnit unit table site error) refusals result
  stopped (InSettings error) (Ok own) is tells = absurd tells
  stopped (InSettings error) (Err (stop.Refused line)) is tells = at_settings error is ∙ ap Some (sym tells)
  stopped (InSettings error) (Err stop.ReadFault) is tells = tt
  stopped (InSettings error) (Err stop.Memory) is tells = tt
  stopped (Plan error) (Ok own) is tells = absurd tells
  stopped (Plan error) (Err (stop.Refused line)) is tells = at_paths error is.0 is.1 ∙ ap Some (sym tells)
  stopped (Plan error) (Err stop.ReadFault) is tells = tt
  stopped (Plan error) (Err stop.Memory) is tells = tt
  stopped (Launch error) result is tells =
      subst (Prepares (λ own. IsRefusedUnit unit table site own) refusals) (sym tells) (barred error is, is)
  stopped Memory result is tells = subst (Prepares (λ own. IsRefusedUnit unit table site own) refusals) (sym tells) tt

  module _ (P : ExitStatus → List ℕ → Type 0) where
    -- a text is ready for the service
    pub served : (service : Service) (result : Result ReadyText CommandError) → IsLaunchedUnit unit table site service
        → IsReadyWith P result → Prepares (λ made. P (status_of made) (text_of made)) refusals result
    served service (Ok ready) is tells = (launched service is, tells)
    served service (Err (stop.Refused line)) is tells = absurd tells
    served service (Err stop.ReadFault) is tells = tt
    served service (Err stop.Memory) is tells = tt

    -- the refusal is told, of a launch as a text
    pub told : (refusal : Refusal) (result : Result ReadyText CommandError) → IsNotLaunched unit table site refusal
        → TellsRefusal name refusal result
        → ((error : LaunchError) → IsRefusedUnit unit table site error → P LaunchRefused (launch_line error))
        → Prepares (λ made. P (status_of made) (text_of made)) refusals result
    told (InSettings error) (Ok ready) is tells each = absurd tells
    told (InSettings error) (Err (stop.Refused line)) is tells each = at_settings error is ∙ ap Some (sym tells)
    told (InSettings error) (Err stop.ReadFault) is tells each = tt
    told (InSettings error) (Err stop.Memory) is tells each = tt
    told (Plan error) (Ok ready) is tells each = absurd tells
    told (Plan error) (Err (stop.Refused line)) is tells each = at_paths error is.0 is.1 ∙ ap Some (sym tells)
    told (Plan error) (Err stop.ReadFault) is tells each = tt
    told (Plan error) (Err stop.Memory) is tells each = tt
    told (Launch error) (Ok ready) is tells each = (
      barred error is,
      subst (λ status. P status ready.text.items) (sym tells.0) (subst (P LaunchRefused) (sym tells.1) (each error is)),
    )
    told (Launch error) (Err (stop.Refused line)) is tells each = absurd tells
    told (Launch error) (Err stop.ReadFault) is tells each = tt
    told (Launch error) (Err stop.Memory) is tells each = tt
    told Memory result is tells each =
        subst (Prepares (λ made. P (status_of made) (text_of made)) refusals) (sym tells) tt

-- what stops a command stops it whatever was wanted
pub any_stop : {T U : Type 0} (P : T → Type 0) (Q : U → Type 0) (all : List (Option (List ℕ))) (why : CommandError)
    → Prepares P all (Err why) → Prepares Q all (Err why)
any_stop P Q all (stop.Refused line) said = said
any_stop P Q all stop.ReadFault said = tt
any_stop P Q all stop.Memory said = tt

-- what is ready by one relation is ready by another
pub ready_as : (P Q : ExitStatus → List ℕ → Type 0) → ((status : ExitStatus) (text : List ℕ) → P status text → Q status text)
    → (result : Result ReadyText CommandError) → IsReadyWith P result → IsReadyWith Q result
ready_as P Q as_other (Ok ready) is = as_other ready.status ready.text.items is
ready_as P Q as_other (Err (stop.Refused line)) is = is
ready_as P Q as_other (Err stop.ReadFault) is = is
ready_as P Q as_other (Err stop.Memory) is = tt

-- and reads nothing, whatever was wanted
pub stop_reads_nothing : {T U : Type 0} (why : CommandError) → (IsErrOf {T = T} (Err why) stop.ReadFault → ⊥)
    → IsErrOf {T = U} (Err why) stop.ReadFault → ⊥
stop_reads_nothing (stop.Refused line) nothing e = cc
stop_reads_nothing stop.ReadFault nothing e = nothing refl
stop_reads_nothing stop.Memory nothing e = cc

-- ---- a unit that has its settings
-- no line stands for a setting that is refused
accepts : (name : List ℕ) (found : Option SettingsError) → first_refusal (option_map (settings_line name) found ∷ []) ≡ None → found ≡ None
accepts name None none = refl
accepts name (Some error) none = cc

pub is_settled : (name : List ℕ) (inputs : UnitInputs) (result : Result SettledUnit CommandError)
    → Prepares (λ one. (one.inputs ≡ inputs) × AreSettled (inputs_view inputs) one.settings.value)
    (refusals_of name (inputs_view inputs)) result → IfOk result IsSettled
is_settled name inputs (Err why) settles = tt
is_settled name inputs (Ok one) settles = record {
  accepted = subst (λ (own : UnitInputs). refusal_of (inputs_view own).unit (inputs_view own).calls (inputs_view own).site ≡ None)
      (sym settles.1.0)
      (accepts name (refusal_of (inputs_view inputs).unit (inputs_view inputs).calls (inputs_view inputs).site) settles.0);
  settings = subst (λ (own : UnitInputs). AreSettled (inputs_view own) one.settings.value) (sym settles.1.0) settles.1.1;
}

module _ (name : List ℕ) (one : SettledUnit) where
  -- no setting is refused, and the paths come next
  pub paths_next : IsSettled one → first_refusal (start_refusals name (inputs_in one)) ≡ first_refusal (refused_paths name (inputs_in one))
  paths_next is = ap (λ found. first_refusal (option_map (settings_line name) found ∷ refused_paths name (inputs_in one))) is.accepted

  pub starts_settled : (service : Service) → LaunchesSettled one (Ok service)
      → (first_refusal (start_refusals name (inputs_in one)) ≡ None) × StartsBy one (Ok service)
  starts_settled service is =
      (launched name (inputs_in one).unit (inputs_in one).calls (inputs_in one).site service is.0, (is.0, is.1))

  pub stopped_settled : (refusal : Refusal) (result : Result LaunchError CommandError) → LaunchesSettled one (Err refusal)
      → StopsUnlessLaunch name refusal result
      → Prepares (λ error. StartsBy one (Err error)) (start_refusals name (inputs_in one)) result
  stopped_settled (InSettings error) result is tells = absurd is
  stopped_settled (Plan error) (Ok own) is tells = absurd tells
  stopped_settled (Plan error) (Err (stop.Refused line)) is tells =
      at_paths name (inputs_in one).unit (inputs_in one).calls (inputs_in one).site error is.0 is.1 ∙ ap Some (sym tells)
  stopped_settled (Plan error) (Err stop.ReadFault) is tells = tt
  stopped_settled (Plan error) (Err stop.Memory) is tells = tt
  stopped_settled (Launch error) result is tells =
      subst (Prepares (λ own. StartsBy one (Err own)) (start_refusals name (inputs_in one))) (sym tells)
      (barred name (inputs_in one).unit (inputs_in one).calls (inputs_in one).site error is.0, (is.0, is.1))
  stopped_settled Memory result is tells =
      subst (Prepares (λ own. StartsBy one (Err own)) (start_refusals name (inputs_in one))) (sym tells) tt
