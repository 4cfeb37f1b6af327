-- Units that are launched, and units with a file more.
use Rattle.std.proofs.Common.{◌≡◌, ℕ, List, None, Result, Ok, Err, refl, sym, ap, ◌∙◌, subst}
use Rattle.std.specs.Prelude.{IfOk}
use Rattle.std.specs.declared.alloc.AllocError.{AllocError}
use Rattle.judge.specs.call_table.Table as calls
use Rattle.judge.specs.dropin_merge.declared.resolved.Resolved.{Resolved}
use Rattle.judge.specs.exec_settings.AreSettings.{AreSettings}
use Rattle.judge.specs.exec_settings.Mounts.{unit_mentions}
use Rattle.judge.specs.exec_settings.Refusals.{refusal_of}
use Rattle.judge.specs.exec_settings.declared.service.Settings.{Settings}
use Rattle.judge.specs.kern_mounts.declared.step.MountStep.{MountStep}
use Rattle.judge.specs.launcher.declared.launched.Launched.{Launched as Service}
use Rattle.judge.specs.mount_plan.Host.{host_of}
use Rattle.judge.specs.path_settings.declared.mentioned.Mentioned.{Mentioned}
use Rattle.judge.specs.site_table.Table.{Site}
use Rattle.report_text.specs.unit_grammar.declared.unit.UnitText.{UnitText}
use Rattle.plan_command.specs.Planned.{IsPlan}
use Rattle.asked_service.specs.declared.launching.refusal.Refusal.{Refusal}
use Rattle.asked_service.specs.declared.launching.refusal.Refusal.TheVariants.{Settings as InSettings, Plan, Launch, Memory}
use Rattle.asked_service.specs.launching.Launched.{Launches, LaunchesPlanned, LaunchesBy, LaysOut, RefusesPath}
use Rattle.asked_service.specs.launching.Longer.{says, with_file}
use Rattle.asked_service.specs.launching.Settled.{IsSettled, LaunchesSettled, inputs_in}
use Rattle.plan_command.specs.unit_inputs.declared.settling.SettledUnit.{SettledUnit}
use Rattle.judge.specs.dropin_merge.Changed.{extended}

-- the unit is the longer one
pub longer_is : (unit : Resolved) (bytes : List ℕ) (more : UnitText) (result : Result Resolved AllocError) → more ≡ says bytes
    → IfOk result (λ longer. longer ≡ extended unit more) → IfOk result (λ longer. longer ≡ with_file unit bytes)
longer_is unit bytes more (Err error) said is = tt
longer_is unit bytes more (Ok longer) said is = is ∙ ap (extended unit) said

module _ (unit : Resolved) (table : calls.Table) (site : Site) (made : Settings) (steps lent : List MountStep) (accepted : refusal_of unit table site ≡ None) (settled : AreSettings unit table site made) (laid : IsPlan (host_of site) made.mentions steps) (lends : lent ≡ steps) where
  planned : IsPlan (host_of site) (unit_mentions unit site) lent
  planned =
      subst (λ (mentions : Mentioned). IsPlan (host_of site) mentions lent) settled.mentions_written_and_implied
      (subst (λ plan. IsPlan (host_of site) made.mentions plan) (sym lends) laid)

  -- the unit is launched, or its launch is refused
  pub launched_by : (result : Result Service Refusal) → LaunchesPlanned table site made lent result
      → LaunchesBy unit table site made result
  launched_by (Ok service) is = (
    record {
      settings = made;
      accepted = accepted;
      are_settings = settled;
      plan = lent;
      is_plan = planned;
      launched = is;
    },
    refl,
  )
  launched_by (Err (InSettings error)) is = absurd is
  launched_by (Err (Plan error)) is = absurd is
  launched_by (Err (Launch error)) is = (
    record {
      settings = made;
      accepted = accepted;
      are_settings = settled;
      plan = lent;
      is_plan = planned;
      refused = is;
    },
    refl,
  )
  launched_by (Err Memory) is = tt

module _ (unit : Resolved) (table : calls.Table) (site : Site) (made : Settings) where
  -- a path is refused, or memory ran out
  pub stopped_by : (refusal : Refusal) → refusal_of unit table site ≡ None → AreSettings unit table site made
      → LaysOut (host_of site) made.mentions (Err refusal) → LaunchesBy unit table site made (Err refusal)
  stopped_by (InSettings error) accepted settled laid = absurd laid
  stopped_by (Plan error) accepted settled laid =
      (accepted, subst (λ (mentions : Mentioned). RefusesPath (host_of site) mentions error) settled.mentions_written_and_implied laid)
  stopped_by (Launch error) accepted settled laid = absurd laid
  stopped_by Memory accepted settled laid = tt

  -- whatever the settings are
  pub launched_unit : (result : Result Service Refusal) → LaunchesBy unit table site made result → Launches unit table site result
  launched_unit (Ok service) is = is.0
  launched_unit (Err (InSettings error)) is = absurd is
  launched_unit (Err (Plan error)) is = is
  launched_unit (Err (Launch error)) is = is.0
  launched_unit (Err Memory) is = tt

-- a unit with its settings, as these and its tables are lent
module _ (one : SettledUnit) (settings : Settings) (table : calls.Table) (site : Site) (own_settings : settings ≡ one.settings.value) (own_calls : table ≡ (inputs_in one).calls) (own_site : site ≡ (inputs_in one).site) (is : IsSettled one) where
  pub lent_settings : AreSettings (inputs_in one).unit table site settings
  lent_settings =
      subst (λ (own : Settings). AreSettings (inputs_in one).unit table site own) (sym own_settings)
      (subst (λ (own : calls.Table). AreSettings (inputs_in one).unit own site one.settings.value) (sym own_calls)
      (subst (λ (own : Site). AreSettings (inputs_in one).unit (inputs_in one).calls own one.settings.value) (sym own_site) is.settings))

  abbrev LaunchesLent : calls.Table → Site → Settings → Result Service Refusal → Type 0
  LaunchesLent table site settings result = refusal_of (inputs_in one).unit table site ≡ None
      → AreSettings (inputs_in one).unit table site settings → LaunchesBy (inputs_in one).unit table site settings result

  pub launched_settled : (result : Result Service Refusal) → LaunchesLent table site settings result → LaunchesSettled one result
  launched_settled result launches =
      subst (λ (own : Settings). LaunchesLent (inputs_in one).calls (inputs_in one).site own result) own_settings
      (subst (λ (own : Site). LaunchesLent (inputs_in one).calls own settings result) own_site
      (subst (λ (own : calls.Table). LaunchesLent own site settings result) own_calls launches))
      is.accepted is.settings
