-- The outcome of a unit by its own files: an exposure, or why it has none.
use Rattle.std.specs.Prelude.{◌≡◌, ℕ, List, Some, None, Result, Ok, Err}
use Rattle.unit_inputs.specs.host_io.Files.{Files}
use Rattle.unit_inputs.specs.unit_names.Names.{text_of}
use Rattle.report_text.specs.dropin_merge.Resolving.{resolved_of}
use Rattle.report_text.specs.dropin_merge.Changed.{read_by}
use Rattle.report_text.specs.dropin_merge.declared.errors.ResolveError.{ResolveError}
use Rattle.report_text.specs.dropin_merge.declared.errors.ResolveError.TheVariants as resolving
use Rattle.report_text.specs.dropin_merge.declared.resolved.Resolved.{Resolved}
use Rattle.report_text.specs.call_table.Table.{Table}
use Rattle.report_text.specs.site_table.Table.{Site}
use Rattle.unit_inputs.specs.exec_settings.AreSettings.{AreSettings}
use Rattle.unit_inputs.specs.exec_settings.Refusals.{refusal_of}
use Rattle.unit_inputs.specs.exec_settings.declared.errors.SettingsError.{SettingsError}
use Rattle.unit_inputs.specs.exec_settings.declared.errors.SettingsError.TheVariants as setting
use Rattle.unit_inputs.specs.exec_settings.declared.service.Settings.{Settings}
use Rattle.report_text.specs.exposure_score.Rows.{IsScore}
use Rattle.report_text.specs.exposure_score.StoredTests.{StoredTests}
use Rattle.report_text.specs.exposure_score.declared.facts.Facts.{Facts}
use Rattle.report_text.specs.exposure_score.declared.rows.Score.{Score}
use Rattle.report_text.specs.exposure_score.declared.policy_file.policy.PolicyTest.{PolicyTest}
use Rattle.report_text.specs.exposure_score.service_facts.Facts.{AreFacts}
use Rattle.score_command.specs.declared.fleet_command.fleet_report.rows.FleetOutcome.{FleetOutcome}
use Rattle.score_command.specs.declared.fleet_command.fleet_report.rows.FleetOutcome.TheVariants.{Scored, Unresolved, Unset}
use Rattle.score_command.specs.declared.fleet_command.fleet_report.rows.FleetRow.{FleetRow}

-- the settings of the unit are accepted, and the policy gives the exposure for their facts, from answers of the stored tests
pub record HasExposure (table : Table) (site : Site) (policy : List PolicyTest) (stored : StoredTests) (unit : Resolved) (exposure : ℕ) : Type 0 where
  pub accepted : refusal_of unit table site ≡ None
  pub settings : Settings
  pub are_settings : AreSettings unit table site settings
  pub facts : Facts
  pub are_facts : AreFacts unit table settings facts
  pub score : Score
  pub is_score : IsScore stored.id_of (stored.Answers facts) facts.tests stored.tests policy score
  pub is_its_exposure : score.exposure ≡ exposure

-- the outcome of a unit as it is read
abbrev pub IsOutcomeOf : Table → Site → List PolicyTest → StoredTests → Resolved → FleetOutcome → Type 0
IsOutcomeOf table site policy stored unit (Scored exposure) = HasExposure table site policy stored unit exposure
IsOutcomeOf table site policy stored unit (Unset refusal) = refusal_of unit table site ≡ Some refusal
IsOutcomeOf table site policy stored unit (Unresolved refusal) = ⊥

-- a unit that is resolved is read by the systemd of the site
abbrev pub IsOutcome : Table → Site → List PolicyTest → StoredTests → Result Resolved ResolveError → FleetOutcome → Type 0
IsOutcome table site policy stored (Ok unit) outcome = IsOutcomeOf table site policy stored (read_by site.systemd unit) outcome
IsOutcome table site policy stored (Err refusal) (Unresolved told) = told ≡ refusal
IsOutcome table site policy stored (Err refusal) (Scored exposure) = ⊥
IsOutcome table site policy stored (Err refusal) (Unset told) = ⊥

-- the row of a unit, which depends on no other unit's files
abbrev pub IsRowOf : Files → Table → Site → List PolicyTest → StoredTests → FleetRow → Type 0
IsRowOf files table site policy stored row = IsOutcome table site policy stored (resolved_of files (text_of row.name)) row.outcome

-- a refusal is neither a fault nor lack of memory
abbrev pub IsNoFault : ResolveError → Type 0
IsNoFault resolving.BadName = Unit {0}
IsNoFault resolving.NotFound = Unit {0}
IsNoFault resolving.Masked = Unit {0}
IsNoFault resolving.DropIns = Unit {0}
IsNoFault (resolving.TooLarge path) = Unit {0}
IsNoFault (resolving.Text path fault) = Unit {0}
IsNoFault resolving.ReadFault = ⊥
IsNoFault resolving.Memory = ⊥

abbrev pub IsNoWant : SettingsError → Type 0
IsNoWant setting.NoCommand = Unit {0}
IsNoWant setting.PrivilegedCommand = Unit {0}
IsNoWant (setting.OutsideProfile key) = Unit {0}
IsNoWant (setting.NoSuchUser word) = Unit {0}
IsNoWant (setting.NoSuchGroup word) = Unit {0}
IsNoWant (setting.MissingGroup name) = Unit {0}
IsNoWant setting.TooManyPaths = Unit {0}
IsNoWant setting.Memory = ⊥

abbrev pub TellsNoFault : FleetOutcome → Type 0
TellsNoFault (Scored exposure) = Unit {0}
TellsNoFault (Unresolved refusal) = IsNoFault refusal
TellsNoFault (Unset refusal) = IsNoWant refusal
