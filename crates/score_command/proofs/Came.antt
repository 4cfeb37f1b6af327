-- A policy that weighs something weighs something of every unit.
use Rattle.std.proofs.Common.{◌≡◌, ◌∙◌, ℕ, ◌<◌, Bool, true, List, Option, Result, Ok, Err, sym, ap, arith, subst}
use Rattle.std.specs.Prelude.{◌↔◌, IfOk, IsErrOf, nat_lt}
use Rattle.std.specs.Result.{IsErrAnd}
use Rattle.report_text.specs.call_table.Table.{Table}
use Rattle.unit_inputs.specs.host_io.Agreeing.{ForFiles}
use Rattle.unit_inputs.specs.host_io.Files.{Files}
use Rattle.report_text.specs.site_table.Table.{Site}
use Rattle.unit_inputs.specs.unit_names.declared.version.Version.{Version}
use Rattle.report_text.specs.dropin_merge.Changed.{read_by}
use Rattle.report_text.specs.dropin_merge.Resolving.{resolved_of}
use Rattle.report_text.specs.dropin_merge.declared.resolved.Resolved.{Resolved}
use Rattle.unit_inputs.specs.exec_settings.declared.service.Settings.{Settings}
use Rattle.report_text.specs.exposure_score.Rows.{counted_weight}
use Rattle.report_text.specs.exposure_score.StoredTests.{StoredTests}
use Rattle.report_text.specs.exposure_score.declared.facts.Facts.{Facts}
use Rattle.report_text.specs.exposure_score.declared.policy_file.policy.PolicyTest.{PolicyTest}
use Rattle.report_text.specs.exposure_score.policy_weights.Weights.{weight_of}
use Rattle.report_text.proofs.OfExposureScore.Weights.{weighs_alike}
use Rattle.report_text.specs.exposure_score.service_facts.Facts.{AreFacts}
use Rattle.score_command.specs.fleet_command.fleet_report.Outcomes.{IsOutcome, IsOutcomeOf}
use Rattle.score_command.specs.declared.fleet_command.fleet_report.errors.FleetError.{FleetError}
use Rattle.score_command.specs.declared.fleet_command.fleet_report.rows.FleetOutcome.{FleetOutcome}
use Rattle.score_command.specs.declared.fleet_command.fleet_report.errors.FleetError.TheVariants.{NoWeight}

pub weighs_each : (unit : Resolved) (table : Table) (settings : Settings) (facts : Facts) (stored : StoredTests)
    (policy : List PolicyTest) → AreFacts unit table settings facts
    → 0 < weight_of table stored policy → counted_weight stored.id_of facts.tests stored.tests policy ≡ 0 → ⊥
weighs_each unit table settings facts stored policy are some none =
    let same : weight_of table stored policy ≡ 0 = sym (weighs_alike unit table settings facts stored policy are) ∙ none in
    omega (arith, some, same)

-- an error that is passed on is none of weight, where it was none
pub passed_on : {T U : Type 0} (result : Result T FleetError) (error : FleetError) → IsErrAnd result (λ e. e ≡ error)
    → (IsErrOf {T = U} (Err error) NoWeight → ⊥) → IsErrOf result NoWeight → ⊥
passed_on (Ok value) error is never weightless = absurd is
passed_on (Err other) error is never weightless = (let same : other ≡ NoWeight = cc in never (ap Err (sym is ∙ same)))

weight_is_some : true ≡ nat_lt 0 0 → ⊥
weight_is_some e = cc

-- where the policy weighs something there is no such error
pub weighs_something : {T : Type 0} (result : Result T FleetError) (weight : ℕ) (answer : Bool) → answer ≡ nat_lt 0 weight → answer ≡ true
    → (IsErrOf result NoWeight → ⊥) → IsErrOf result NoWeight ↔ (weight ≡ 0)
weighs_something result weight answer is some never =
    (λ weightless. absurd (never weightless), λ none. absurd (weight_is_some (sym some ∙ is ∙ ap (nat_lt 0) none)))

-- the outcome of a unit that its files resolve to, and that the systemd of the site reads
module _ (table : Table) (site : Site) (policy : List PolicyTest) (stored : StoredTests) (agrees : Files → Type 0) (text : List ℕ) where
  pub outcome_read : (systemd : Option Version) (unit read : Resolved) (result : Result FleetOutcome FleetError) → systemd ≡ site.systemd
      → ForFiles agrees (λ files. resolved_of files text ≡ Ok unit) → read ≡ read_by systemd unit
      → IfOk result (IsOutcomeOf table site policy stored read)
      → ForFiles agrees (λ files. IfOk result (IsOutcome table site policy stored (resolved_of files text)))
  outcome_read systemd unit read result version resolves same made files agree =
      subst (λ found. IfOk result (IsOutcome table site policy stored found)) (sym (resolves files agree))
      (subst (λ own. IfOk result (IsOutcomeOf table site policy stored own)) (same ∙ ap (λ own. read_by own unit) version) made)
