-- A report of all units, or the line of a policy that weighs nothing.
use Rattle.std.proofs.Common.{◌≡◌, ◌∙◌, ℕ, Bool, true, false, Some, None, List, [], ◌∷◌, map, Vec, Global, Result, Ok, Err, refl}
use Rattle.std.proofs.Common.{sym, ap, subst, cond, arith}
use Rattle.std.specs.Prelude.{◌↔◌, ◌==◌, IfOk, IsErrOf, IsPermutation}
use Rattle.std.specs.List.{All}
use Rattle.std.specs.declared.alloc.AllocError.{AllocError}
use Rattle.std.proofs.lemmas.Bool.Decides.{nat_tests}
use Rattle.unit_inputs.specs.host_io.Agreeing.{ForFiles}
use Rattle.unit_inputs.specs.host_io.Files.{Files}
use Rattle.unit_inputs.specs.unit_names.Names.{Name}
use Rattle.report_text.specs.call_table.Table.{Table}
use Rattle.report_text.specs.site_table.Table.{Site}
use Rattle.report_text.specs.exposure_score.StoredTests.{StoredTests}
use Rattle.report_text.specs.exposure_score.declared.policy_file.policy.PolicyTest.{PolicyTest}
use Rattle.report_text.specs.exposure_score.policy_weights.Weights.{weight_of}
use Rattle.unit_inputs.specs.command_answers.CommandErrors.{Prepares, first_refusal, error_of_line}
use Rattle.unit_inputs.specs.declared.command_answers.error.CommandError.{CommandError}
use Rattle.score_command.specs.Weights.{no_weight_line, weight_refusal}
use Rattle.score_command.specs.fleet_command.fleet_report.Order.{AreInOrder}
use Rattle.score_command.specs.fleet_command.fleet_report.Outcomes.{IsRowOf}
use Rattle.score_command.specs.declared.fleet_command.fleet_report.errors.FleetError.TheVariants.{NoWeight}
use Rattle.score_command.specs.declared.fleet_command.fleet_report.rows.FleetRow.{FleetRow}
use Rattle.score_command.specs.fleet_command.Inputs.{Inputs, inputs_view}
use Rattle.score_command.specs.fleet_command.Reports.{AreFleet}
use Rattle.score_command.specs.declared.fleet_command.preparing.FleetInputs.{FleetInputs}

-- a policy that weighs something is not refused for that
zero_is : (weight : ℕ) → (weight == 0) ≡ true → weight ≡ 0
zero_is weight e = grind (arith, nat_tests)

weighs_something : (path : List ℕ) (weight : ℕ) → (weight ≡ 0 → ⊥) → first_refusal (weight_refusal path weight ∷ []) ≡ None
weighs_something path weight some = by_test (weight == 0) refl
  where
    by_test : (b : Bool) → (weight == 0) ≡ b → first_refusal (cond b (Some (no_weight_line path)) None ∷ []) ≡ None
    by_test true e = absurd (some (zero_is weight e))
    by_test false e = refl

never_both : {T : Type 0} (value : T) → Ok value ≡ Err NoWeight → ⊥
never_both value e = cc

abbrev made : List Name → Table → Site → List PolicyTest → Inputs
made names table site policy = record { names = names; calls = table; site = site; policy = policy }

-- a report by what is read
by_inputs : (agrees : Files → Type 0) (path : List ℕ) (inputs : Inputs) (stored : StoredTests) (rows : Vec FleetRow Global)
    → IsErrOf {T = Vec FleetRow Global} (Ok rows) NoWeight ↔ (weight_of inputs.calls stored inputs.policy ≡ 0)
    → IsPermutation inputs.names (map (λ row. row.name) rows.items)
    → ForFiles agrees (λ files. All (IsRowOf files inputs.calls inputs.site inputs.policy stored) rows.items)
    → AreInOrder rows.items
    → ForFiles agrees (λ files. Prepares {T = Vec FleetRow Global} (λ rows. AreFleet files inputs stored rows.items)
    (weight_refusal path (weight_of inputs.calls stored inputs.policy) ∷ []) (Ok rows))
by_inputs agrees path inputs stored rows weightless each by_files order files agree = (
  weighs_something path (weight_of inputs.calls stored inputs.policy) (λ none. never_both rows (weightless.1 none)),
  record { a_row_a_name = each; by_their_files = (by_files files agree); least_protected_first = order },
)

-- and by what is lent of it
pub reported : (agrees : Files → Type 0) (path : List ℕ) (inputs : FleetInputs) (stored : StoredTests) (names : List Name) (table : Table)
    (site : Site) (rows : Vec FleetRow Global)
    → names ≡ inputs.names.items → table ≡ inputs.calls.value → site ≡ inputs.site.value
    → IsErrOf {T = Vec FleetRow Global} (Ok rows) NoWeight ↔ (weight_of table stored inputs.policy ≡ 0)
    → IsPermutation names (map (λ row. row.name) rows.items)
    → ForFiles agrees (λ files. All (IsRowOf files table site inputs.policy stored) rows.items)
    → AreInOrder rows.items
    → ForFiles agrees (λ files. Prepares {T = Vec FleetRow Global} (λ rows. AreFleet files (inputs_view inputs) stored rows.items)
    (weight_refusal path (weight_of (inputs_view inputs).calls stored (inputs_view inputs).policy) ∷ []) (Ok rows))
reported agrees path inputs stored names table site rows first second third weightless each by_files order =
    let same : made names table site inputs.policy ≡ inputs_view inputs =
    ap (λ own. made own table site inputs.policy) first ∙ ap (λ own. made inputs.names.items own site inputs.policy) second ∙ ap (λ own. made inputs.names.items inputs.calls.value own inputs.policy) third in
    subst (λ (own : Inputs). ForFiles agrees
    (λ files. Prepares {T = Vec FleetRow Global} (λ rows. AreFleet files own stored rows.items)
    (weight_refusal path (weight_of own.calls stored own.policy) ∷ []) (Ok rows))) same
    (by_inputs agrees path (made names table site inputs.policy) stored rows weightless each by_files order)

-- and one that weighs nothing has its line
pub weightless : {T : Type 0} (agrees : Files → Type 0) (P : Files → T → Type 0) (path : List ℕ) (weight : ℕ)
    (line : Result (Vec ℕ Global) AllocError) (why : CommandError) → weight ≡ 0 → why ≡ error_of_line line
    → IfOk line (λ line. line.items ≡ no_weight_line path)
    → ForFiles agrees (λ files. Prepares (P files) (weight_refusal path weight ∷ []) (Err why))
weightless agrees P path weight line why none is tells files agree =
    subst (λ own. Prepares (P files) (weight_refusal path weight ∷ []) (Err own)) (sym is) (by_line line tells)
  where
    by_line : (line : Result (Vec ℕ Global) AllocError) → IfOk line (λ line. line.items ≡ no_weight_line path)
        → Prepares (P files) (weight_refusal path weight ∷ []) (Err (error_of_line line))
    by_line (Ok line) tells = ap (λ n. first_refusal (weight_refusal path n ∷ [])) none ∙ ap Some (sym tells)
    by_line (Err error) tells = tt
