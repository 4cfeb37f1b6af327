-- Each line ends in a line feed.
use Rattle.std.proofs.Common.{List, ℕ, ◌++◌, codes, inl, inr, refl}
use Rattle.std.specs.Fmt.{decimal}
use Rattle.report_text.specs.text_forms.Escaped.{escaped_word}
use Rattle.unit_inputs.specs.unit_names.Names.{text_of}
use Rattle.unit_inputs.specs.SettingsRefusals.{settings_cause}
use Rattle.unit_inputs.specs.UnitRefusals.{text_cause, unit_line}
use Rattle.unit_inputs.specs.command_answers.Lines.{IsOfLines}
use Rattle.unit_inputs.specs.command_answers.Refusals.{refused_line}
use Rattle.report_text.specs.dropin_merge.declared.errors.ResolveError.{ResolveError}
use Rattle.report_text.specs.dropin_merge.declared.errors.ResolveError.TheVariants as resolve
use Rattle.unit_inputs.proofs.Lines.{ends_behind, ends_feed}
use Rattle.score_command.specs.fleet_command.Texts.{counts_line, outcome_line, row_line}
use Rattle.score_command.specs.declared.fleet_command.fleet_report.rows.FleetOutcome.{FleetOutcome}
use Rattle.score_command.specs.declared.fleet_command.fleet_report.rows.FleetOutcome.TheVariants.{Scored, Unresolved, Unset}
use Rattle.score_command.specs.declared.fleet_command.fleet_report.rows.FleetRow.{FleetRow}

refused_ends : (what why : List ℕ) → IsOfLines (refused_line what why)
refused_ends what why =
    inr (ends_behind (codes "refused " ++ escaped_word what ++ codes " " ++ why) _ ends_feed)

unresolved_ends : (unit : List ℕ) (refusal : ResolveError) → IsOfLines (unit_line unit refusal)
unresolved_ends unit resolve.BadName = refused_ends unit (codes "bad-name")
unresolved_ends unit resolve.NotFound = refused_ends unit (codes "not-found")
unresolved_ends unit resolve.Masked = refused_ends unit (codes "masked")
unresolved_ends unit resolve.DropIns = refused_ends unit (codes "drop-ins")
unresolved_ends unit (resolve.TooLarge path) = refused_ends path (codes "too-large")
unresolved_ends unit (resolve.Text path fault) = refused_ends path (text_cause fault)
unresolved_ends unit resolve.ReadFault = inl refl
unresolved_ends unit resolve.Memory = inl refl

outcome_ends : (unit : List ℕ) (outcome : FleetOutcome) → IsOfLines (outcome_line unit outcome)
outcome_ends unit (Scored exposure) =
    inr (ends_behind (codes "unit ") _ (ends_behind (escaped_word unit) _
    (ends_behind (codes " exposure ") _ (ends_behind (decimal exposure) _ ends_feed))))
outcome_ends unit (Unresolved refusal) = unresolved_ends unit refusal
outcome_ends unit (Unset refusal) = refused_ends unit (settings_cause refusal)

pub row_ends : (row : FleetRow) → IsOfLines (row_line row)
row_ends row = outcome_ends (text_of row.name) row.outcome

pub counts_ends : (units refused : ℕ) → IsOfLines (counts_line units refused)
counts_ends units refused =
    inr (ends_behind (codes "units ") _ (ends_behind (decimal units) _
    (ends_behind (codes " refused ") _ (ends_behind (decimal refused) _ ends_feed))))
