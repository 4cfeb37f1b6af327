-- The text of a report of all units.
use Rattle.std.specs.Prelude.{ℕ, Bool, true, false, List, [], ◌∷◌, ◌++◌, codes, count_by, flat_map, length}
use Rattle.std.specs.Fmt.{decimal}
use Rattle.report_text.specs.text_forms.Escaped.{escaped_word}
use Rattle.unit_inputs.specs.unit_names.Names.{text_of}
use Rattle.unit_inputs.specs.UnitRefusals.{unit_line}
use Rattle.unit_inputs.specs.SettingsRefusals.{settings_line}
use Rattle.score_command.specs.declared.fleet_command.fleet_report.rows.FleetOutcome.{FleetOutcome}
use Rattle.score_command.specs.declared.fleet_command.fleet_report.rows.FleetOutcome.TheVariants.{Scored, Unresolved, Unset}
use Rattle.score_command.specs.declared.fleet_command.fleet_report.rows.FleetRow.{FleetRow}

-- a unit and its exposure
abbrev pub exposure_line : List ℕ → ℕ → List ℕ
exposure_line unit exposure = codes "unit " ++ (escaped_word unit ++ (codes " exposure " ++ (decimal exposure ++ 10 ∷ [])))

-- a refused unit has the line that a command on it alone prints
abbrev pub outcome_line : List ℕ → FleetOutcome → List ℕ
outcome_line unit (Scored exposure) = exposure_line unit exposure
outcome_line unit (Unresolved refusal) = unit_line unit refusal
outcome_line unit (Unset refusal) = settings_line unit refusal

abbrev pub row_line : FleetRow → List ℕ
row_line row = outcome_line (text_of row.name) row.outcome

abbrev pub is_refusal : FleetOutcome → Bool
is_refusal (Scored exposure) = false
is_refusal (Unresolved refusal) = true
is_refusal (Unset refusal) = true

unfoldable pub is_refused : FleetRow → Bool
is_refused row = is_refusal row.outcome

-- how many units there are, and how many of them are refused
abbrev pub counts_line : ℕ → ℕ → List ℕ
counts_line units refused = codes "units " ++ (decimal units ++ (codes " refused " ++ (decimal refused ++ 10 ∷ [])))

abbrev pub fleet_text : List FleetRow → List ℕ
fleet_text rows = flat_map row_line rows ++ counts_line (length rows) (count_by is_refused rows)
