-- What comparing two rows answers.
use Rattle.std.specs.declared.cmp.Ordering.{Ordering}
use Rattle.std.specs.declared.cmp.Ordering.TheVariants.{Less, Equal, Greater}
use Rattle.std.specs.Ordering.{nat_cmp, ordering_then}
use Rattle.std.specs.Cmp.Lexicographic.{slice_cmp}
use Rattle.unit_inputs.specs.unit_names.Names.{text_of}
use Rattle.score_command.specs.declared.fleet_command.fleet_report.rows.FleetOutcome.{FleetOutcome}
use Rattle.score_command.specs.declared.fleet_command.fleet_report.rows.FleetOutcome.TheVariants.{Scored, Unresolved, Unset}
use Rattle.score_command.specs.declared.fleet_command.fleet_report.rows.FleetRow.{FleetRow}

abbrev pub outcome_cmp : FleetOutcome → FleetOutcome → Ordering
outcome_cmp (Scored one) (Scored other) = nat_cmp other one
outcome_cmp (Scored one) (Unresolved other) = Less
outcome_cmp (Scored one) (Unset other) = Less
outcome_cmp (Unresolved one) (Scored other) = Greater
outcome_cmp (Unresolved one) (Unresolved other) = Equal
outcome_cmp (Unresolved one) (Unset other) = Equal
outcome_cmp (Unset one) (Scored other) = Greater
outcome_cmp (Unset one) (Unresolved other) = Equal
outcome_cmp (Unset one) (Unset other) = Equal

abbrev pub row_cmp : FleetRow → FleetRow → Ordering
row_cmp one other = ordering_then (outcome_cmp one.outcome other.outcome) (slice_cmp nat_cmp (text_of one.name) (text_of other.name))
