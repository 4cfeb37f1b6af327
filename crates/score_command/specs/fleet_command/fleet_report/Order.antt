-- The order of rows: the least protected unit first.
use Rattle.std.specs.Prelude.{◌≡◌, ◌<◌, ◌⊎◌, List, false, AllPairs}
use Rattle.std.specs.Ordering.{is_lt, nat_cmp}
use Rattle.std.specs.Cmp.Lexicographic.{slice_cmp}
use Rattle.unit_inputs.specs.unit_names.Names.{Name, text_of}
use Rattle.score_command.specs.declared.fleet_command.fleet_report.rows.FleetOutcome.{FleetOutcome}
use Rattle.score_command.specs.declared.fleet_command.fleet_report.rows.FleetOutcome.TheVariants.{Scored, Unresolved, Unset}
use Rattle.score_command.specs.declared.fleet_command.fleet_report.rows.FleetRow.{FleetRow}

-- in byte order the other name does not come before the one
abbrev pub AreNamedInOrder : Name → Name → Type 0
AreNamedInOrder one other = is_lt (slice_cmp nat_cmp (text_of other) (text_of one)) ≡ false

-- scored units come first, the greater exposure first; of equal ones, and of the others, the names decide
abbrev pub StandBy : FleetOutcome → FleetOutcome → Type 0 → Type 0
StandBy (Scored one) (Scored other) named = (other < one) ⊎ ((one ≡ other) × named)
StandBy (Scored one) (Unresolved other) named = Unit {0}
StandBy (Scored one) (Unset other) named = Unit {0}
StandBy (Unresolved one) (Scored other) named = ⊥
StandBy (Unresolved one) (Unresolved other) named = named
StandBy (Unresolved one) (Unset other) named = named
StandBy (Unset one) (Scored other) named = ⊥
StandBy (Unset one) (Unresolved other) named = named
StandBy (Unset one) (Unset other) named = named

-- one row may precede another
abbrev pub MayStandBefore : FleetRow → FleetRow → Type 0
MayStandBefore one other = StandBy one.outcome other.outcome (AreNamedInOrder one.name other.name)

abbrev pub AreInOrder : List FleetRow → Type 0
AreInOrder rows = AllPairs MayStandBefore rows
