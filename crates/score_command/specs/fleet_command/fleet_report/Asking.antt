-- The calls that read the units of a report: unit by unit, whatever the outcome of each.
use Rattle.std.specs.Prelude.{ℕ, ◌==◌, cond, List, [], flat_map, Result, Ok, Err}
use Rattle.unit_inputs.specs.host_io.Calls.{Ask, Course, Whole, Faulted, Cut}
use Rattle.unit_inputs.specs.host_io.Files.{Files}
use Rattle.report_text.specs.dropin_merge.Asking.{resolve_asks}
use Rattle.unit_inputs.specs.unit_names.Names.{Name, text_of}
use Rattle.score_command.specs.declared.fleet_command.fleet_report.errors.FleetError.{FleetError}
use Rattle.score_command.specs.declared.fleet_command.fleet_report.errors.FleetError.TheVariants.{NoWeight, ReadFault, Memory}

abbrev pub row_asks : Files → Name → List Ask
row_asks files name = resolve_asks files (text_of name)

abbrev pub rows_asks : Files → List Name → List Ask
rows_asks files names = flat_map (row_asks files) names

-- nothing is read for a policy that weighs nothing
abbrev pub unless_weightless : ℕ → List Ask → List Ask
unless_weightless weight asks = cond (weight == 0) [] asks

-- how a report ended that was answered so
abbrev pub course : {T : Type 0} → Result T FleetError → Course
course (Ok value) = Whole
course (Err NoWeight) = Whole
course (Err ReadFault) = Faulted
course (Err Memory) = Cut
