-- The calls by which the units of a host are named: the folders of units, up to the first that has too many files.
use Rattle.std.specs.Prelude.{List, Result, Ok, Err}
use Rattle.unit_inputs.specs.host_io.Calls.{Ask, Course, Whole, Faulted, Cut}
use Rattle.unit_inputs.specs.host_io.Files.{Files}
use Rattle.report_text.specs.dropin_merge.Asking.{folder_asks}
use Rattle.report_text.specs.dropin_merge.Places.{locations}
use Rattle.score_command.specs.declared.fleet_command.fleet_names.errors.NamesError.{NamesError}
use Rattle.score_command.specs.declared.fleet_command.fleet_names.errors.NamesError.TheVariants.{TooMany, ReadFault, Memory}

abbrev pub names_asks : Files → List Ask
names_asks files = folder_asks files locations

-- how naming ended that was answered so
abbrev pub course : {T : Type 0} → Result T NamesError → Course
course (Ok value) = Whole
course (Err TooMany) = Whole
course (Err ReadFault) = Faulted
course (Err Memory) = Cut
