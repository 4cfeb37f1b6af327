-- What `filter` prints, by the files.
use Rattle.std.specs.Prelude.{◌≡◌, ℕ, IsSome, List, Some}
use Rattle.unit_inputs.specs.host_io.Files.{Files}
use Rattle.launcher.specs.exec_settings.Dynamic.{unit_filters}
use Rattle.unit_inputs.specs.command_answers.Laws.{FileLaws}
use Rattle.unit_inputs.specs.declared.command_answers.exit_status.ExitStatus.{ExitStatus}
use Rattle.unit_inputs.specs.declared.command_answers.exit_status.ExitStatus.TheVariants.{Done}
use Rattle.unit_inputs.specs.Inputs.{Inputs, inputs_of}
use Rattle.unit_inputs.specs.unit_names.Cutting.{name_of}
use Rattle.unit_inputs.specs.Settled.{unit_refusals}
use Rattle.filter_command.specs.declared.command.Filters.{Filters}
use Rattle.launcher.specs.declared.filters.FilterProgram.{FilterProgram}
use Rattle.filter_command.specs.Compiled.{AreFilters}
use Rattle.filter_command.specs.Lines.{text_of}

-- the text of any programs that are the unit's filters
pub record PrintsFilters (files : Files) (unit text : List ℕ) : Type 0 where
  pub inputs : Inputs
  pub inputs_are : inputs_of files unit ≡ Some inputs
  pub filters : List FilterProgram
  pub are_filters : AreFilters (unit_filters inputs.unit inputs.calls) inputs.calls filters
  pub is_their_text : text ≡ text_of filters

-- refused are the inputs and the settings of the unit, in this order; else the filters are printed
abbrev pub filter_laws : List ℕ → FileLaws
filter_laws unit = record {
  refusals = λ files. unit_refusals files unit;
  prints = λ files status text. PrintsFilters files unit text;
  may_end = λ status. status ≡ Done;
  reads = IsSome (name_of unit);
}

-- what is ready
abbrev pub filters_text : Filters → List ℕ
filters_text filters = text_of filters.programs

abbrev pub status_of : Filters → ExitStatus
status_of filters = Done
