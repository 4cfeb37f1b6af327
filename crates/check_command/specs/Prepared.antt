-- What a comparison is made from, or what is refused before it.
use Rattle.std.specs.Prelude.{◌≡◌, ℕ, List, Some, None, Result, Ok, Err}
use Rattle.unit_inputs.specs.host_io.Files.{Files}
use Rattle.filter_check.specs.bpf_code.declared.machine.Insn.{Insn}
use Rattle.unit_inputs.specs.command_answers.CommandErrors.{first_refusal}
use Rattle.unit_inputs.specs.declared.command_answers.error.CommandError.{CommandError}
use Rattle.unit_inputs.specs.declared.command_answers.error.CommandError.TheVariants as stop
use Rattle.unit_inputs.specs.Inputs.{Inputs, input_refusals, inputs_of, inputs_view}
use Rattle.unit_inputs.specs.Settled.{refusals_of}
use Rattle.check_command.specs.Programs.{IsProgramIn}
use Rattle.check_command.specs.declared.preparing.Prepared.{Prepared}

-- the inputs of the unit are these, the file is this program, and no setting is refused
pub record AreReady (files : Files) (unit path : List ℕ) (inputs : Inputs) (code : List Insn) : Type 0 where
  pub inputs_are : inputs_of files unit ≡ Some inputs
  pub program_is : IsProgramIn files path (Ok code)
  pub settings_stand : first_refusal (refusals_of unit inputs) ≡ None

-- What is refused before anything is compared, the first that is: an input of the unit, then the file, then a setting.
pub data RefusesBefore (files : Files) (unit path : List ℕ) : List ℕ → Type 0 where
  an_input : (line : List ℕ) → first_refusal (input_refusals files unit) ≡ Some line → RefusesBefore files unit path line
  the_file : (line : List ℕ) (inputs : Inputs) → inputs_of files unit ≡ Some inputs → IsProgramIn files path (Err line)
      → RefusesBefore files unit path line
  a_setting : (line : List ℕ) (inputs : Inputs) (code : List Insn) → inputs_of files unit ≡ Some inputs → IsProgramIn files path (Ok code)
      → first_refusal (refusals_of unit inputs) ≡ Some line → RefusesBefore files unit path line

abbrev pub inputs_in : Prepared → Inputs
inputs_in prepared = inputs_view prepared.unit.inputs

-- the inputs and the program are ready, or the line is the line of the first refusal, unless a read failed or memory ran out
abbrev pub IsPrepared : Files → List ℕ → List ℕ → Result Prepared CommandError → Type 0
IsPrepared files unit path (Ok prepared) = AreReady files unit path (inputs_in prepared) prepared.program
IsPrepared files unit path (Err (stop.Refused line)) = RefusesBefore files unit path line.items
IsPrepared files unit path (Err stop.ReadFault) = Unit {0}
IsPrepared files unit path (Err stop.Memory) = Unit {0}
