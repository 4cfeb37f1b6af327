-- What `derive` refuses, in the order of refusals.
use Rattle.std.specs.Prelude.{ℕ, List, [], ◌∷◌, ◌++◌, codes, Option, Some, Result, Ok, Err, option_map}
use Rattle.std.specs.Fmt.{decimal}
use Rattle.asked_service.specs.host_io.Files.{Files}
use Rattle.asked_service.specs.kernel_model.declared.kernel_calls.call.Call.{Call}
use Rattle.asked_service.specs.unit_inputs.command_answers.Refusals.{refused_line}
use Rattle.asked_service.specs.Scripts.{script_in}
use Rattle.asked_service.specs.launching.Starting.{start_refusals}
use Rattle.derive_command.specs.trace_profile.Extended.{open_unit}
use Rattle.derive_command.specs.trace_profile.Scripts.{first_seccomp}
use Rattle.asked_service.specs.unit_inputs.Inputs.{Inputs, input_refusals, inputs_of}
use Rattle.asked_service.specs.unit_inputs.Settled.{refusals_by}

-- the first call, from 1, that asks to push a program, seccomp(2)
abbrev pub seccomp_cause : ℕ → List ℕ
seccomp_cause number = codes "call " ++ (decimal number ++ codes " seccomp")

abbrev pub seccomp_line : List ℕ → ℕ → List ℕ
seccomp_line path number = refused_line path (seccomp_cause number)

-- the inputs with the unit that allows every call
abbrev pub opened : Inputs → Inputs
opened inputs = record { unit = open_unit inputs.unit inputs.calls; calls = inputs.calls; site = inputs.site }

-- refusals after the script was read: a call of seccomp, then the settings and the paths of the unit that allows every call
abbrev pub refusals_behind_script : List ℕ → List ℕ → Inputs → List Call → List (Option (List ℕ))
refusals_behind_script unit path inputs script =
    option_map (seccomp_line path) (first_seccomp inputs.calls script) ∷ start_refusals unit (opened inputs)

-- the refusal of the script, or the refusals after it
abbrev pub refusals_by_script : List ℕ → List ℕ → Inputs → Result (List Call) (List ℕ) → List (Option (List ℕ))
refusals_by_script unit path inputs (Ok script) = refusals_behind_script unit path inputs script
refusals_by_script unit path inputs (Err line) = Some line ∷ []

abbrev pub refusals_behind : Files → List ℕ → List ℕ → Inputs → List (Option (List ℕ))
refusals_behind files unit path inputs = refusals_by_script unit path inputs (script_in files path inputs.calls)

-- the order of refusals: the inputs, and the refusals after them
abbrev pub derive_refusals : Files → List ℕ → List ℕ → List (Option (List ℕ))
derive_refusals files unit path = input_refusals files unit ++ refusals_by (refusals_behind files unit path) (inputs_of files unit)
