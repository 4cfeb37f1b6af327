-- The unit with a drop-in after its files. The drop-in is read from a file of its own.
use Rattle.std.specs.Prelude.{ℕ, List, Result, Ok, Err}
use Rattle.asked_service.specs.unit_inputs.command_answers.Refusals.{refused_line}
use Rattle.asked_service.specs.unit_inputs.command_answers.CommandErrors.{and_then, or_line}
use Rattle.asked_service.specs.dropin_merge.Changed.{extended}
use Rattle.asked_service.specs.dropin_merge.declared.resolved.Resolved.{Resolved}
use Rattle.asked_service.specs.host_io.Files.{Files}
use Rattle.asked_service.specs.unit_grammar.Reading.{unit_of}
use Rattle.asked_service.specs.unit_grammar.declared.unit.UnitText.{UnitText}
use Rattle.asked_service.specs.unit_inputs.FileRefusals.{bytes_in}
use Rattle.asked_service.specs.unit_inputs.Inputs.{Inputs}
use Rattle.asked_service.specs.unit_inputs.UnitRefusals.{text_cause}

-- what the bytes of a drop-in say, or the line of why they are refused, as a file of a unit is (systemd.syntax(7))
abbrev pub dropin_said : List ℕ → List ℕ → Result UnitText (List ℕ)
dropin_said path bytes = or_line (λ error. refused_line path (text_cause error)) (unit_of bytes)

-- over some files: the file is there, and is not too large
abbrev pub dropin_in : Files → List ℕ → Result UnitText (List ℕ)
dropin_in files path = and_then (bytes_in files path) (dropin_said path)

-- systemd.unit(5): the drop-in follows all files of the unit, so it is applied last
abbrev pub longer_unit : Resolved → UnitText → Resolved
longer_unit unit more = extended unit more

-- the inputs with that unit
abbrev pub with_dropin : Inputs → UnitText → Inputs
with_dropin inputs more = record { unit = longer_unit inputs.unit more; calls = inputs.calls; site = inputs.site }
