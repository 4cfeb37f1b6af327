-- The shelf and the sink around a run: how often each failed, what was taken, and which puts were made.
use Rattle.std.specs.Prelude.{ℕ, List, Option}
use Rattle.derive_command.specs.host_io.Puts.{Put}
use Rattle.derive_command.specs.unit_inputs.command_answers.Printing.{output_of}
use Rattle.derive_command.specs.unit_inputs.command_answers.Runs.{Outside}

abbrev pub around : {S K : Type 0} → (S → ℕ) → (K → ℕ) → (K → Option (List ℕ)) → (K → Put → K → Type 0) → S → S → K → K → Outside
around shelf_faults sink_faults taken puts shelf_before shelf_after sink_before sink_after = record {
  shelf_before = shelf_faults shelf_before;
  shelf_after = shelf_faults shelf_after;
  sink = output_of sink_faults taken puts sink_before sink_after;
}
