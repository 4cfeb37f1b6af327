-- However a run ends, its faults have their causes.
use Rattle.std.proofs.Common.{◌≡◌, ℕ, ◌<◌, ◌≤◌, List, Option, inl, inr, ap, sym, ◌∙◌, arith}
use Rattle.std.specs.declared.process.ExitCode.{ExitCode}
use Rattle.top_call.specs.host_io.Calls.{ShelfCall}
use Rattle.top_call.specs.host_io.Puts.{Put}
use Rattle.top_call.specs.unit_inputs.command_answers.Runs.{HasFaultCause}
use Rattle.top_call.specs.unit_inputs.declared.command_answers.exit_status.ExitStatus.{ExitStatus}
use Rattle.top_call.specs.unit_inputs.declared.command_answers.exit_status.ExitStatus.TheVariants.{OutOfMemory, ReadFault, WriteFault}
use Rattle.top_call.specs.Around.{around}
use Rattle.top_call.specs.Asked.{Asked}
use Rattle.sandbox_cli.specs.Running.{EndsWords, ExitsBy}

no_read_fault : (status : ExitStatus) → status ≡ OutOfMemory → status ≡ ReadFault → ⊥
no_read_fault status is e = let clash : OutOfMemory ≡ ReadFault = sym is ∙ e in cc

no_write_fault : (status : ExitStatus) → status ≡ OutOfMemory → status ≡ WriteFault → ⊥
no_write_fault status is e = let clash : OutOfMemory ≡ WriteFault = sym is ∙ e in cc

stays_later : (before after : ℕ) → after ≡ before → before ≤ after
stays_later before after e = omega arith

never_grew : (before after : ℕ) → after ≡ before → before < after → ⊥
never_grew before after e lt = absurd (omega arith)

module _ {S K : Type 0} (asks : S → ShelfCall → S → Type 0) (asked : Asked) (shelf_faults : S → ℕ) (sink_faults : K → ℕ)
    (taken : K → Option (List ℕ)) (puts : K → Put → K → Type 0) (before after : S) (old new : K) where
  causes : (status : ExitStatus)
      → EndsWords asks asked (around shelf_faults sink_faults taken puts before after old new) before after old new status
      → HasFaultCause status (around shelf_faults sink_faults taken puts before after old new)
  causes status (inl ran) = ran.faults_have_causes
  causes status (inr (is, same, same')) = record {
    shelf_later = stays_later (shelf_faults before) (shelf_faults after) (ap shelf_faults same);
    sink_later = stays_later (sink_faults old) (sink_faults new) (ap sink_faults same');
    read_fault = λ e. absurd (no_read_fault status is e);
    nothing_written = λ e. absurd (no_read_fault status is e);
    write_fault = λ e. absurd (no_write_fault status is e);
    shelf_grew = λ lt. absurd (never_grew (shelf_faults before) (shelf_faults after) (ap shelf_faults same) lt);
    sink_grew = λ lt. absurd (never_grew (sink_faults old) (sink_faults new) (ap sink_faults same') lt);
  }

  pub exits_by_causes : (code : ExitCode)
      → ExitsBy (EndsWords asks asked (around shelf_faults sink_faults taken puts before after old new) before after old new) code
      → ExitsBy (λ status. HasFaultCause status (around shelf_faults sink_faults taken puts before after old new)) code
  exits_by_causes code exits = (exits.0, causes exits.0 exits.1, exits.2)
