-- A command that stopped over files, and was finished, ran by its laws.
use Rattle.std.proofs.Common.{ℕ, [], Err, refl}
use Rattle.std.specs.Prelude.{IsErrOf}
use Rattle.exec_settings.specs.host_io.Agreeing.{ForFiles}
use Rattle.exec_settings.specs.host_io.Files.{Files}
use Rattle.unit_inputs.specs.command_answers.Laws.{FileLaws, GoTogether, laws_over}
use Rattle.unit_inputs.specs.command_answers.Printing.{FinishesError}
use Rattle.unit_inputs.specs.command_answers.Runs.{IsRun, Outside}
use Rattle.unit_inputs.specs.command_answers.CommandErrors.{HasReadCause, Prepares}
use Rattle.unit_inputs.specs.declared.command_answers.exit_status.ExitStatus.{ExitStatus}
use Rattle.unit_inputs.specs.declared.command_answers.error.CommandError.{CommandError}
use Rattle.unit_inputs.specs.declared.command_answers.error.CommandError.TheVariants as stop
use Rattle.unit_inputs.proofs.FileCommands.{stop_is_admitted}
use Rattle.unit_inputs.proofs.Refusing.{quiet}
use Rattle.unit_inputs.proofs.Runs.{ran}

-- the cause of an error is the same for every wanted value
cause_of : {T U : Type 0} (before now : ℕ) (why : CommandError) → HasReadCause {T = T} before now (Err why)
    → HasReadCause {T = U} before now (Err why)
cause_of before now (stop.Refused line) cause = quiet before now (Err (stop.Refused line)) (cause.no_other_fault (λ e. cc)) (λ e. cc)
cause_of before now stop.ReadFault cause =
    record { later = cause.later; failed = λ e. cause.failed refl; no_other_fault = λ other. absurd (other refl) }
cause_of before now stop.Memory cause = quiet before now (Err stop.Memory) (cause.no_other_fault (λ e. cc)) (λ e. cc)

reads_of : {T U : Type 0} (reads : Type 0) (why : CommandError) → (IsErrOf {T = T} (Err why) stop.ReadFault → reads)
    → IsErrOf {T = U} (Err why) stop.ReadFault → reads
reads_of reads (stop.Refused line) by e = cc
reads_of reads stop.ReadFault by e = by refl
reads_of reads stop.Memory by e = cc

module _ (laws : FileLaws) {T : Type 0} (P : Files → T → Type 0) where
  as_any : (files : Files) (why : CommandError) → Prepares (P files) (laws.refusals files) (Err why)
      → Prepares (λ (one : T). Unit {0}) (laws.refusals files) (Err why)
  as_any files (stop.Refused line) said = said
  as_any files stop.ReadFault said = tt
  as_any files stop.Memory said = tt

  pub ran_stopped : (agrees : Files → Type 0) (together : GoTogether (laws_over agrees laws)) (outside : Outside) (ended : ExitStatus) (why : CommandError)
      → ForFiles agrees (λ files. Prepares (P files) (laws.refusals files) (Err why)) → (IsErrOf {T = T} (Err why) stop.ReadFault → laws.reads)
      → HasReadCause {T = T} outside.shelf_before outside.shelf_after (Err why) → FinishesError why ended outside.sink
      → IsRun (laws_over agrees laws) ended outside
  ran_stopped agrees together outside ended why is reads cause finished =
      ran (laws_over agrees laws) together outside {R = ExitStatus} (λ status. status) (λ status. []) (Err why) ended
      (stop_is_admitted laws (λ (status : ExitStatus). status) (λ status. []) (λ (one : T). Unit {0}) agrees why (λ files agree. as_any files why (is files agree)))
      (reads_of laws.reads why reads) (cause_of outside.shelf_before outside.shelf_after why cause) finished
