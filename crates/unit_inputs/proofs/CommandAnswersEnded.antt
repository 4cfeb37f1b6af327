-- The exit status of a run says how its reading ended.
use Rattle.std.proofs.Common.{◌≡◌, ℕ, List, Result, Ok, Err, refl, sym, ◌∙◌, ap, subst}
use Rattle.std.specs.Prelude.{IsTrue}
use Rattle.exec_settings.specs.host_io.Calls.{Course, Whole, Faulted, Cut}
use Rattle.exec_settings.specs.host_io.declared.writing.SinkError.{SinkError}
use Rattle.exec_settings.specs.host_io.declared.writing.SinkError.TheVariants as sink
use Rattle.unit_inputs.specs.command_answers.Asking.{course, course_of_run}
use Rattle.unit_inputs.specs.command_answers.ExitStatuses.{is_whole}
use Rattle.unit_inputs.specs.command_answers.Laws.{GoTogether, IsAdmitted, Laws}
use Rattle.unit_inputs.specs.command_answers.Printing.{Finishes, FinishesError, Output, PrintsText, status_of_put}
use Rattle.unit_inputs.specs.declared.command_answers.exit_status.ExitStatus.{ExitStatus}
use Rattle.unit_inputs.specs.declared.command_answers.exit_status.ExitStatus.TheVariants.{Done, AboveThreshold, NoCommand, Refused, ReadFault}
use Rattle.unit_inputs.specs.declared.command_answers.exit_status.ExitStatus.TheVariants.{WriteFault, OutOfMemory, LaunchRefused, Differs}
use Rattle.unit_inputs.specs.declared.command_answers.error.CommandError.{CommandError}
use Rattle.unit_inputs.specs.declared.command_answers.error.CommandError.TheVariants as stop

-- everything was read before a whole text
pub whole_read : (status : ExitStatus) → IsTrue (is_whole status) → course_of_run status ≡ Whole
whole_read Done whole = refl
whole_read AboveThreshold whole = refl
whole_read NoCommand whole = refl
whole_read Refused whole = refl
whole_read ReadFault whole = cc
whole_read WriteFault whole = refl
whole_read OutOfMemory whole = cc
whole_read LaunchRefused whole = refl
whole_read Differs whole = refl

-- a property of complete reading, and then of exhausted memory
module _ (C : Course → Type 0) (cut : C Whole → C Cut) where
  -- the property holds after the put of the text
  pub put_so : (status : ExitStatus) (put : Result (Unit {0}) SinkError) → IsTrue (is_whole status) → C Whole
      → C (course_of_run (status_of_put put status))
  put_so status (Ok u) whole held = subst C (sym (whole_read status whole)) held
  put_so status (Err sink.Failed) whole held = held
  put_so status (Err sink.Memory) whole held = cut held

  pub printed_so : (status : ExitStatus) (text : List ℕ) (ended : ExitStatus) (output : Output) → IsTrue (is_whole status)
      → PrintsText status text ended output → C Whole → C (course_of_run ended)
  printed_so status text ended output whole printed held = subst (λ e. C (course_of_run e)) (sym printed.ends)
      (put_so status printed.put whole held)

  -- the property holds after the error that stopped the command
  pub stopped_so : (T : Type 0) (why : CommandError) (ended : ExitStatus) (output : Output) → FinishesError why ended output
      → C (course {T = T} (Err why)) → C (course_of_run ended)
  stopped_so T (stop.Refused line) ended output finished held = printed_so Refused line.items ended output refl finished held
  stopped_so T stop.ReadFault ended output finished held = subst (λ e. C (course_of_run e)) (sym finished.0) held
  stopped_so T stop.Memory ended output finished held = subst (λ e. C (course_of_run e)) (sym finished.0) held

  -- the property holds after the preparation
  pub ended_so : (laws : Laws) (together : GoTogether laws) {R : Type 0} (behind : R → ExitStatus) (text : R → List ℕ)
      (prepared : Result R CommandError) (ended : ExitStatus) (output : Output)
      → IsAdmitted laws behind text prepared → Finishes behind text prepared ended output → C (course prepared) → C (course_of_run ended)
  ended_so laws together behind text (Ok ready) ended output admitted finished held =
      printed_so (behind ready) (text ready) ended output
      (together.whole (behind ready) (together.ends (behind ready) (text ready) admitted)) finished held
  ended_so laws together {R} behind text (Err why) ended output admitted finished held = stopped_so R why ended output finished held
