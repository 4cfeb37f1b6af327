-- Commands that read files admit their texts, and their laws agree.
use Rattle.std.proofs.Common.{◌≡◌, ℕ, List, Some, None, Ok, Err, refl, sym, ◌∙◌, subst, inl, inr, Result}
use Rattle.std.specs.Prelude.{IsTrue}
use Rattle.std.specs.Result.{IsErrAnd}
use Rattle.exec_settings.specs.host_io.Agreeing.{ForFiles}
use Rattle.exec_settings.specs.host_io.Files.{Files}
use Rattle.unit_inputs.specs.command_answers.ExitStatuses.{is_answer, is_whole}
use Rattle.unit_inputs.specs.command_answers.Laws.{AcceptsFiles, Admits, FileLaws, GoTogether, IsAdmitted, LawsByFiles, MayEnd, fixed_laws}
use Rattle.unit_inputs.specs.command_answers.Laws.{laws_by_files, laws_over, over_files, prints, refuses}
use Rattle.unit_inputs.specs.command_answers.CommandErrors.{Prepares}
use Rattle.unit_inputs.specs.declared.command_answers.exit_status.ExitStatus.{ExitStatus}
use Rattle.unit_inputs.specs.declared.command_answers.exit_status.ExitStatus.TheVariants.{Done, AboveThreshold, NoCommand, Refused, ReadFault}
use Rattle.unit_inputs.specs.declared.command_answers.exit_status.ExitStatus.TheVariants.{WriteFault, OutOfMemory, LaunchRefused, Differs}
use Rattle.unit_inputs.specs.declared.command_answers.error.CommandError.{CommandError}
use Rattle.unit_inputs.specs.declared.command_answers.error.CommandError.TheVariants as stop

-- an answer is a whole text
pub answer_is_whole : (status : ExitStatus) → IsTrue (is_answer status) → IsTrue (is_whole status)
answer_is_whole Done answer = refl
answer_is_whole AboveThreshold answer = refl
answer_is_whole NoCommand answer = refl
answer_is_whole Refused answer = refl
answer_is_whole ReadFault answer = cc
answer_is_whole WriteFault answer = cc
answer_is_whole OutOfMemory answer = cc
answer_is_whole LaunchRefused answer = refl
answer_is_whole Differs answer = refl

refused_is_whole : (status : ExitStatus) → status ≡ Refused → IsTrue (is_whole status)
refused_is_whole status e = subst (λ k. IsTrue (is_whole k)) (sym e) refl

-- a property of an error holds of the result that passes it on
pub at_stop : {R : Type 0} (P : Result R CommandError → Type 0) (result : Result R CommandError) (stop : CommandError) → IsErrAnd result (λ error. error ≡ stop)
    → P (Err stop) → P result
at_stop P (Ok ready) stop is holds = absurd is
at_stop P (Err error) stop is holds = subst (λ one. P (Err one)) (sym is) holds

-- the laws over files agree if they agree for all files
pub over_go_together : (laws : LawsByFiles) (agrees : Files → Type 0)
    → ((status : ExitStatus) → laws.may_be status → IsTrue (is_whole status))
    → ((files : Files) (status : ExitStatus) (text : List ℕ) → laws.admits files status text → laws.may_end files status)
    → ((files : Files) → laws.accepts files → (status : ExitStatus) → laws.may_end files status → IsTrue (is_answer status))
    → GoTogether (over_files agrees laws)
over_go_together laws agrees whole ends answers = record {
  ends = λ status text admitted. record {
    whatever_the_files = admitted.whatever_the_files;
    by_the_files = λ files agree. ends files status text (admitted.by_the_files files agree);
  };
  whole = λ status may. whole status may.whatever_the_files;
  answers = λ accepts status may. answers accepts.files accepts.so status (may.by_the_files accepts.files accepts.agree);
}

module _ (laws : FileLaws) where
  module _ {R : Type 0} (behind : R → ExitStatus) (text : R → List ℕ) where
    -- an error is admitted by its line
    pub stop_is_admitted : {T : Type 0} (P : T → Type 0) (agrees : Files → Type 0) (stop : CommandError)
        → ForFiles agrees (λ files. Prepares P (laws.refusals files) (Err stop)) → IsAdmitted (laws_over agrees laws) behind text (Err stop)
    stop_is_admitted P agrees (stop.Refused line) said =
        record { whatever_the_files = inl refl; by_the_files = λ files agree. refuses line.items (said files agree) }
    stop_is_admitted P agrees stop.ReadFault said = tt
    stop_is_admitted P agrees stop.Memory said = tt

    -- a prepared text is admitted
    pub ready_is_admitted : (agrees : Files → Type 0) (ready : R) → laws.may_end (behind ready)
        → ForFiles agrees (λ files. AcceptsFiles laws files × laws.prints files (behind ready) (text ready))
        → IsAdmitted (laws_over agrees laws) behind text (Ok ready)
    ready_is_admitted agrees ready may said = record {
      whatever_the_files = inr may;
      by_the_files = λ files agree. prints (behind ready) (text ready) (said files agree).0 may (said files agree).1;
    }

  ends : (files : Files) (status : ExitStatus) (text : List ℕ) → Admits laws files status text → MayEnd laws files status
  ends files _ _ (refuses line is) = inl (refl, λ accepts. (let same : None ≡ Some line = sym accepts ∙ is in cc))
  ends files _ _ (prints status text accepts may printed) = inr (accepts, may)

  answered : (files : Files) (status : ExitStatus) → ((status : ExitStatus) → laws.may_end status → IsTrue (is_answer status))
      → AcceptsFiles laws files → MayEnd laws files status → IsTrue (is_answer status)
  answered files status answers accepts (inl refused) = absurd (refused.1 accepts)
  answered files status answers accepts (inr printed) = answers status printed.1

  -- the laws agree if each status after the text is an answer
  pub go_together : (agrees : Files → Type 0) → ((status : ExitStatus) → laws.may_end status → IsTrue (is_answer status))
      → GoTogether (laws_over agrees laws)
  go_together agrees answers = over_go_together (laws_by_files laws) agrees
      (λ status may. elim may [
        | inl refused ↦ refused_is_whole status refused
        | inr printed ↦ answer_is_whole status
            (answers status printed)
      ])
      (λ files status text admitted. ends files status text admitted)
      (λ files accepts status may. answered files status answers accepts may)

-- the laws of a command with one text agree
pub fixed_go_together : (only : ExitStatus) (line : List ℕ) (accepted : Type 0) → IsTrue (is_whole only)
    → (accepted → IsTrue (is_answer only)) → GoTogether (fixed_laws only line accepted)
fixed_go_together only line accepted is_so answers = record {
  ends = λ status text admitted. admitted.0;
  whole = λ status e. subst (λ k. IsTrue (is_whole k)) (sym e) is_so;
  answers = λ accepts status e. subst (λ k. IsTrue (is_answer k)) (sym e) (answers accepts);
}
