-- Texts that are printed as they stand, and what is done for words.
use Rattle.std.proofs.Common.{◌≡◌, ℕ, List, Ok, Option, subst, sym}
use Rattle.std.specs.Prelude.{IsTrue}
use Rattle.derive_command.specs.host_io.Calls.{ShelfCall}
use Rattle.derive_command.specs.host_io.Files.{Files}
use Rattle.score_command.specs.exposure_score.StoredTests.{StoredTests}
use Rattle.derive_command.specs.unit_inputs.command_answers.Asking.{course_of_run}
use Rattle.derive_command.specs.unit_inputs.command_answers.ExitStatuses.{is_answer, is_whole}
use Rattle.derive_command.specs.unit_inputs.command_answers.Laws.{fixed_laws}
use Rattle.derive_command.specs.unit_inputs.command_answers.Printing.{Finishes}
use Rattle.derive_command.specs.unit_inputs.command_answers.Runs.{IsRun, Outside}
use Rattle.derive_command.specs.unit_inputs.declared.command_answers.exit_status.ExitStatus.{ExitStatus}
use Rattle.derive_command.proofs.OfUnitInputs.FileCommands.{fixed_go_together}
use Rattle.derive_command.proofs.OfUnitInputs.Refusing.{quiet}
use Rattle.derive_command.proofs.OfUnitInputs.Runs.{ran}
use Rattle.tighten_command.specs.tightening.Wishes.{Wishes}
use Rattle.derive_command.specs.unit_inputs.Asking.{AsksInOrder}
use Rattle.top_call.specs.Asked.{Asked, asks_by, asks_of, laws_by, laws_of}
use Rattle.top_call.specs.Promise.{DoesWhatIsAsked}
use Rattle.top_call.specs.Requests.{Request, request_in}
use Rattle.top_call.specs.Texts.{status_of, text_of}
use Rattle.top_call.specs.declared.texts.Fixed.{Fixed}

pub ran_fixed : (fixed : Fixed) (only : ExitStatus) (line : List ℕ) (accepted : Type 0) (outside : Outside) (ended : ExitStatus)
    → IsTrue (is_whole only) → (accepted → IsTrue (is_answer only)) → fixed.status ≡ only → text_of fixed ≡ line
    → outside.shelf_after ≡ outside.shelf_before → Finishes {R = Fixed} status_of text_of (Ok fixed) ended outside.sink
    → IsRun (fixed_laws only line accepted) ended outside
ran_fixed fixed only line accepted outside ended whole answers ends is same finished =
    ran (fixed_laws only line accepted) (fixed_go_together only line accepted whole answers) outside status_of text_of (Ok fixed) ended
    (ends, is) (λ e. cc) (quiet outside.shelf_before outside.shelf_after (Ok fixed) same (λ e. cc)) finished

-- What was done for a request was done for the words that ask for it, with the tests and wishes that are lent.
module _ {S T W : Type 0} (asks : S → ShelfCall → S → Type 0) (agrees : Files → Type 0) (stored : List T → StoredTests) (wished : List W → Wishes) (outside : Outside) (before after : S) where
  pub does_for_words : (request : Option Request) (words : List (List ℕ)) (lent tests : List T) (lent_wishes wishes : List W)
      (ended status : ExitStatus)
      → request ≡ request_in words → lent ≡ tests → lent_wishes ≡ wishes → status ≡ ended
      → IsRun (laws_by request agrees (stored lent) (wished lent_wishes)) ended outside
      → AsksInOrder asks agrees (asks_by request (stored lent)) before after (course_of_run ended)
      → (((laws_by request agrees (stored lent) (wished lent_wishes)).reads → ⊥) → after ≡ before)
      → DoesWhatIsAsked asks (record { words = words; agrees = agrees; stored = stored tests; wishes = wished wishes }) outside before after
      status
  does_for_words request words lent tests lent_wishes wishes ended status is lends lends_wishes same run in_order quiet =
      let asked : Asked = record { words = words; agrees = agrees; stored = stored tests; wishes = wished wishes } in
      let ran : IsRun (laws_of asked) status outside =
      subst (λ status. IsRun (laws_of asked) status outside) (sym same)
      (subst (λ these. IsRun (laws_by (request_in words) agrees (stored tests) (wished these)) ended outside) lends_wishes
      (subst (λ these. IsRun (laws_by (request_in words) agrees (stored these) (wished lent_wishes)) ended outside) lends
      (subst (λ own. IsRun (laws_by own agrees (stored lent) (wished lent_wishes)) ended outside) is run))) in
      record {
        prints_the_whole_text = ran.prints_the_whole_text;
        prints_a_prefix = ran.prints_a_prefix;
        ends_by_the_inputs = ran.ends_by_the_inputs;
        faults_have_causes = ran.faults_have_causes;
        completes = ran.completes;
        reads_in_order =
            subst (λ status. AsksInOrder asks agrees (asks_of asked) before after (course_of_run status)) (sym same)
            (subst (λ these. AsksInOrder asks agrees (asks_by (request_in words) (stored these)) before after (course_of_run ended)) lends
            (subst (λ own. AsksInOrder asks agrees (asks_by own (stored lent)) before after (course_of_run ended)) is in_order));
        reads_only_for_a_command =
            subst (λ these. ((laws_by (request_in words) agrees (stored tests) (wished these)).reads → ⊥) → after ≡ before) lends_wishes
            (subst (λ these. ((laws_by (request_in words) agrees (stored these) (wished lent_wishes)).reads → ⊥) → after ≡ before) lends
            (subst (λ own. ((laws_by own agrees (stored lent) (wished lent_wishes)).reads → ⊥) → after ≡ before) is quiet));
      }
