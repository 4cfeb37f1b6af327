-- Some steps read nothing and follow a step that read for the unit.
use Rattle.std.proofs.Common.{◌≡◌, ◌∙◌, ℕ, List, Option, Some, None, Result, Ok, Err, refl, ap}
use Rattle.std.specs.Prelude.{IsErrOf, IsSome}
use Rattle.std.specs.Result.{IsErrAnd}
use Rattle.exec_settings.specs.host_io.Agreeing.{ForFiles}
use Rattle.exec_settings.specs.host_io.Files.{Files}
use Rattle.unit_inputs.specs.command_answers.CommandErrors.{HasReadCause}
use Rattle.unit_inputs.specs.declared.command_answers.error.CommandError.{CommandError}
use Rattle.unit_inputs.specs.declared.command_answers.error.CommandError.TheVariants.{ReadFault}
use Rattle.unit_inputs.proofs.FileCommands.{at_stop}
use Rattle.unit_inputs.proofs.Refusing.{quiet}
use Rattle.exec_settings.specs.unit_names.Cutting.{name_of}
use Rattle.unit_inputs.specs.ReadsFor.{ReadsFor}

module _ {S T : Type 0} (agrees : S → Files → Type 0) (faults : S → ℕ) (unit : List ℕ) (before now : S) (value : T) (reads : ReadsFor agrees faults unit before now (Ok value)) where
  -- the steps may answer anything
  pub read_then : {U : Type 0} (result : Result U CommandError) → (IsErrOf result ReadFault → ⊥) → ReadsFor agrees faults unit before now result
  read_then result nothing = record {
    reads_for_a_name = λ e. absurd (nothing e);
    unread_without_a_name = reads.unread_without_a_name;
    answers_stay = reads.answers_stay;
    fault_rose = quiet (faults before) (faults now) result reads.fault_rose.no_other_fault nothing;
  }

  -- the error of such a step is passed on
  pub read_then_stopped : {U V : Type 0} (result : Result V CommandError) (why : CommandError) → IsErrAnd result (λ error. error ≡ why)
      → (IsErrOf {T = U} (Err why) ReadFault → ⊥) → ReadsFor agrees faults unit before now result
  read_then_stopped result why is nothing = at_stop (ReadsFor agrees faults unit before now) result why is (read_then (Err why) (λ e. (let same : why ≡ ReadFault = cc in nothing (ap Err same))))

-- a found name exists
pub named : {X : Type 0} (found : Option X) (name : X) → found ≡ Some name → IsSome found
named None name is = cc
named (Some own) name is = refl

-- a step follows a file that was read for a unit with a name
module _ {S T U : Type 0} (agrees : S → Files → Type 0) (faults : S → ℕ) (unit : List ℕ) (before mid now : S) (value : T) (more : U) (reads : ReadsFor agrees faults unit before mid (Ok value)) (name : IsSome (name_of unit)) (stays : ForFiles (agrees now) (agrees mid)) (cause : HasReadCause (faults mid) (faults now) (Ok more)) where
  pub read_behind : {V : Type 0} (result : Result V CommandError) → (IsErrOf result ReadFault → ⊥) → ReadsFor agrees faults unit before now result
  read_behind result nothing = record {
    reads_for_a_name = λ e. absurd (nothing e);
    unread_without_a_name = λ none. absurd (none name);
    answers_stay = λ files agree. reads.answers_stay files (stays files agree);
    fault_rose = quiet (faults before) (faults now) result (cause.no_other_fault ∙ reads.fault_rose.no_other_fault) nothing;
  }
