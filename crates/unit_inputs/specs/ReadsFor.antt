-- The files of a unit are read in this way, whatever is taken from them.
use Rattle.std.specs.Prelude.{◌≡◌, ℕ, IsErrOf, IsSome, List, Result}
use Rattle.exec_settings.specs.host_io.Agreeing.{ForFiles}
use Rattle.exec_settings.specs.host_io.Files.{Files}
use Rattle.unit_inputs.specs.command_answers.CommandErrors.{HasReadCause}
use Rattle.unit_inputs.specs.declared.command_answers.error.CommandError.{CommandError}
use Rattle.unit_inputs.specs.declared.command_answers.error.CommandError.TheVariants.{ReadFault}
use Rattle.exec_settings.specs.unit_names.Cutting.{name_of}

-- a read fails only for the name of a service, and another text leaves the shelf unread. Files that agree now agreed before. A fault
-- means that the shelf's count of faults rose
pub record ReadsFor {S T : Type 0} (agrees : S → Files → Type 0) (faults : S → ℕ) (unit : List ℕ) (before now : S) (result : Result T CommandError) : Type 0 where
  pub reads_for_a_name : IsErrOf result ReadFault → IsSome (name_of unit)
  pub unread_without_a_name : (IsSome (name_of unit) → ⊥) → now ≡ before
  pub answers_stay : ForFiles (agrees now) (agrees before)
  pub fault_rose : HasReadCause (faults before) (faults now) result
