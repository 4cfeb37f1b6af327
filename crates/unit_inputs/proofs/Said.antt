-- A step of preparing answers by a relation.
use Rattle.std.proofs.Common.{◌≡◌, ℕ, List, Result, Ok, Err, sym, subst}
use Rattle.std.specs.Prelude.{IfOk, Vec}
use Rattle.std.specs.declared.alloc.AllocError.{AllocError}
use Rattle.std.specs.declared.alloc.Global.{Global}
use Rattle.unit_inputs.specs.command_answers.CommandErrors.{error_of_line}
use Rattle.unit_inputs.specs.declared.command_answers.error.CommandError.{CommandError}
use Rattle.unit_inputs.specs.declared.command_answers.error.CommandError.TheVariants as stop
use Rattle.unit_inputs.specs.command_answers.Said.{IsSaid}

module _ {T V : Type 0} (see : T → V) (IsWanted : Result V (List ℕ) → Type 0) where
  -- the answer is the line of a wanted refusal, if there was memory for it
  said_line : (line : Result (Vec ℕ Global) AllocError) (text : List ℕ) → IfOk line (λ own. own.items ≡ text) → IsWanted (Err text)
      → IsSaid see IsWanted (Err (error_of_line line))
  said_line (Ok line) text is wanted = subst (λ own. IsWanted (Err own)) (sym is) wanted
  said_line (Err error) text is wanted = tt

  pub said_refused : (line : Result (Vec ℕ Global) AllocError) (text : List ℕ) (told : CommandError) → told ≡ error_of_line line
      → IfOk line (λ own. own.items ≡ text) → IsWanted (Err text) → IsSaid see IsWanted (Err told)
  said_refused line text told same is wanted = subst (λ own. IsSaid see IsWanted (Err own)) (sym same) (said_line line text is wanted)

  -- an answer that one relation wants is wanted by another
  pub said_as : (IsOther : Result V (List ℕ) → Type 0) → ((said : Result V (List ℕ)) → IsWanted said → IsOther said)
      → (result : Result T CommandError) → IsSaid see IsWanted result → IsSaid see IsOther result
  said_as IsOther as_other (Ok value) said = as_other (Ok (see value)) said
  said_as IsOther as_other (Err (stop.Refused line)) said = as_other (Err line.items) said
  said_as IsOther as_other (Err stop.ReadFault) said = tt
  said_as IsOther as_other (Err stop.Memory) said = tt
