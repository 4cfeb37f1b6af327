-- A step of preparing answers a value, the line of a refusal, a fault, or that memory ran out.
use Rattle.std.specs.Prelude.{◌≡◌, ℕ, ◌≤◌, List, [], ◌∷◌, Option, Some, None, Result, Ok, Err, IsErrOf, Vec}
use Rattle.std.specs.declared.alloc.AllocError.{AllocError}
use Rattle.std.specs.declared.alloc.Global.{Global}
use Rattle.exec_settings.specs.host_io.Causes.{Rose, StaysUnless}
use Rattle.unit_inputs.specs.declared.command_answers.error.CommandError.{CommandError}
use Rattle.unit_inputs.specs.declared.command_answers.error.CommandError.TheVariants.{Refused, ReadFault, Memory}

-- the count does not fall; it rises with a fault, and with nothing else
pub record HasReadCause {T : Type 0} (before now : ℕ) (result : Result T CommandError) : Type 0 where
  pub later : before ≤ now
  pub failed : IsErrOf result ReadFault → Rose before now
  pub no_other_fault : StaysUnless ReadFault before now result

-- the answer is a value, a fault, or that memory ran out
abbrev pub RefusesNothing : {T : Type 0} → Result T CommandError → Type 0
RefusesNothing (Ok value) = Unit {0}
RefusesNothing (Err (Refused line)) = ⊥
RefusesNothing (Err ReadFault) = Unit {0}
RefusesNothing (Err Memory) = Unit {0}

-- the error with this line, if there was memory for the line
abbrev pub error_of_line : Result (Vec ℕ Global) AllocError → CommandError
error_of_line (Ok line) = Refused line
error_of_line (Err error) = Memory

-- the answer is this value, as definitions see it, or the line of this refusal, unless a read failed or memory ran out
abbrev pub IsAnswer : {T V : Type 0} → (T → V) → Result T CommandError → Result V (List ℕ) → Type 0
IsAnswer see (Ok value) wanted = wanted ≡ Ok (see value)
IsAnswer see (Err (Refused line)) wanted = wanted ≡ Err line.items
IsAnswer see (Err ReadFault) wanted = Unit {0}
IsAnswer see (Err Memory) wanted = Unit {0}

-- a second reading follows the first, if the first is not refused
abbrev pub and_then : {A B : Type 0} → Result A (List ℕ) → (A → Result B (List ℕ)) → Result B (List ℕ)
and_then (Ok value) next = next value
and_then (Err line) next = Err line

-- the refusal as its line
abbrev pub or_line : {A E : Type 0} → (E → List ℕ) → Result A E → Result A (List ℕ)
or_line line (Ok value) = Ok value
or_line line (Err refusal) = Err (line refusal)

-- the line of a refusal
abbrev pub refusal_in : {A : Type 0} → Result A (List ℕ) → Option (List ℕ)
refusal_in (Ok value) = None
refusal_in (Err line) = Some line

-- the first refusal in the list
abbrev pub first_refusal : List (Option (List ℕ)) → Option (List ℕ)
first_refusal [] = None
first_refusal (None ∷ refusals) = first_refusal refusals
first_refusal (Some line ∷ refusals) = Some line

-- the answer is a value with this property if nothing is refused, and otherwise the line of the first refusal, unless a read
-- failed or memory ran out
abbrev pub Prepares : {T : Type 0} → (T → Type 0) → List (Option (List ℕ)) → Result T CommandError → Type 0
Prepares P refusals (Ok value) = (first_refusal refusals ≡ None) × P value
Prepares P refusals (Err (Refused line)) = first_refusal refusals ≡ Some line.items
Prepares P refusals (Err ReadFault) = Unit {0}
Prepares P refusals (Err Memory) = Unit {0}
