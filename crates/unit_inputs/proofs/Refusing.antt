-- The first of several refusals.
use Rattle.std.proofs.Common.{◌≡◌, ℕ, List, [], ◌∷◌, ◌++◌, Option, None, Some, Result, Ok, Err, refl, ap, ◌∙◌, arith}
use Rattle.std.specs.Prelude.{IsErrOf}
use Rattle.unit_inputs.specs.command_answers.CommandErrors.{HasReadCause, IsAnswer, Prepares, first_refusal, refusal_in}
use Rattle.unit_inputs.specs.declared.command_answers.error.CommandError.{CommandError}
use Rattle.unit_inputs.specs.declared.command_answers.error.CommandError.TheVariants.{Refused, ReadFault, Memory}

-- an answer that is not refused leaves the other refusals
pub passes : {V : Type 0} (wanted : Result V (List ℕ)) (value : V) (rest : List (Option (List ℕ))) → wanted ≡ Ok value
    → first_refusal (refusal_in wanted ∷ rest) ≡ first_refusal rest
passes wanted value rest is = ap (λ found. first_refusal (refusal_in found ∷ rest)) is

-- a refused answer stops the command
pub stops : {T U V : Type 0} (see : T → V) (P : U → Type 0) (wanted : Result V (List ℕ)) (stop : CommandError) (rest : List (Option (List ℕ)))
    → IsAnswer see (Err stop) wanted → Prepares P (refusal_in wanted ∷ rest) (Err stop)
stops see P wanted (Refused line) rest is = ap (λ found. first_refusal (refusal_in found ∷ rest)) is
stops see P wanted ReadFault rest is = tt
stops see P wanted Memory rest is = tt

-- an error among some refusals is also one among equal refusals, and among more
pub stops_as : {U : Type 0} (P : U → Type 0) (stop : CommandError) (some others : List (Option (List ℕ)))
    → first_refusal others ≡ first_refusal some → Prepares P some (Err stop) → Prepares P others (Err stop)
stops_as P (Refused line) some others same is = same ∙ is
stops_as P ReadFault some others same is = tt
stops_as P Memory some others same is = tt

-- refusals follow others
pub behind_none : (some others : List (Option (List ℕ))) → first_refusal some ≡ None → first_refusal (some ++ others) ≡ first_refusal others
behind_none [] others none = refl
behind_none (None ∷ some) others none = behind_none some others none
behind_none (Some line ∷ some) others none = cc

pub before_others : (some others : List (Option (List ℕ))) (line : List ℕ) → first_refusal some ≡ Some line
    → first_refusal (some ++ others) ≡ Some line
before_others [] others line is = cc
before_others (None ∷ some) others line is = before_others some others line is
before_others (Some first ∷ some) others line is = is

pub stops_before : {T U : Type 0} (P : T → Type 0) (Q : U → Type 0) (stop : CommandError) (some others : List (Option (List ℕ)))
    → Prepares P some (Err stop) → Prepares Q (some ++ others) (Err stop)
stops_before P Q (Refused line) some others is = before_others some others line.items is
stops_before P Q ReadFault some others is = tt
stops_before P Q Memory some others is = tt

-- a step that reads nothing has no fault
pub quiet : {T : Type 0} (before now : ℕ) (result : Result T CommandError) → now ≡ before → (IsErrOf result ReadFault → ⊥)
    → HasReadCause before now result
quiet before now (Ok value) same reads = record { later = omega (arith, same); failed = λ e. absurd (reads e); no_other_fault = same }
quiet before now (Err stop) same reads =
    record { later = omega (arith, same); failed = λ e. absurd (reads e); no_other_fault = λ other. same }
