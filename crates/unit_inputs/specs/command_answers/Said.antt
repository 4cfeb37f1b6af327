-- A step of preparing answers, by a relation, a value or the line of a refusal.
use Rattle.std.specs.Prelude.{ℕ, List, Result, Ok, Err}
use Rattle.unit_inputs.specs.declared.command_answers.error.CommandError.{CommandError}
use Rattle.unit_inputs.specs.declared.command_answers.error.CommandError.TheVariants as stop

-- the answer is a wanted value, as definitions see it, or the line of a wanted refusal, unless a read failed or memory ran
-- out
abbrev pub IsSaid : {T V : Type 0} → (T → V) → (Result V (List ℕ) → Type 0) → Result T CommandError → Type 0
IsSaid see IsWanted (Ok value) = IsWanted (Ok (see value))
IsSaid see IsWanted (Err (stop.Refused line)) = IsWanted (Err line.items)
IsSaid see IsWanted (Err stop.ReadFault) = Unit {0}
IsSaid see IsWanted (Err stop.Memory) = Unit {0}
