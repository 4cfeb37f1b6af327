-- Runs of neighbouring numbers, the highest first, and trees that find a number's run.
use Rattle.std.specs.Prelude.{◌≡◌, false, ℕ, ◌+◌, ◌^◌, ◌≤◌, ◌⊎◌, List, [], ◌∷◌, ◌++◌, length}
use Rattle.call_rules.specs.declared.actions.Action.{Action}
use Rattle.seccomp_compile.specs.declared.runs.Run.{Run}
use Rattle.seccomp_compile.specs.declared.tree.Comparison.TheVariants.{AtLeast, Equal}
use Rattle.seccomp_compile.specs.Decisions.{Decision, ends, splits, decision_of, is_split}

-- the decision of the numbers of a run
abbrev pub run_decision : Run → Decision
run_decision run = decision_of run.tree

-- where the runs begin; without a run, above all numbers
abbrev pub floor_of : ℕ → List Run → ℕ
floor_of to [] = to
floor_of to (run ∷ runs) = floor_of run.from runs

-- the lowest run and the one below it end at once with the same action
pub record EndAlike (runs : List Run) (run : Run) : Type 0 where
  pub others : List Run
  pub above : Run
  pub action : Action
  pub lowest : runs ≡ others ++ above ∷ []
  pub above_ends : run_decision above ≡ ends action
  pub run_ends : run_decision run ≡ ends action

-- the lowest run is one number, and no comparison itself; the run above it and the one below it end at once with the same
-- action
pub record Encloses (runs : List Run) (run : Run) : Type 0 where
  pub others : List Run
  pub above : Run
  pub middle : Run
  pub action : Action
  pub lowest : runs ≡ others ++ above ∷ middle ∷ []
  pub alone : above.from ≡ middle.from + 1
  pub plain : is_split (run_decision middle) ≡ false
  pub above_ends : run_decision above ≡ ends action
  pub run_ends : run_decision run ≡ ends action

-- one number from this one on is compared, and around it the decision ends with the action
abbrev pub GoesAround : ℕ → Action → Decision → Type 0
GoesAround from action decision =
    (number : ℕ) × (hit : Decision) × (from ≤ number) × (decision ≡ splits Equal number (ends action) hit)

-- the lowest run compares one number of its own, and ends at once around it, as the one below it does
pub record Extends (runs : List Run) (run : Run) : Type 0 where
  pub others : List Run
  pub lowest_run : Run
  pub number : ℕ
  pub action : Action
  pub hit : Decision
  pub lowest : runs ≡ others ++ lowest_run ∷ []
  pub own : lowest_run.from ≤ number
  pub around : run_decision lowest_run ≡ splits Equal number (ends action) hit
  pub run_ends : run_decision run ≡ ends action

-- A run is added below. If it ends as the lowest one does, or as that one does around a number, it replaces that one. If it encloses a
-- number with the two lowest ones, it replaces both.
pub data AddsRun : List Run → Run → List Run → Type 0 where
  below : (runs after : List Run) (run : Run) → after ≡ runs ++ run ∷ [] → AddsRun runs run after
  merged : (runs after : List Run) (run : Run) (alike : EndAlike runs run) → after ≡ alike.others ++ run ∷ [] → AddsRun runs run after
  enclosed : (runs after : List Run) (run joined : Run) (around : Encloses runs run) → joined.from ≡ run.from →
      run_decision joined ≡ splits Equal around.middle.from (ends around.action) (run_decision around.middle) →
      after ≡ around.others ++ joined ∷ [] → AddsRun runs run after
  extended : (runs after : List Run) (run joined : Run) (more : Extends runs run) → joined.from ≡ run.from →
      run_decision joined ≡ run_decision more.lowest_run → after ≡ more.others ++ joined ∷ [] → AddsRun runs run after

-- the numbers from this one on that are below the runs end with the rest
pub data Fills : List Run → ℕ → Action → List Run → Type 0 where
  filled : (runs after : List Run) (from : ℕ) (rest : Action) →
      ((2 ^ 32 ≤ from) ⊎ (floor_of (2 ^ 32) runs ≤ from)) → after ≡ runs → Fills runs from rest after
  fills : (runs after : List Run) (from : ℕ) (rest : Action) (gap : Run) →
      gap.from ≡ from → run_decision gap ≡ ends rest → AddsRun runs gap after → Fills runs from rest after

-- a number is added, and those between it and the runs
pub record AddsNumber (runs : List Run) (number : ℕ) (decision : Decision) (rest : Action) (after : List Run) : Type 0 where
  pub filled_runs : List Run
  pub run : Run
  pub fill : Fills runs (number + 1) rest filled_runs
  pub from : run.from ≡ number
  pub decides : run_decision run ≡ decision
  pub adds : AddsRun filled_runs run after

-- runs are joined to one by comparisons in halves
pub data Joins : List Run → Run → Type 0 where
  one : (run : Run) → Joins (run ∷ []) run
  two : (highs lows : List Run) (high low run : Run) → Joins highs high → Joins lows low →
      length lows ≤ length highs → length highs ≤ length lows + 1 → run.from ≡ low.from →
      run_decision run ≡ splits AtLeast high.from (run_decision low) (run_decision high) → Joins (highs ++ lows) run

-- the lowest runs, so many, are joined to one
pub record JoinsLowest (runs after : List Run) (count : ℕ) (run : Run) : Type 0 where
  pub taken : List Run
  pub split : runs ≡ after ++ taken
  pub counted : length taken ≡ count
  pub joined : Joins taken run

-- the numbers below the runs end with the rest, and all runs are joined to one
pub record Closes (runs : List Run) (rest : Action) (decision : Decision) : Type 0 where
  pub all : List Run
  pub run : Run
  pub fill : Fills runs 0 rest all
  pub joined : Joins all run
  pub decides : run_decision run ≡ decision
