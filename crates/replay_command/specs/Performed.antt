-- Which calls of a script were made, where its replay stopped.
use Rattle.std.specs.Prelude.{◌≡◌, ◌⊎◌, ◌≤◌, ℕ, List, ◌++◌, length, Option, Result, Ok, Err}
use Rattle.asked_service.specs.call_table.Table.{Table}
use Rattle.asked_service.specs.host_io.Writing.{Grew}
use Rattle.asked_service.specs.host_io.declared.writing.SinkError.{SinkError}
use Rattle.asked_service.specs.kernel_model.declared.kernel_calls.call.Call.{Call}
use Rattle.asked_service.specs.kernel_model.Runs.{run}
use Rattle.asked_service.specs.kernel_model.Step.{step}
use Rattle.asked_service.specs.kernel_model.World.{World}
use Rattle.replay_command.specs.Lines.{run_text}

-- the calls that were made are a front of the script: those whose lines the sink has taken whole, and at most one more, of
-- whose line it has taken a front
pub record IsCut (table : Table) (world : World) (script : List Call) (before after : Option (List ℕ)) (left : World) : Type 0 where
  pub told : List Call
  pub more : List Call
  pub rest : List Call
  pub in_order : told ++ (more ++ rest) ≡ script
  pub at_most_one_more : length more ≤ 1
  pub leaves : left ≡ run world (told ++ more)
  pub front : List ℕ
  pub behind : List ℕ
  pub of_its_line : front ++ behind ≡ run_text table (run world told) more
  pub taken : Grew before after (run_text table world told ++ front)

-- a script was replayed whole, and its run's world is left; or only so many of its calls were made
abbrev pub Performs : Table → World → List Call → Option (List ℕ) → Option (List ℕ) → Result (Unit {0}) SinkError → World → Type 0
Performs table world script before after (Ok u) left = left ≡ run world script
Performs table world script before after (Err error) left = IsCut table world script before after left

-- a call was made; where its line was not taken whole it was made, or not and nothing was taken
abbrev pub Makes : World → Call → Option (List ℕ) → Option (List ℕ) → Result (Unit {0}) SinkError → World → Type 0
Makes world call before after (Ok u) left = left ≡ (step world call).1
Makes world call before after (Err error) left = (left ≡ (step world call).1) ⊎ ((left ≡ world) × (after ≡ before))
