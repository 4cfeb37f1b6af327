-- Ids that a service can get without using a capability, credentials(7).
use Rattle.std.specs.Prelude.{ℕ, Bool, List, Contains}
use Rattle.kernel_ways.specs.kernel_model.declared.kernel_calls.call.Call.{Call}
use Rattle.kernel_ways.specs.kernel_model.kernel_calls.Calls.{AreCalls}
use Rattle.kernel_ways.specs.kernel_model.Runs.{run}
use Rattle.kernel_ways.specs.kernel_model.World.{World}
use Rattle.kernel_ways.specs.kernel_laws.Denied.{Holds, Shows}
use Rattle.kernel_ways.specs.kernel_laws.declared.question_types.question.Question.{Question}
use Rattle.kernel_ways.specs.kernel_laws.Spared.{AllSpare}

-- lists of calls that use CAP_SETUID and CAP_SETGID only where they may can get these ids and no others. Some such list shows
-- each of them, and none leads to another. The first argument says whether CAP_SETUID may be used, the second whether
-- CAP_SETGID may.
pub record AreHadSparing (uids gids : Bool) (world : World) (asks : ℕ → Question) (ids : List ℕ) : Type 0 where
  pub each : (id : ℕ) → Contains ids id → (list : List Call) × Shows world (asks id) list × AllSpare uids gids world list
  pub no_other : (id : ℕ) → ¬ Contains ids id → (list : List Call) → AreCalls list → AllSpare uids gids world list
      → ¬ Holds (asks id) (run world list)
