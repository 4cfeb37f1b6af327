-- Runs: lists of calls, which any processes make from a world on.
use Rattle.std.specs.Prelude.{List, [], ◌∷◌}
use Rattle.std.specs.List.{AllByRecursion}
use Rattle.kernel_model.specs.declared.kernel_calls.call.Call.{Call}
use Rattle.kernel_model.specs.declared.reply.Reply.{Reply}
use Rattle.kernel_model.specs.declared.reply.Reply.TheVariants.{Done, Refused, Killed}
use Rattle.kernel_model.specs.World.{World}
use Rattle.kernel_model.specs.Step.{step}

-- a call of a run, with its reply, the world before it and the world after it
pub record Moment : Type 0 where
  pub before : World
  pub call : Call
  pub reply : Reply
  pub after : World

abbrev pub moment_at : World → Call → Moment
moment_at world call = record { before = world; call = call; reply = (step world call).0; after = (step world call).1 }

-- the moments of a run: each call is made in the world after the calls before it
abbrev pub moments : World → List Call → List Moment
moments world [] = []
moments world (call ∷ calls) = moment_at world call ∷ moments (step world call).1 calls

-- the world after a run
abbrev pub run : World → List Call → World
run world [] = world
run world (call ∷ calls) = run (step world call).1 calls

-- the replies of a run
abbrev pub replies : World → List Call → List Reply
replies world [] = []
replies world (call ∷ calls) = (step world call).0 ∷ replies (step world call).1 calls

abbrev pub IsDone : Reply → Type 0
IsDone (Done value) = Unit {0}
IsDone (Refused errno) = ⊥
IsDone Killed = ⊥

-- every call of the run succeeds
abbrev pub AllDone : List Moment → Type 0
AllDone ms = AllByRecursion (λ moment. IsDone moment.reply) ms
