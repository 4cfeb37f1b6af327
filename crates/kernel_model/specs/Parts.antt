-- The change of an effect to the calling process and its table, and the work that remains.
use Rattle.std.specs.Prelude.{◌≡◌, ℕ, [], ◌∷◌, ◌++◌, Bool}
use Rattle.kern_mounts.specs.Mounts.{Mounts as Table}
use Rattle.kernel_model.specs.declared.process.Process.{Process}
use Rattle.kernel_model.specs.declared.reply.Reply.TheVariants.{Done, Refused}
use Rattle.kernel_model.specs.declared.outcome.Outcome.{Outcome}
use Rattle.kernel_model.specs.declared.outcome.Outcome.TheVariants.{Replied, MakesChild, MakesTable, MakesUserChild, MakesOwnUser}
use Rattle.kernel_model.specs.Effects.{Effect, Refuse, Answer, SetCreds, SetTable, Push, Child, OwnTable, UserChild, OwnUser, End, Caller}
use Rattle.kernel_model.specs.World.{World, ended, is_newer}
use Rattle.kernel_model.specs.Step.{applied}

pub record Parts : Type 0 where
  pub process : Process
  pub table : Table

abbrev pub parts : Process → Table → Parts
parts process table = record { process = process; table = table }

abbrev pub caller_by : Process → Table → Bool → Caller
caller_by process table owns = record { creds = process.creds; stack = process.stack; table = table; newer = is_newer process; owns = owns }

-- the reply or the remaining work, and the changed parts
abbrev pub done_here : Parts → Effect → Outcome × Parts
done_here old (Refuse errno) = (Replied (Refused errno), old)
done_here old (Answer value) = (Replied (Done value), old)
done_here old (SetCreds value creds) = (Replied (Done value), parts (record old.process { creds = creds }) old.table)
done_here old (SetTable table) = (Replied (Done 0), parts old.process table)
done_here old (Push program) = (Replied (Done 0), parts (record old.process { stack = old.process.stack ++ program ∷ [] }) old.table)
done_here old (Child own) = (MakesChild own, old)
done_here old OwnTable = (MakesTable, old)
done_here old (UserChild own) = (MakesUserChild own, old)
done_here old (OwnUser own) = (MakesOwnUser own, old)
done_here old End = (Replied (Done 0), parts (ended old.process) old.table)

-- the outcome of an effect that leaves the caller and its table unchanged
abbrev pub Leaves : Outcome → Effect → Type 0
Leaves outcome effect = (old : Parts) → (outcome, old) ≡ done_here old effect

-- the world after this outcome: the effect is done and this is its reply, or the effect is the remaining work and the world is
-- unchanged
abbrev pub Left : World → ℕ → Process → Outcome → World → Effect → Type 0
Left world pid process (Replied reply) after effect = (reply, after) ≡ applied world pid process effect
Left world pid process (MakesChild own) after effect = (effect ≡ Child own) × (after ≡ world)
Left world pid process MakesTable after effect = (effect ≡ OwnTable) × (after ≡ world)
Left world pid process (MakesUserChild own) after effect = (effect ≡ UserChild own) × (after ≡ world)
Left world pid process (MakesOwnUser own) after effect = (effect ≡ OwnUser own) × (after ≡ world)

-- a fact that holds if a process or a namespace is still to be made
abbrev pub UnlessReplied : Outcome → Type 0 → Type 0
UnlessReplied (Replied reply) Fact = Unit {0}
UnlessReplied (MakesChild own) Fact = Fact
UnlessReplied MakesTable Fact = Fact
UnlessReplied (MakesUserChild own) Fact = Fact
UnlessReplied (MakesOwnUser own) Fact = Fact
