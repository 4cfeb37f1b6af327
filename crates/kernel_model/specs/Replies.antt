-- The replies of rules that change at most one thing, stated for that thing alone.
use Rattle.std.specs.Prelude.{◌≡◌, ℕ, List, [], ◌∷◌, ◌++◌, Result, Ok, Err}
use Rattle.bpf_code.specs.declared.machine.Insn.{Insn}
use Rattle.kern_creds.specs.declared.creds.Creds.{Creds}
use Rattle.kern_mounts.specs.Mounts.{Mounts as Table}
use Rattle.kernel_model.specs.declared.reply.Reply.{Reply}
use Rattle.kernel_model.specs.declared.reply.Reply.TheVariants.{Done, Refused}
use Rattle.kernel_model.specs.Effects.{Effect, Refuse, Answer, SetCreds, SetTable, Push, Child, OwnTable, UserChild, OwnUser, End}

abbrev pub value_reply : Result ℕ ℕ → Reply
value_reply (Ok value) = Done value
value_reply (Err errno) = Refused errno

abbrev pub zero_reply : Result (Unit {0}) ℕ → Reply
zero_reply (Ok done) = Done 0
zero_reply (Err errno) = Refused errno

-- the reply of a call with this effect, which changes nothing
abbrev pub Answers : Reply → Effect → Type 0
Answers reply (Refuse errno) = reply ≡ Refused errno
Answers reply (Answer value) = reply ≡ Done value
Answers reply (SetCreds value creds) = ⊥
Answers reply (SetTable table) = ⊥
Answers reply (Push program) = ⊥
Answers reply (Child own) = ⊥
Answers reply OwnTable = ⊥
Answers reply (UserChild own) = ⊥
Answers reply (OwnUser own) = ⊥
Answers reply End = ⊥

-- the reply of a call with this effect, and the credentials after it
abbrev pub Changes : Creds → Reply → Creds → Effect → Type 0
Changes old reply new (Refuse errno) = (reply ≡ Refused errno) × (new ≡ old)
Changes old reply new (Answer value) = (reply ≡ Done value) × (new ≡ old)
Changes old reply new (SetCreds value creds) = (reply ≡ Done value) × (new ≡ creds)
Changes old reply new (SetTable table) = ⊥
Changes old reply new (Push program) = ⊥
Changes old reply new (Child own) = ⊥
Changes old reply new OwnTable = ⊥
Changes old reply new (UserChild own) = ⊥
Changes old reply new (OwnUser own) = ⊥
Changes old reply new End = ⊥

-- the same, for the table after the call
abbrev pub Mounts : Table → Reply → Table → Effect → Type 0
Mounts old reply new (Refuse errno) = (reply ≡ Refused errno) × (new ≡ old)
Mounts old reply new (SetTable table) = (reply ≡ Done 0) × (new ≡ table)
Mounts old reply new (Answer value) = ⊥
Mounts old reply new (SetCreds value creds) = ⊥
Mounts old reply new (Push program) = ⊥
Mounts old reply new (Child own) = ⊥
Mounts old reply new OwnTable = ⊥
Mounts old reply new (UserChild own) = ⊥
Mounts old reply new (OwnUser own) = ⊥
Mounts old reply new End = ⊥

-- the same, for the programs after the call
abbrev pub Pushes : List (List Insn) → Reply → List (List Insn) → Effect → Type 0
Pushes old reply new (Refuse errno) = (reply ≡ Refused errno) × (new ≡ old)
Pushes old reply new (Push program) = (reply ≡ Done 0) × (new ≡ old ++ program ∷ [])
Pushes old reply new (Answer value) = ⊥
Pushes old reply new (SetCreds value creds) = ⊥
Pushes old reply new (SetTable table) = ⊥
Pushes old reply new (Child own) = ⊥
Pushes old reply new OwnTable = ⊥
Pushes old reply new (UserChild own) = ⊥
Pushes old reply new (OwnUser own) = ⊥
Pushes old reply new End = ⊥
