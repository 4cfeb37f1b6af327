-- From what a rule says of one thing to what it makes of the caller and its table.
use Rattle.std.proofs.Common.{◌≡◌, ℕ, List, Result, Ok, Err, refl}
use Rattle.bpf_code.specs.declared.machine.Insn.{Insn}
use Rattle.kern_creds.specs.declared.creds.Creds.{Creds}
use Rattle.kern_creds.specs.Answer.{Becomes}
use Rattle.kern_mounts.specs.Mounts.{Mounts as Table}
use Rattle.kernel_model.specs.declared.process.Process.{Process}
use Rattle.kernel_model.specs.declared.reply.Reply.{Reply}
use Rattle.kernel_model.specs.declared.outcome.Outcome.{Outcome}
use Rattle.kernel_model.specs.declared.outcome.Outcome.TheVariants.{Replied}
use Rattle.kernel_model.specs.Effects as f
use Rattle.kernel_model.specs.Effects.{Effect, looks, creds_effect}
use Rattle.kernel_model.specs.Parts.{Parts, parts, done_here}
use Rattle.kernel_model.specs.Replies.{value_reply, zero_reply, Answers, Changes, Mounts, Pushes}

pub looked : (old : Parts) (reply : Reply) (answer : Result ℕ ℕ) → reply ≡ value_reply answer
    → (Replied reply, old) ≡ done_here old (looks answer)
looked old reply (Ok value) e = rw e refl
looked old reply (Err errno) e = rw e refl

pub answered : (old : Parts) (reply : Reply) (effect : Effect) → Answers reply effect → (Replied reply, old) ≡ done_here old effect
answered old reply (f.Refuse errno) e = rw e refl
answered old reply (f.Answer value) e = rw e refl
answered old reply (f.SetCreds value creds) e = absurd e
answered old reply (f.SetTable table) e = absurd e
answered old reply (f.Push program) e = absurd e
answered old reply (f.Child own) e = absurd e
answered old reply f.OwnTable e = absurd e
answered old reply (f.UserChild own) e = absurd e
answered old reply (f.OwnUser own) e = absurd e
answered old reply f.End e = absurd e

pub changed : (process : Process) (table : Table) (reply : Reply) (new : Creds) (effect : Effect) → Changes process.creds reply new effect
    → (Replied reply, parts (record process { creds = new }) table) ≡ done_here (parts process table) effect
changed process table reply new (f.Refuse errno) e = rw (e.0, e.1) refl
changed process table reply new (f.Answer value) e = rw (e.0, e.1) refl
changed process table reply new (f.SetCreds value creds) e = rw (e.0, e.1) refl
changed process table reply new (f.SetTable after) e = absurd e
changed process table reply new (f.Push program) e = absurd e
changed process table reply new (f.Child own) e = absurd e
changed process table reply new f.OwnTable e = absurd e
changed process table reply new (f.UserChild own) e = absurd e
changed process table reply new (f.OwnUser own) e = absurd e
changed process table reply new f.End e = absurd e

pub became : (process : Process) (table : Table) (outcome : Outcome) (result : Result (Unit {0}) ℕ) (new : Creds) (answer : Result Creds ℕ)
    → outcome ≡ Replied (zero_reply result) → Becomes process.creds new result answer
    → (outcome, parts (record process { creds = new }) table) ≡ done_here (parts process table) (creds_effect answer)
became process table outcome (Ok u) new answer e h = rw (e, h) refl
became process table outcome (Err errno) new answer e h = rw (e, h.0, h.1) refl

pub mounted : (process : Process) (table : Table) (reply : Reply) (new : Table) (effect : Effect) → Mounts table reply new effect
    → (Replied reply, parts process new) ≡ done_here (parts process table) effect
mounted process table reply new (f.Refuse errno) e = rw (e.0, e.1) refl
mounted process table reply new (f.SetTable after) e = rw (e.0, e.1) refl
mounted process table reply new (f.Answer value) e = absurd e
mounted process table reply new (f.SetCreds value creds) e = absurd e
mounted process table reply new (f.Push program) e = absurd e
mounted process table reply new (f.Child own) e = absurd e
mounted process table reply new f.OwnTable e = absurd e
mounted process table reply new (f.UserChild own) e = absurd e
mounted process table reply new (f.OwnUser own) e = absurd e
mounted process table reply new f.End e = absurd e

pub pushed : (process : Process) (table : Table) (reply : Reply) (new : List (List Insn)) (effect : Effect)
    → Pushes process.stack reply new effect
    → (Replied reply, parts (record process { stack = new }) table) ≡ done_here (parts process table) effect
pushed process table reply new (f.Refuse errno) e = rw (e.0, e.1) refl
pushed process table reply new (f.Push program) e = rw (e.0, e.1) refl
pushed process table reply new (f.Answer value) e = absurd e
pushed process table reply new (f.SetCreds value creds) e = absurd e
pushed process table reply new (f.SetTable after) e = absurd e
pushed process table reply new (f.Child own) e = absurd e
pushed process table reply new f.OwnTable e = absurd e
pushed process table reply new (f.UserChild own) e = absurd e
pushed process table reply new (f.OwnUser own) e = absurd e
pushed process table reply new f.End e = absurd e
