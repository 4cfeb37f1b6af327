-- Worlds that differ in the programs of the launch alone.
use Rattle.std.specs.Prelude.{◌≡◌, ℕ, ◌+◌, ◌<◌, ◌≤◌, ◌^◌, ◌⊎◌, ◌||◌, true, List, [], ◌∷◌, ◌++◌, map, length, Some}
use Rattle.kernel_laws.specs.bpf_code.declared.machine.Insn.{Insn}
use Rattle.kernel_laws.specs.bpf_code.declared.machine.CallData.{CallData}
use Rattle.kernel_laws.specs.bpf_code.declared.decision.Decision.TheVariants as decision
use Rattle.kernel_laws.specs.bpf_code.Meaning.{IsCallData}
use Rattle.kernel_laws.specs.bpf_code.ProgramOf.{program_of}
use Rattle.kernel_laws.specs.bpf_code.Stack.{answer_of, room_of}
use Rattle.kernel_laws.specs.call_table.Table.{Table, arch_of}
use Rattle.exec_settings.specs.cap_sets.Sets.{has}
use Rattle.kernel_laws.specs.linux_numbers.Capabilities.{cap_sys_admin}
use Rattle.kernel_laws.specs.linux_numbers.Errnos.{enomem}
use Rattle.kernel_laws.specs.linux_numbers.Limits.{max_insns_per_path}
use Rattle.kernel_laws.specs.kernel_model.declared.kernel_calls.call.Call.{Call}
use Rattle.kernel_laws.specs.kernel_model.kernel_calls.Calls.{AreCalls}
use Rattle.kernel_laws.specs.kernel_model.kernel_calls.Operation.{Does, Seccomp, asked_of}
use Rattle.kernel_laws.specs.kernel_model.World.{World, living_of}
use Rattle.kernel_laws.specs.kernel_model.declared.process.Process.{Process}
use Rattle.kernel_laws.specs.kernel_model.declared.reply.Reply.{Reply}
use Rattle.kernel_laws.specs.kernel_model.declared.reply.Reply.TheVariants.{Done, Refused}
use Rattle.kernel_laws.specs.kernel_model.Step.{step, decision_of}

-- the architecture of each ABI is a word of 32 bits
abbrev pub HasWordArchs : Table → Type 0
HasWordArchs table = (abi : ℕ) → arch_of table abi < 2 ^ 32

-- the lists have equally many programs, and each program answers like its counterpart
abbrev pub AnswerAlike : List (List Insn) → List (List Insn) → Type 0
AnswerAlike [] [] = Unit {0}
AnswerAlike (code ∷ one) (own ∷ other) = ((input : CallData) → IsCallData input → answer_of code input ≡ answer_of own input) ×
    AnswerAlike one other
AnswerAlike one other = ⊥

-- a process with these programs below its own
abbrev pub over : List (List Insn) → Process → Process
over programs process = record process { stack = programs ++ process.stack }

-- each process of the world has these programs below its own
abbrev pub above : List (List Insn) → World → World
above programs world = record world { processes = map (over programs) world.processes }

-- seccomp(2), ENOMEM: a call of it answers that there is no room in the one world alone
pub record IsFullInOne (one other : World) (call : Call) : Type 0 where
  pub op : ℕ
  pub flags : ℕ
  pub bytes : List ℕ
  pub asks : asked_of one.calls call ≡ Does (Seccomp op flags bytes)
  pub replies : (((step one call).0 ≡ Refused enomem) × ((step other call).0 ≡ Done 0)) ⊎
      (((step one call).0 ≡ Done 0) × ((step other call).0 ≡ Refused enomem))

-- the replies are the same, up to such a call
abbrev pub SameReplies : World → World → List Call → Type 0
SameReplies one other [] = Unit {0}
SameReplies one other (call ∷ calls) =
    (((step one call).0 ≡ (step other call).0) × SameReplies (step one call).1 (step other call).1 calls) ⊎ IsFullInOne one other call

abbrev pub AlikeReplies : Type 0
AlikeReplies = (one other : List (List Insn)) (world : World) (calls : List Call) → AnswerAlike one other → HasWordArchs world.calls
    → AreCalls calls → SameReplies (above one world) (above other world) calls

-- a living process asks to push a program on top of its own programs and the launch's, and may do so
pub record Pushes (programs : List (List Insn)) (world : World) (call : Call) (process : Process) (code : List Insn) : Type 0 where
  pub lives : living_of world call.pid ≡ Some process
  pub passes : decision_of world call (over programs process) ≡ decision.Pass
  pub bytes : List ℕ
  pub asks : asked_of world.calls call ≡ Does (Seccomp 1 0 bytes)
  pub may : (process.creds.no_new_privs || has process.creds.effective cap_sys_admin) ≡ true
  pub read : program_of bytes ≡ Some code

-- if the process's own programs alone leave no room, the push fails
abbrev pub FullByOwn : Type 0
FullByOwn = (programs : List (List Insn)) (world : World) (call : Call) (process : Process) (code : List Insn)
    → Pushes programs world call process code
    → max_insns_per_path < room_of process.stack + length code → (step (above programs world) call).0 ≡ Refused enomem

-- where there is room with the most that the programs of the launch may take, there is room
abbrev pub RoomByBounds : Type 0
RoomByBounds = (programs : List (List Insn)) (most : ℕ) (world : World) (call : Call) (process : Process) (code : List Insn)
    → Pushes programs world call process code
    → room_of programs ≤ most → most + room_of process.stack + length code ≤ max_insns_per_path
    → (step (above programs world) call).0 ≡ Done 0

-- the same said of the worlds: after each reply they differ in the programs of the launch alone, so what the service itself
-- pushed is one list in both
abbrev pub AlikeRun : List (List Insn) → List (List Insn) → World → List Call → Type 0
AlikeRun one other base [] = Unit {0}
AlikeRun one other base (call ∷ calls) =
    ((reply : Reply) × (next : World) × (step (above one base) call ≡ (reply, above one next)) ×
    (step (above other base) call ≡ (reply, above other next)) × AlikeRun one other next calls)
    ⊎ IsFullInOne (above one base) (above other base) call

abbrev pub AlikeRuns : Type 0
AlikeRuns = (one other : List (List Insn)) (base : World) (calls : List Call) → AnswerAlike one other → HasWordArchs base.calls
    → AreCalls calls → AlikeRun one other base calls
