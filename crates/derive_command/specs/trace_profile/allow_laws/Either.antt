-- Replies under several lists of programs, of which one answers each call as one of two others.
use Rattle.std.specs.Prelude.{◌≡◌, ◌⊎◌, ℕ, List, [], ◌∷◌}
use Rattle.std.specs.List.{AllByRecursion}
use Rattle.asked_service.specs.bpf_code.declared.machine.Insn.{Insn}
use Rattle.asked_service.specs.bpf_code.declared.machine.CallData.{CallData}
use Rattle.asked_service.specs.bpf_code.Meaning.{IsCallData}
use Rattle.asked_service.specs.bpf_code.Stack.{answer_of}
use Rattle.asked_service.specs.call_table.Table.{Table}
use Rattle.asked_service.specs.kernel_model.declared.kernel_calls.call.Call.{Call}
use Rattle.asked_service.specs.kernel_model.kernel_calls.Calls.{AreCalls}
use Rattle.asked_service.specs.kernel_model.kernel_calls.Operation.{Does, Seccomp, asked_of}
use Rattle.asked_service.specs.kernel_model.World.{World}
use Rattle.asked_service.specs.kernel_model.Runs.{replies}
use Rattle.asked_service.specs.launcher.Alike.{HasWordArchs, above}

-- the lists have equally many programs, and each program answers this call like its counterpart
abbrev pub AnswerSame : CallData → List (List Insn) → List (List Insn) → Type 0
AnswerSame input [] [] = Unit {0}
AnswerSame input (code ∷ one) (own ∷ other) = (answer_of code input ≡ answer_of own input) × AnswerSame input one other
AnswerSame input one other = ⊥

-- each call is answered as by the one list, or as by the other
abbrev pub AnswersAsEither : List (List Insn) → List (List Insn) → List (List Insn) → Type 0
AnswersAsEither both one other = (input : CallData) → IsCallData input → AnswerSame input both one ⊎ AnswerSame input both other

-- it asks to push no program, seccomp(2)
abbrev pub PushesNone : Table → Call → Type 0
PushesNone table call = (op flags : ℕ) (bytes : List ℕ) → asked_of table call ≡ Does (Seccomp op flags bytes) → ⊥

-- none of the calls does
abbrev pub PushNone : Table → List Call → Type 0
PushNone table calls = AllByRecursion (PushesNone table) calls

-- where two lists of programs have the same replies, so has a list that answers each call as one of the two
abbrev pub EitherReplies : Type 0
EitherReplies = (both one other : List (List Insn)) (base : World) (calls : List Call)
    → AnswersAsEither both one other → HasWordArchs base.calls → AreCalls calls → PushNone base.calls calls
    → replies (above one base) calls ≡ replies (above other base) calls
    → replies (above both base) calls ≡ replies (above one base) calls
