-- A stack of programs decides about a call: seccomp(2), "Filters" and the values that a filter returns. Programs and
-- answers are listed with the oldest first.
use Rattle.std.specs.Prelude.{◌≡◌, ℕ, ◌+◌, ◌*◌, ◌/◌, ◌%◌, ◌^◌, ◌<◌, ◌==◌, ◌||◌, min, ℤ, int_le, ◌≤ℤ◌, ◌<ℤ◌, if◌then◌else◌, List, [], ◌∷◌}
use Rattle.std.specs.Prelude.{map, length, sum_by, slice_get, Option, Some, None}
use Rattle.std.specs.Int.{cast_signed, w32}
use Rattle.std.specs.Option.{option_map_or}
use Rattle.bpf_code.specs.declared.machine.Insn.{Insn}
use Rattle.bpf_code.specs.declared.machine.CallData.{CallData}
use Rattle.bpf_code.specs.declared.decision.Decision.{Decision}
use Rattle.bpf_code.specs.declared.decision.Decision.TheVariants.{Pass, Errno, Kill}
use Rattle.linux_numbers.specs.Actions.{allow, log, trace, user_notif, errno}
use Rattle.linux_numbers.specs.Errnos.{enosys}
use Rattle.linux_numbers.specs.Limits.{max_errno}
use Rattle.bpf_code.specs.Meaning.{run_from, start_regs, Answers}

-- the action of an answer: its upper 16 bits
abbrev pub action_word : ℕ → ℕ
action_word answer = answer / 2 ^ 16 * 2 ^ 16

-- the action as a signed number of 32 bits, by which answers are compared
abbrev pub action_of : ℕ → ℤ
action_of answer = cast_signed w32 (action_word answer)

-- the decision of an answer. ALLOW and LOG let the call pass, and ERRNO returns its lower 16 bits, at most 4,095. There is no tracer
-- and no listener, so TRACE and USER_NOTIF answer ENOSYS. Every other action kills
abbrev pub decision_of : ℕ → Decision
decision_of answer =
    let action = action_word answer in
    if action == allow || action == log then Pass else
    if action == errno then Errno (min (answer % 2 ^ 16) max_errno) else
    if action == user_notif || action == trace then Errno enosys else
    Kill

-- each program's answer
abbrev pub AnswerEach : List (List Insn) → CallData → List ℕ → Type 0
AnswerEach [] input [] = Unit {0}
AnswerEach (code ∷ programs) input (answer ∷ answers) = Answers code input answer × AnswerEach programs input answers
AnswerEach programs input answers = ⊥

-- the answer at some place has the least action, and no newer answer has the same action
pub record IsDeciding (answers : List ℕ) (answer : ℕ) : Type 0 where
  pub place : ℕ
  pub found : slice_get answers place ≡ Some answer
  pub least : (at other : ℕ) → slice_get answers at ≡ Some other → action_of answer ≤ℤ action_of other
  pub newest : (at other : ℕ) → place < at → slice_get answers at ≡ Some other → action_of answer <ℤ action_of other

-- the answers decide this; without an answer the call passes
abbrev pub DecidedBy : List ℕ → Decision → Type 0
DecidedBy [] decision = decision ≡ Pass
DecidedBy (oldest ∷ answers) decision = (answer : ℕ) × IsDeciding (oldest ∷ answers) answer × (decision ≡ decision_of answer)

-- all programs answer, and the answer with the least action decides, or the newest of several
pub record Decides (programs : List (List Insn)) (input : CallData) (decision : Decision) : Type 0 where
  pub answers : List ℕ
  pub given : AnswerEach programs input answers
  pub decided : DecidedBy answers decision

-- the room that programs take: each has 4 beside its instructions
abbrev pub room_of : List (List Insn) → ℕ
room_of programs = sum_by (λ code. length code + 4) programs

-- The decision as a function, by which proofs compute.

-- the answer of a program; every accepted program has one
abbrev pub answer_of : List Insn → CallData → ℕ
answer_of code input = option_map_or (λ end. end.0) (run_from code input 0 start_regs) 0

abbrev pub answers_of : List (List Insn) → CallData → List ℕ
answers_of programs input = map (λ code. answer_of code input) programs

-- the answer with the lesser action decides, and the newer one if both have the same action
abbrev pub stronger : ℕ → ℕ → ℕ
stronger older newer = if int_le (action_of newer) (action_of older) then newer else older

abbrev pub stronger_of : ℕ → Option ℕ → ℕ
stronger_of older None = older
stronger_of older (Some newer) = stronger older newer

-- the deciding answer
abbrev pub deciding : List ℕ → Option ℕ
deciding [] = None
deciding (older ∷ newer) = Some (stronger_of older (deciding newer))

-- the deciding answer after a newer one
abbrev pub pushed : Option ℕ → ℕ → ℕ
pushed None newest = newest
pushed (Some older) newest = stronger older newest

abbrev pub decision_by : Option ℕ → Decision
decision_by None = Pass
decision_by (Some answer) = decision_of answer

-- the decision of a stack
abbrev pub decision_on : List (List Insn) → CallData → Decision
decision_on programs input = decision_by (deciding (answers_of programs input))
