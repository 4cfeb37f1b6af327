-- The ends of a program's paths, and the call data that take each of them.
use Rattle.std.specs.Prelude.{◌≡◌, ◌≢◌, ◌⊎◌, ℕ, ◌+◌, ◌-◌, ◌<◌, ◌≤◌, true, false, Bool, List, ◌++◌, Any, length, slice_get, Some}
use Rattle.std.specs.List.{AllZip, AllByRecursion}
use Rattle.seccomp_compile.specs.bpf_code.declared.machine.Insn.{Insn}
use Rattle.seccomp_compile.specs.bpf_code.declared.machine.CallData.{CallData}
use Rattle.seccomp_compile.specs.bpf_code.declared.machine.Regs.{Regs}
use Rattle.seccomp_compile.specs.bpf_code.declared.machine.Effect.TheVariants as effect
use Rattle.seccomp_compile.specs.bpf_code.Ops.{op_of}
use Rattle.seccomp_compile.specs.bpf_code.Effects.{effect_by, words_of}
use Rattle.seccomp_compile.specs.bpf_code.Meaning.{IsCallData}
use Rattle.filter_check.specs.filter_paths.Traces.{Takes, EachOnce}
use Rattle.filter_check.specs.filter_paths.Regions.{IsWithin, held_word}
use Rattle.filter_check.specs.declared.filter_paths.states.State.{State}
use Rattle.filter_check.specs.declared.filter_paths.states.End.{End}
use Rattle.filter_check.specs.declared.filter_paths.states.Next.{Next}
use Rattle.filter_check.specs.declared.filter_paths.states.Next.TheVariants as next

-- these call data reach the state
abbrev pub Comes : State → CallData → Type 0
Comes state input = IsCallData input × IsWithin state.region input

-- the instruction at the state ends the program with this answer, on all data that reach the state
abbrev pub EndsAt : List Insn → State → ℕ → Type 0
EndsAt code state answer =
    (input : CallData) (regs : Regs) → Comes state input → regs.a ≡ held_word state.held input →
    (insn : Insn) × (after : Regs) × (slice_get code state.at ≡ Some insn) ×
    (effect_by (op_of insn.code) insn regs input ≡ Some (effect.End answer, after))

-- all data that reach the next state reach this one, and its instruction leads them there
pub record LeadsOn (code : List Insn) (state to : State) : Type 0 where
  pub later : state.at < to.at
  pub inside : to.at < length code
  pub narrower : (input : CallData) → Comes to input → Comes state input
  pub leads : (input : CallData) (regs : Regs) → Comes to input → regs.a ≡ held_word state.held input →
      (insn : Insn) × (after : Regs) × (slice_get code state.at ≡ Some insn)
      × (effect_by (op_of insn.code) insn regs input ≡ Some (effect.Skip (to.at - (state.at + 1)), after)) ×
      (after.a ≡ held_word to.held input)

-- all data of the state continue at the next one
abbrev pub LeadsAll : List Insn → State → State → Type 0
LeadsAll code state to = LeadsOn code state to × ((input : CallData) → Comes state input → Comes to input)

-- BPF_JEQ, BPF_JGT, BPF_JGE or BPF_JSET with a number
abbrev pub IsComparison : Insn → Type 0
IsComparison insn = (insn.code ≡ 21) ⊎ ((insn.code ≡ 37) ⊎ ((insn.code ≡ 53) ⊎ (insn.code ≡ 69)))

-- the end has these least data, and each word of them is at most the same word of the end's other data
abbrev pub HasLeast : End → Type 0
HasLeast end =
    IsCallData end.least × IsWithin end.region end.least
    × ((input : CallData) → IsCallData input → IsWithin end.region input
    → AllZip (λ (one other : ℕ). one ≤ other) (words_of end.least) (words_of input))

-- the instruction at a state ends the program, or leads the data to one state or to two
abbrev pub StepsTo : List Insn → State → Next → Type 0
StepsTo code state (next.End end) = (end.region ≡ state.region) × HasLeast end × EndsAt code state end.answer
StepsTo code state (next.One to) = LeadsAll code state to
StepsTo code state (next.Two first second) =
    LeadsOn code state first × LeadsOn code state second × (first.at ≢ second.at)
    × ((input : CallData) → Comes state input → Comes first input ⊎ Comes second input)

-- all data of the end reach the state, and from there the program takes this path to the end's answer
abbrev pub LeadsTo : List Insn → State → End → List ℕ → Type 0
LeadsTo code state end path =
    (input : CallData) → IsCallData input → IsWithin end.region input →
    Comes state input × ((regs : Regs) → regs.a ≡ held_word state.held input → Takes code input state.at regs path end.answer)

-- each end belongs to a path of its own
pub record AreSomeEnds (code : List Insn) (state : State) (ends : List End) : Type 0 where
  pub paths : List (List ℕ)
  pub lead : AllZip (LeadsTo code state) ends paths
  pub some : AllByRecursion HasLeast ends
  pub once : EachOnce paths

-- each end belongs to a path of its own, and all data of the state belong to one of the ends
pub record AreEnds (code : List Insn) (state : State) (ends : List End) : Type 0 where
  pub some : AreSomeEnds code state ends
  pub all_data : (input : CallData) → Comes state input → Any (λ end. IsWithin end.region input) ends

-- all ends are added; or there are more than allowed, and some of them are added
abbrev pub AddsEnds : List Insn → State → ℕ → List End → List End → Bool → Type 0
AddsEnds code state most old new true = (more : List End) × (new ≡ old ++ more) × AreEnds code state more
AddsEnds code state most old new false = (more : List End) × (most < length old + length more) × AreSomeEnds code state more
