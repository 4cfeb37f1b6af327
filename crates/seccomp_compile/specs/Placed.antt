-- Code that does what a tree says.
use Rattle.std.specs.Prelude.{◌≡◌, ℕ, ◌+◌, ◌-◌, ◌<◌, ◌≤◌, Bool, true, false, List, [], ◌∷◌, ◌++◌, length, drop, slice_get, Some, None}
use Rattle.call_rules.specs.bpf_code.declared.machine.Insn.{Insn}
use Rattle.call_rules.specs.bpf_code.declared.machine.CallData.{CallData}
use Rattle.call_rules.specs.bpf_code.declared.machine.Regs.{Regs}
use Rattle.call_rules.specs.bpf_code.Ops.{op_of}
use Rattle.call_rules.specs.Tested.{Tested}
use Rattle.call_rules.specs.Action.{word_of}
use Rattle.call_rules.specs.declared.actions.Action.{Action}
use Rattle.call_rules.specs.bpf_code.Meaning.{run_from}
use Rattle.call_rules.specs.bpf_code.Accepted.{fault_of, is_scratch_load, ends_in_return}
use Rattle.seccomp_compile.specs.declared.tree.Comparison.{Comparison}
use Rattle.seccomp_compile.specs.Code.{IsEnd, compare}
use Rattle.seccomp_compile.specs.Looks.{test_code}
use Rattle.seccomp_compile.specs.Decisions.{Decision, decide, is_end}
use Rattle.seccomp_compile.specs.Lengths.{most_of, PathWithin}

-- started with these registers, the code ends with the word of the action after at most so many instructions
pub record EndsWithin (code : List Insn) (input : CallData) (regs : Regs) (answer : Action) (limit : ℕ) : Type 0 where
  pub steps : ℕ
  pub ends : run_from code input 0 regs ≡ Some (word_of answer, steps)
  pub within : steps ≤ limit

-- the most instructions before an ending that is used again
abbrev pub most_in_front : ℕ
most_in_front = 200

-- an instruction that ends with the action is after so many others, which are few
pub record StandsAt (action : Action) (code : List Insn) (count : ℕ) : Type 0 where
  pub insn : Insn
  pub near : count < most_in_front
  pub there : count < length code
  pub found : slice_get code count ≡ Some insn
  pub ends : IsEnd action insn

-- no instruction that ends with the action is after fewer others than these
abbrev pub NoneBefore : Action → List Insn → ℕ → Type 0
NoneBefore action code most = (count : ℕ) (insn : Insn) → count < most → slice_get code count ≡ Some insn → ¬ IsEnd action insn

-- no instruction that ends with the action is after few others
abbrev pub NoneStands : Action → List Insn → Type 0
NoneStands action code = NoneBefore action code most_in_front

-- it does what the tree says of A, within every bound of the tree's paths
abbrev pub Does : Decision → List Insn → Type 0
Does decision code =
    (input : CallData) (regs : Regs) (limit : ℕ) → PathWithin limit decision
    → EndsWithin code input regs (decide decision input regs.a) limit

-- the code from this place on, which is counted from the end
abbrev pub from_place : ℕ → List Insn → List Insn
from_place place code = drop (length code - place) code

-- a comparison in front of the code leads to the place, since its offsets have eight bits
abbrev pub IsInReach : ℕ → List Insn → Type 0
IsInReach place code = (place ≤ length code) × (length code ≤ place + 255)

-- a comparison in front of the code, which leads to one place where it fails and to the other one where it holds
abbrev pub with_comparison : Comparison → ℕ → ℕ → ℕ → List Insn → List Insn
with_comparison comparison number miss hit code = compare comparison number (length code - hit) (length code - miss) ∷ code

-- a test in front of it
abbrev pub with_test : Tested → ℕ → ℕ → List Insn → List Insn
with_test test miss hit code = test_code test (length code - hit) (length code - miss) ++ code

-- no instruction has a fault, and none loads a scratch word
abbrev pub AreSound : List Insn → Type 0
AreSound [] = Unit {0}
AreSound (insn ∷ code) = (fault_of insn (length code) ≡ None) × (is_scratch_load (op_of insn.code) ≡ false) × AreSound code

-- the last instruction, where there is one, ends the program
abbrev pub ends_well : List Insn → Bool
ends_well [] = true
ends_well (insn ∷ code) = ends_in_return (insn ∷ code)

-- so seccomp(2) takes it, where there is some and it is not too long
pub record IsSound (code : List Insn) : Type 0 where
  pub fine : AreSound code
  pub ends : ends_well code ≡ true

-- the new code has more instructions in front of the old code
abbrev pub Grows : List Insn → List Insn → Type 0
Grows before after = (more : List Insn) × (after ≡ more ++ before)

-- The tree's code is at the place, with few instructions before it, and with none before it unless the tree is an ending. Code
-- that was not there yet was added in front.
pub record Placed (decision : Decision) (before after : List Insn) (place : ℕ) : Type 0 where
  pub grows : Grows before after
  pub short : length after ≤ length before + most_of decision
  pub some : 0 < place
  pub inside : place ≤ length after
  pub near : length after ≤ place + most_in_front
  pub front : is_end decision ≡ false → place ≡ length after
  pub does : Does decision (from_place place after)
  pub sound : IsSound after

-- What the code at the first place does is done from the second one, with at most so many instructions in front of it, by one
-- instruction more at most. A jump was added only where the first place is too far.
pub record Reached (before after : List Insn) (place reached limit : ℕ) : Type 0 where
  pub grows : Grows before after
  pub short : length after ≤ length before + 1
  pub stays : length before ≤ place + limit → after ≡ before
  pub some : 0 < reached
  pub inside : reached ≤ length after
  pub near : length after ≤ reached + limit
  pub does : (input : CallData) (regs : Regs) (answer : Action) (steps : ℕ) →
      EndsWithin (from_place place before) input regs answer steps → EndsWithin (from_place reached after) input regs answer (steps + 1)
  pub sound : IsSound after
