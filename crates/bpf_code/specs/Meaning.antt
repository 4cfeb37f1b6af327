-- The answer of a program for the data of a call.
use Rattle.std.specs.Prelude.{◌≡◌, ℕ, zero, suc, ◌+◌, ◌^◌, ◌<◌, ◌≤◌, List, [], ◌∷◌, length, replicate, slice_get, Option, Some, None, All}
use Rattle.bpf_code.specs.declared.machine.Insn.{Insn}
use Rattle.bpf_code.specs.declared.machine.CallData.{CallData}
use Rattle.bpf_code.specs.declared.machine.Regs.{Regs}
use Rattle.bpf_code.specs.declared.machine.Effect.{Effect}
use Rattle.bpf_code.specs.declared.machine.Effect.TheVariants.{End, Skip}
use Rattle.bpf_code.specs.Ops.{op_of}
use Rattle.bpf_code.specs.Effects.{effect_by}

-- The program begins at the instruction at this place with these registers, and ends with this result after so many instructions. The
-- instruction ends the program, or the program ends from the place to which the instruction leads.
pub data Ends (code : List Insn) (input : CallData) : ℕ → Regs → ℕ → ℕ → Type 0 where
  stops : (at : ℕ) (regs after : Regs) (insn : Insn) (result : ℕ) → slice_get code at ≡ Some insn
      → effect_by (op_of insn.code) insn regs input ≡ Some (End result, after) → Ends code input at regs result 1
  continues : (at skip : ℕ) (regs after : Regs) (insn : Insn) (result count : ℕ) → slice_get code at ≡ Some insn
      → effect_by (op_of insn.code) insn regs input ≡ Some (Skip skip, after) → Ends code input (at + 1 + skip) after result count
      → Ends code input at regs result (count + 1)

-- A, X and the sixteen scratch words begin with 0
abbrev pub start_regs : Regs
start_regs = record { a = 0; x = 0; scratch = replicate 16 0 }

-- the program begins at the first instruction and ends with this answer
abbrev pub Answers : List Insn → CallData → ℕ → Type 0
Answers code input answer = (count : ℕ) × Ends code input 0 start_regs answer count

-- the program ends with this answer after at most so many instructions
abbrev pub AnswersWithin : ℕ → List Insn → CallData → ℕ → Type 0
AnswersWithin limit code input answer = (count : ℕ) × Ends code input 0 start_regs answer count × (count ≤ limit)

-- the program has no other answer
abbrev pub IsOnlyAnswer : List Insn → CallData → ℕ → Type 0
IsOnlyAnswer code input answer = (other : ℕ) → Answers code input other → other ≡ answer

-- the numbers fit the fields of a call's data
pub record IsCallData (input : CallData) : Type 0 where
  pub nr : input.nr < 2 ^ 32
  pub arch : input.arch < 2 ^ 32
  pub ip : input.ip < 2 ^ 64
  pub count : length input.args ≡ 6
  pub args : All (λ arg. arg < 2 ^ 64) input.args

-- counts one more instruction
abbrev pub counted : Option (ℕ × ℕ) → Option (ℕ × ℕ)
counted None = None
counted (Some end) = Some (end.0, end.1 + 1)

-- continues after the skipped instructions, and counts one more
abbrev pub goes_on : Option (Effect × Regs) → (ℕ → Regs → Option (ℕ × ℕ)) → Option (ℕ × ℕ)
goes_on None go = None
goes_on (Some (End result, regs)) go = Some (result, 1)
goes_on (Some (Skip skip, regs)) go = counted (go skip regs)

-- The meaning as a function, by which proofs compute: the result of these instructions after the first, skipped ones, and how many
-- were performed, or None if there are no more instructions.
abbrev pub run_from : List Insn → CallData → ℕ → Regs → Option (ℕ × ℕ)
run_from [] input skip regs = None
run_from (insn ∷ code) input zero regs = goes_on (effect_by (op_of insn.code) insn regs input) (run_from code input)
run_from (insn ∷ code) input (suc skip) regs = run_from code input skip regs
