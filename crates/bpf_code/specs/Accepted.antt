-- seccomp(2) accepts a program by these checks.
use Rattle.std.specs.Prelude.{◌≡◌, ℕ, ◌+◌, ◌-◌, ◌%◌, ◌==◌, ◌<◌, ◌≤◌, nat_lt, ◌&&◌, Bool, true, false, if◌then◌else◌, ◌⊎◌, List, [], ◌∷◌}
use Rattle.std.specs.Prelude.{length, slice_get, Option, Some, None}
use Rattle.linux_numbers.specs.Limits.{bpf_maxinsns}
use Rattle.bpf_code.specs.declared.machine.Insn.{Insn}
use Rattle.bpf_code.specs.declared.program.Fault.{Fault}
use Rattle.bpf_code.specs.declared.program.Fault.TheVariants as fault
use Rattle.bpf_code.specs.declared.ops.Op.{Op}
use Rattle.bpf_code.specs.declared.ops.Op.TheVariants.{LoadWord, LoadScratch, Store, Alu, Jump, JumpIf, Return}
use Rattle.bpf_code.specs.declared.ops.AluOp.{AluOp}
use Rattle.bpf_code.specs.declared.ops.AluOp.TheVariants as alu
use Rattle.bpf_code.specs.declared.ops.Operand.TheVariants as operand
use Rattle.bpf_code.specs.Ops.{op_of}

abbrev pub unless : Bool → Fault → Option Fault
unless good fault = if good then None else Some fault

-- a division by 0 and a shift by 32 or more are refused if the operand is the instruction's number
abbrev pub number_fault : AluOp → ℕ → Option Fault
number_fault alu.Div k = unless (nat_lt 0 k) fault.DivZero
number_fault alu.Lsh k = unless (nat_lt k 32) fault.Shift
number_fault alu.Rsh k = unless (nat_lt k 32) fault.Shift
number_fault op k = None

-- the fault of an instruction, given how many instructions follow it: a load takes a whole word of the data, there are sixteen
-- scratch words, and a jump stays inside the program
abbrev pub op_fault : Op → Insn → ℕ → Option Fault
op_fault LoadWord insn left = unless (nat_lt insn.k 64 && insn.k % 4 == 0) fault.Load
op_fault (LoadScratch r) insn left = unless (nat_lt insn.k 16) fault.Scratch
op_fault (Store r) insn left = unless (nat_lt insn.k 16) fault.Scratch
op_fault (Alu op operand.Number) insn left = number_fault op insn.k
op_fault (Alu op operand.X) insn left = None
op_fault Jump insn left = unless (nat_lt insn.k left) fault.Jump
op_fault (JumpIf t o) insn left = unless (nat_lt insn.jt left && nat_lt insn.jf left) fault.Jump
op_fault op insn left = None

-- a code that is not in the table is a fault
abbrev pub fault_by : Option Op → Insn → ℕ → Option Fault
fault_by None insn left = Some fault.Opcode
fault_by (Some op) insn left = op_fault op insn left

abbrev pub fault_of : Insn → ℕ → Option Fault
fault_of insn left = fault_by (op_of insn.code) insn left

-- no instruction has a fault
abbrev pub AreFine : List Insn → Type 0
AreFine [] = Unit {0}
AreFine (insn ∷ code) = (fault_of insn (length code) ≡ None) × AreFine code

-- the instruction at this place is the first with a fault
pub record IsFirstFault (code : List Insn) (at : ℕ) (fault : Fault) : Type 0 where
  pub insn : Insn
  pub found : slice_get code at ≡ Some insn
  pub faulty : fault_of insn (length code - (at + 1)) ≡ Some fault
  pub fine_before : (before : ℕ) (other : Insn) → before < at → slice_get code before ≡ Some other
      → fault_of other (length code - (before + 1)) ≡ None

abbrev pub is_return : Option Op → Bool
is_return (Some (Return source)) = true
is_return op = false

-- the last instruction ends the program
abbrev pub ends_in_return : List Insn → Bool
ends_in_return [] = false
ends_in_return (insn ∷ []) = is_return (op_of insn.code)
ends_in_return (insn ∷ next ∷ code) = ends_in_return (next ∷ code)

-- a path leads from a jump to each of its targets, and from every other instruction to the next, even from one that ends
-- the program
abbrev pub Follows : Option Op → Insn → ℕ → ℕ → Type 0
Follows (Some Jump) insn at to = to ≡ at + 1 + insn.k
Follows (Some (JumpIf t o)) insn at to = (to ≡ at + 1 + insn.jt) ⊎ (to ≡ at + 1 + insn.jf)
Follows op insn at to = to ≡ at + 1

-- the instruction stores this scratch word
abbrev pub stores : Option Op → Insn → ℕ → Bool
stores (Some (Store r)) insn word = insn.k == word
stores op insn word = false

-- some path from the first instruction leads to this place without a store of the word
pub data ReachesUnstored (code : List Insn) (word : ℕ) : ℕ → Type 0 where
  at_start : ReachesUnstored code word 0
  goes : (at to : ℕ) (insn : Insn) → ReachesUnstored code word at → slice_get code at ≡ Some insn
      → stores (op_of insn.code) insn word ≡ false → Follows (op_of insn.code) insn at to → ReachesUnstored code word to

abbrev pub is_scratch_load : Option Op → Bool
is_scratch_load (Some (LoadScratch r)) = true
is_scratch_load op = false

-- every path that reaches a load of a scratch word stores that word before
abbrev pub NoUnstored : List Insn → Type 0
NoUnstored code = (at : ℕ) (insn : Insn) → slice_get code at ≡ Some insn → is_scratch_load (op_of insn.code) ≡ true
    → ReachesUnstored code insn.k at → ⊥

-- some path reaches the load at this place without a store of its word
pub record LoadsUnstored (code : List Insn) (at : ℕ) : Type 0 where
  pub insn : Insn
  pub found : slice_get code at ≡ Some insn
  pub loads : is_scratch_load (op_of insn.code) ≡ true
  pub reached : ReachesUnstored code insn.k at

-- the load at this place is the first such load
pub record IsFirstUnstored (code : List Insn) (at : ℕ) : Type 0 where
  pub unstored : LoadsUnstored code at
  pub none_before : (before : ℕ) → before < at → LoadsUnstored code before → ⊥

-- seccomp(2) accepts the program
pub record IsAccepted (code : List Insn) : Type 0 where
  pub short : length code ≤ bpf_maxinsns
  pub fine : AreFine code
  pub ends : ends_in_return code ≡ true
  pub stored : NoUnstored code
