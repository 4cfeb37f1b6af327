-- Each instruction changes the registers and leads to another one or to the end: the instruction table of classic BPF (seccomp(2),
-- bpf_insn in <linux/filter.h>).
use Rattle.std.specs.Prelude.{ℕ, ◌+◌, ◌-◌, ◌*◌, ◌/◌, ◌%◌, ◌^◌, ◌<◌, ◌==◌, nat_lt, nat_le, Bool, not, if◌then◌else◌, List, [], ◌∷◌, ◌++◌}
use Rattle.std.specs.Prelude.{flat_map, slice_index, slice_set, bit_and, bit_or, bit_xor, Option, Some, None}
use Rattle.bpf_code.specs.declared.machine.Insn.{Insn}
use Rattle.bpf_code.specs.declared.machine.CallData.{CallData}
use Rattle.bpf_code.specs.declared.machine.Regs.{Regs}
use Rattle.bpf_code.specs.declared.machine.Effect.{Effect}
use Rattle.bpf_code.specs.declared.machine.Effect.TheVariants.{End, Skip}
use Rattle.bpf_code.specs.declared.ops.Op.{Op}
use Rattle.bpf_code.specs.declared.ops.Op.TheVariants.{LoadWord, LoadLen, LoadNumber, LoadScratch, Store, Alu, Neg, MoveToX, MoveToA, Jump}
use Rattle.bpf_code.specs.declared.ops.Op.TheVariants.{JumpIf, Return}
use Rattle.bpf_code.specs.declared.ops.Reg.{Reg}
use Rattle.bpf_code.specs.declared.ops.Reg.TheVariants as reg
use Rattle.bpf_code.specs.declared.ops.AluOp.{AluOp}
use Rattle.bpf_code.specs.declared.ops.AluOp.TheVariants as alu
use Rattle.bpf_code.specs.declared.ops.Operand.{Operand}
use Rattle.bpf_code.specs.declared.ops.Operand.TheVariants as operand
use Rattle.bpf_code.specs.declared.ops.Test.{Test}
use Rattle.bpf_code.specs.declared.ops.Test.TheVariants as test
use Rattle.bpf_code.specs.declared.ops.Source.TheVariants as source

-- the low and the high 32 bits
abbrev pub halves : ℕ → List ℕ
halves n = n % 2 ^ 32 ∷ n / 2 ^ 32 ∷ []

-- struct seccomp_data as its sixteen words, in the order of their offsets: nr at 0, arch at 4, the instruction pointer at 8, and the
-- six arguments from 16 on. Each number of 64 bits has its low half first
abbrev pub words_of : CallData → List ℕ
words_of input = input.nr ∷ input.arch ∷ halves input.ip ++ flat_map halves input.args

-- the second operand
abbrev pub value_of : Operand → Insn → Regs → ℕ
value_of operand.Number insn regs = insn.k
value_of operand.X insn regs = regs.x

-- an operation on two words: sums, differences and products wrap at 32 bits, and shifts use the low five bits of the operand
abbrev pub result_of_op : AluOp → ℕ → ℕ → ℕ
result_of_op alu.Add a b = (a + b) % 2 ^ 32
result_of_op alu.Sub a b = (a + (2 ^ 32 - b)) % 2 ^ 32
result_of_op alu.Mul a b = (a * b) % 2 ^ 32
result_of_op alu.Div a b = a / b
result_of_op alu.Or a b = bit_or a b
result_of_op alu.And a b = bit_and a b
result_of_op alu.Lsh a b = (a * 2 ^ (b % 32)) % 2 ^ 32
result_of_op alu.Rsh a b = a / 2 ^ (b % 32)
result_of_op alu.Xor a b = bit_xor a b

-- BPF_JEQ, BPF_JGT, BPF_JGE, BPF_JSET
abbrev pub holds : Test → ℕ → ℕ → Bool
holds test.Eq a b = a == b
holds test.Gt a b = nat_lt b a
holds test.Ge a b = nat_le b a
holds test.Set a b = not (bit_and a b == 0)

-- the registers with one of them changed
abbrev pub with_reg : Reg → ℕ → Regs → Regs
with_reg reg.A n regs = record regs { a = n }
with_reg reg.X n regs = record regs { x = n }

abbrev pub reg_of : Reg → Regs → ℕ
reg_of reg.A regs = regs.a
reg_of reg.X regs = regs.x

-- a division by 0 ends the program with 0
abbrev pub alu_effect : AluOp → ℕ → Regs → Effect × Regs
alu_effect alu.Div n regs = if n == 0 then (End 0, regs) else (Skip 0, record regs { a = result_of_op alu.Div regs.a n })
alu_effect op n regs = (Skip 0, record regs { a = result_of_op op regs.a n })

-- the table: an instruction ends the program with a result, or changes the registers and skips so many instructions
abbrev pub effect_of : Op → Insn → Regs → CallData → Effect × Regs
effect_of LoadWord insn regs input = (Skip 0, record regs { a = slice_index (words_of input) (insn.k / 4) })
effect_of (LoadLen r) insn regs input = (Skip 0, with_reg r 64 regs)
effect_of (LoadNumber r) insn regs input = (Skip 0, with_reg r insn.k regs)
effect_of (LoadScratch r) insn regs input = (Skip 0, with_reg r (slice_index regs.scratch insn.k) regs)
effect_of (Store r) insn regs input = (Skip 0, record regs { scratch = slice_set regs.scratch insn.k (reg_of r regs) })
effect_of (Alu op o) insn regs input = alu_effect op (value_of o insn regs) regs
effect_of Neg insn regs input = (Skip 0, record regs { a = result_of_op alu.Sub 0 regs.a })
effect_of MoveToX insn regs input = (Skip 0, record regs { x = regs.a })
effect_of MoveToA insn regs input = (Skip 0, record regs { a = regs.x })
effect_of Jump insn regs input = (Skip insn.k, regs)
effect_of (JumpIf t o) insn regs input = (Skip (if holds t regs.a (value_of o insn regs) then insn.jt else insn.jf), regs)
effect_of (Return source.Number) insn regs input = (End insn.k, regs)
effect_of (Return source.A) insn regs input = (End regs.a, regs)

-- the effect of an instruction; an instruction whose code is not in the table has no effect
abbrev pub effect_by : Option Op → Insn → Regs → CallData → Option (Effect × Regs)
effect_by None insn regs input = None
effect_by (Some op) insn regs input = Some (effect_of op insn regs input)

-- the effect skips fewer than so many instructions
abbrev pub StaysWithin : ℕ → Effect → Type 0
StaysWithin left (End result) = Unit {0}
StaysWithin left (Skip skip) = skip < left
