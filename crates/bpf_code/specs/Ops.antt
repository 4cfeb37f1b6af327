-- The operation of each code of an instruction that seccomp(2) allows.
use Rattle.std.specs.Prelude.{ℕ, ◌+◌, ◌==◌, if◌then◌else◌, Option, Some, None}
use Rattle.bpf_code.specs.declared.ops.Op.{Op}
use Rattle.bpf_code.specs.declared.ops.Op.TheVariants as op
use Rattle.bpf_code.specs.declared.ops.Reg.TheVariants as reg
use Rattle.bpf_code.specs.declared.ops.AluOp.TheVariants as alu_op
use Rattle.bpf_code.specs.declared.ops.Operand.TheVariants as operand
use Rattle.bpf_code.specs.declared.ops.Test.TheVariants as test
use Rattle.bpf_code.specs.declared.ops.Source.TheVariants as source
use Rattle.bpf_code.specs.Codes.{ld, ldx, st, stx, alu, jmp, ret, misc, w, imm, abs, mem, len, add, sub, mul, div, or, and, lsh, rsh, neg}
use Rattle.bpf_code.specs.Codes.{xor, ja, jeq, jgt, jge, jset, k, x, a, tax, txa}

abbrev pub op_of : ℕ → Option Op
op_of code =
    if code == ld + w + abs then Some op.LoadWord else
    if code == ld + w + len then Some (op.LoadLen reg.A) else
    if code == ldx + w + len then Some (op.LoadLen reg.X) else
    if code == ld + imm then Some (op.LoadNumber reg.A) else
    if code == ldx + imm then Some (op.LoadNumber reg.X) else
    if code == ld + mem then Some (op.LoadScratch reg.A) else
    if code == ldx + mem then Some (op.LoadScratch reg.X) else
    if code == st then Some (op.Store reg.A) else
    if code == stx then Some (op.Store reg.X) else
    if code == alu + add + k then Some (op.Alu alu_op.Add operand.Number) else
    if code == alu + sub + k then Some (op.Alu alu_op.Sub operand.Number) else
    if code == alu + mul + k then Some (op.Alu alu_op.Mul operand.Number) else
    if code == alu + div + k then Some (op.Alu alu_op.Div operand.Number) else
    if code == alu + or + k then Some (op.Alu alu_op.Or operand.Number) else
    if code == alu + and + k then Some (op.Alu alu_op.And operand.Number) else
    if code == alu + lsh + k then Some (op.Alu alu_op.Lsh operand.Number) else
    if code == alu + rsh + k then Some (op.Alu alu_op.Rsh operand.Number) else
    if code == alu + xor + k then Some (op.Alu alu_op.Xor operand.Number) else
    if code == alu + add + x then Some (op.Alu alu_op.Add operand.X) else
    if code == alu + sub + x then Some (op.Alu alu_op.Sub operand.X) else
    if code == alu + mul + x then Some (op.Alu alu_op.Mul operand.X) else
    if code == alu + div + x then Some (op.Alu alu_op.Div operand.X) else
    if code == alu + or + x then Some (op.Alu alu_op.Or operand.X) else
    if code == alu + and + x then Some (op.Alu alu_op.And operand.X) else
    if code == alu + lsh + x then Some (op.Alu alu_op.Lsh operand.X) else
    if code == alu + rsh + x then Some (op.Alu alu_op.Rsh operand.X) else
    if code == alu + xor + x then Some (op.Alu alu_op.Xor operand.X) else
    if code == alu + neg then Some op.Neg else
    if code == misc + tax then Some op.MoveToX else
    if code == misc + txa then Some op.MoveToA else
    if code == jmp + ja then Some op.Jump else
    if code == jmp + jeq + k then Some (op.JumpIf test.Eq operand.Number) else
    if code == jmp + jgt + k then Some (op.JumpIf test.Gt operand.Number) else
    if code == jmp + jge + k then Some (op.JumpIf test.Ge operand.Number) else
    if code == jmp + jset + k then Some (op.JumpIf test.Set operand.Number) else
    if code == jmp + jeq + x then Some (op.JumpIf test.Eq operand.X) else
    if code == jmp + jgt + x then Some (op.JumpIf test.Gt operand.X) else
    if code == jmp + jge + x then Some (op.JumpIf test.Ge operand.X) else
    if code == jmp + jset + x then Some (op.JumpIf test.Set operand.X) else
    if code == ret + k then Some (op.Return source.Number) else
    if code == ret + a then Some (op.Return source.A) else
    None
