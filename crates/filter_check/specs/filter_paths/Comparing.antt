-- Whether a comparison with the instruction's number holds: BPF_JEQ, BPF_JGT, BPF_JGE, else BPF_JSET.
use Rattle.std.specs.Prelude.{ℕ, ◌+◌, ◌==◌, Bool, if◌then◌else◌}
use Rattle.seccomp_compile.specs.bpf_code.Codes.{jmp, jeq, jgt, jge, k}
use Rattle.seccomp_compile.specs.bpf_code.Effects.{holds}
use Rattle.seccomp_compile.specs.bpf_code.declared.machine.Insn.{Insn}
use Rattle.seccomp_compile.specs.bpf_code.declared.ops.Test.TheVariants as test

abbrev pub compares : Insn → ℕ → Bool
compares insn a =
    if insn.code == jmp + jeq + k then holds test.Eq a insn.k else
    if insn.code == jmp + jgt + k then holds test.Gt a insn.k else
    if insn.code == jmp + jge + k then holds test.Ge a insn.k else
    holds test.Set a insn.k
