-- A program takes one path to one answer.
use Rattle.std.proofs.Common.{◌≡◌, ℕ, ◌+◌, List, [], ◌∷◌, refl}
use Rattle.seccomp_compile.specs.bpf_code.declared.machine.Insn.{Insn}
use Rattle.seccomp_compile.specs.bpf_code.declared.machine.CallData.{CallData}
use Rattle.seccomp_compile.specs.bpf_code.declared.machine.Regs.{Regs}
use Rattle.seccomp_compile.specs.bpf_code.Meaning as meaning
use Rattle.filter_check.specs.filter_paths.Traces.{Takes, ends, goes_on}

-- the path begins at the position
abbrev pub first_position : ℕ → List ℕ → ℕ
first_position other [] = other
first_position other (at ∷ path) = at

pub takes_first : (code : List Insn) (input : CallData) (at : ℕ) (regs : Regs) (path : List ℕ) (answer other : ℕ)
    → Takes code input at regs path answer → first_position other path ≡ at
takes_first code input at regs path answer other (ends _ _ after insn _ found effect) = refl
takes_first code input at regs path answer other (goes_on _ skip _ after insn _ _ found effect more) = refl

-- the path ends with its answer
pub takes_ends : (code : List Insn) (input : CallData) (at : ℕ) (regs : Regs) (path : List ℕ) (answer : ℕ)
    → Takes code input at regs path answer → (count : ℕ) × meaning.Ends code input at regs answer count
takes_ends code input at regs path answer (ends _ _ after insn _ found effect) = (1, meaning.stops at regs after insn answer found effect)
takes_ends code input at regs path answer (goes_on _ skip _ after insn _ _ found effect more) =
    let rest = takes_ends code input (at + 1 + skip) after _ answer more in
    (rest.0 + 1, meaning.continues at skip regs after insn answer rest.0 found effect rest.1)
