-- The paths of a program: the positions that its run takes on some call data.
use Rattle.std.specs.Prelude.{◌≡◌, ℕ, ◌+◌, ◌<◌, List, [], ◌∷◌, length, slice_get, Some, Contains}
use Rattle.seccomp_compile.specs.bpf_code.declared.machine.Insn.{Insn}
use Rattle.seccomp_compile.specs.bpf_code.declared.machine.CallData.{CallData}
use Rattle.seccomp_compile.specs.bpf_code.declared.machine.Regs.{Regs}
use Rattle.seccomp_compile.specs.bpf_code.declared.machine.Effect.TheVariants.{End, Skip}
use Rattle.seccomp_compile.specs.bpf_code.Ops.{op_of}
use Rattle.seccomp_compile.specs.bpf_code.Effects.{effect_by}
use Rattle.seccomp_compile.specs.bpf_code.Meaning.{IsCallData, start_regs}

-- the program starts at a position with these registers, takes these positions and ends with this answer
pub data Takes (code : List Insn) (input : CallData) : ℕ → Regs → List ℕ → ℕ → Type 0 where
  ends : (at : ℕ) (regs after : Regs) (insn : Insn) (answer : ℕ) → slice_get code at ≡ Some insn
      → effect_by (op_of insn.code) insn regs input ≡ Some (End answer, after) → Takes code input at regs (at ∷ []) answer
  goes_on : (at skip : ℕ) (regs after : Regs) (insn : Insn) (path : List ℕ) (answer : ℕ) → slice_get code at ≡ Some insn
      → effect_by (op_of insn.code) insn regs input ≡ Some (Skip skip, after) → Takes code input (at + 1 + skip) after path answer
      → Takes code input at regs (at ∷ path) answer

-- the program takes this path on some call data
abbrev pub IsPath : List Insn → List ℕ → Type 0
IsPath code path = (input : CallData) × IsCallData input × ((answer : ℕ) × Takes code input 0 start_regs path answer)

-- no path occurs twice
abbrev pub EachOnce : List (List ℕ) → Type 0
EachOnce paths = (one other : ℕ) (path : List ℕ) → slice_get paths one ≡ Some path → slice_get paths other ≡ Some path → one ≡ other

-- the program has exactly these paths, each listed once
pub record ArePaths (code : List Insn) (paths : List (List ℕ)) : Type 0 where
  pub distinct : EachOnce paths
  pub only_paths : (path : List ℕ) → Contains paths path → IsPath code path
  pub all_paths : (path : List ℕ) → IsPath code path → Contains paths path

-- the number of its paths
abbrev pub HasPaths : List Insn → ℕ → Type 0
HasPaths code count = (paths : List (List ℕ)) × ArePaths code paths × (length paths ≡ count)

-- the program has more paths than this number
abbrev pub HasMorePaths : List Insn → ℕ → Type 0
HasMorePaths code most = (paths : List (List ℕ)) × EachOnce paths × ((path : List ℕ) → Contains paths path → IsPath code path) ×
    (most < length paths)
