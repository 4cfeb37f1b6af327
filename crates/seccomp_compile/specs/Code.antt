-- The instructions of compiled programs.
use Rattle.std.specs.Prelude.{◌≡◌, ℕ, ◌+◌, ◌-◌, ◌*◌, ◌^◌, ◌==◌, if◌then◌else◌, List, [], ◌∷◌}
use Rattle.call_rules.specs.bpf_code.declared.machine.Insn.{Insn}
use Rattle.call_rules.specs.bpf_code.Codes as bpf
use Rattle.call_rules.specs.Action.{word_of}
use Rattle.call_rules.specs.declared.actions.Action.{Action}
use Rattle.seccomp_compile.specs.declared.tree.Comparison.{Comparison}
use Rattle.seccomp_compile.specs.declared.tree.Comparison.TheVariants.{AtLeast, Equal, AnyBit}

-- the offset in struct seccomp_data of seccomp(2) of the low word of an argument, which has eight bytes
abbrev pub arg_offset : ℕ → ℕ
arg_offset arg = 16 + 8 * arg

-- and that of its high word
abbrev pub high_offset : ℕ → ℕ
high_offset arg = 20 + 8 * arg

-- the mask under which a word is itself
abbrev pub whole_word : ℕ
whole_word = 2 ^ 32 - 1

-- A = the word of the call data at this offset
abbrev pub load : ℕ → Insn
load offset = record { code = bpf.ld + bpf.w + bpf.abs; jt = 0; jf = 0; k = offset }

-- A = A and the mask
abbrev pub mask_by : ℕ → Insn
mask_by mask = record { code = bpf.alu + bpf.and + bpf.k; jt = 0; jf = 0; k = mask }

-- skips so many instructions
abbrev pub skip : ℕ → Insn
skip count = record { code = bpf.jmp + bpf.ja; jt = 0; jf = 0; k = count }

abbrev pub code_of : Comparison → ℕ
code_of AtLeast = bpf.jmp + bpf.jge + bpf.k
code_of Equal = bpf.jmp + bpf.jeq + bpf.k
code_of AnyBit = bpf.jmp + bpf.jset + bpf.k

-- skips so many instructions where the comparison of A with the number holds, and so many where it fails
abbrev pub compare : Comparison → ℕ → ℕ → ℕ → Insn
compare comparison number hit miss = record { code = code_of comparison; jt = hit; jf = miss; k = number }

-- ends with the action
abbrev pub end : Action → Insn
end action = record { code = bpf.ret + bpf.k; jt = 0; jf = 0; k = word_of action }

-- the instruction ends with the action
pub record IsEnd (action : Action) (insn : Insn) : Type 0 where
  pub code : insn.code ≡ bpf.ret + bpf.k
  pub word : insn.k ≡ word_of action

-- A = the word at this offset and this mask
abbrev pub look_code : ℕ → ℕ → List Insn
look_code offset mask = if mask == whole_word then load offset ∷ [] else load offset ∷ mask_by mask ∷ []
