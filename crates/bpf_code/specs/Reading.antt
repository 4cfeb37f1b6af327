-- Bytes are a program, or are refused.
use Rattle.std.specs.Prelude.{◌≡◌, ℕ, ◌*◌, ◌/◌, ◌%◌, ◌^◌, ◌<◌, ◌≤◌, ◌⊎◌, true, false, List, [], ◌∷◌, ◌++◌, map, flat_map, length}
use Rattle.std.specs.Prelude.{slice_index, Result, Err}
use Rattle.std.specs.Int.{from_le_bytes, to_le_bytes, w16, w32}
use Rattle.std.specs.Simd.{first_chunks}
use Rattle.linux_numbers.specs.Limits.{bpf_maxinsns}
use Rattle.bpf_code.specs.declared.machine.Insn.{Insn}
use Rattle.bpf_code.specs.declared.program.Fault.{Fault}
use Rattle.bpf_code.specs.declared.program.Fault.TheVariants as fault
use Rattle.bpf_code.specs.declared.program.ProgramError.{ProgramError}
use Rattle.bpf_code.specs.declared.program.ProgramError.TheVariants as error
use Rattle.bpf_code.specs.Accepted.{AreFine, IsFirstFault, ends_in_return, IsFirstUnstored, IsAccepted}

-- struct sock_filter of seccomp(2) in eight bytes, little endian: code in two, jt, jf, k in four
abbrev pub insn_of : List ℕ → Insn
insn_of bytes =
    let byte : ℕ → ℕ = slice_index bytes in
    record {
      code = from_le_bytes w16 (byte 0 ∷ byte 1 ∷ []);
      jt = byte 2;
      jf = byte 3;
      k = from_le_bytes w32 (byte 4 ∷ byte 5 ∷ byte 6 ∷ byte 7 ∷ []);
    }

-- the instructions, eight bytes each
abbrev pub insns_of : List ℕ → List Insn
insns_of bytes = map insn_of (first_chunks 8 (length bytes / 8) bytes)

-- the bytes are whole instructions, at least one and at most 4,096
pub record IsCode (bytes : List ℕ) : Type 0 where
  pub whole : length bytes % 8 ≡ 0
  pub some : 0 < length bytes
  pub short : length bytes ≤ 8 * bpf_maxinsns

-- the bytes are this program
pub record Accepts (bytes : List ℕ) (program : List Insn) : Type 0 where
  pub whole : length bytes % 8 ≡ 0
  pub insns : program ≡ insns_of bytes
  pub accepted : IsAccepted program

-- the numbers fit the fields of struct sock_filter
pub record Fits (insn : Insn) : Type 0 where
  pub code : insn.code < 2 ^ 16
  pub jt : insn.jt < 2 ^ 8
  pub jf : insn.jf < 2 ^ 8
  pub k : insn.k < 2 ^ 32

-- the bytes of an instruction, little endian, its numbers cut to their sizes
abbrev pub bytes_of_insn : Insn → List ℕ
bytes_of_insn insn = to_le_bytes w16 insn.code ++ insn.jt % 2 ^ 8 ∷ insn.jf % 2 ^ 8 ∷ to_le_bytes w32 insn.k

-- the bytes of instructions
abbrev pub bytes_of : List Insn → List ℕ
bytes_of code = flat_map bytes_of_insn code

-- seccomp(2) accepts the instructions: their bytes are accepted as these instructions, so their numbers fit too
abbrev pub IsProgram : List Insn → Type 0
IsProgram code = Accepts (bytes_of code) code

-- the refusal for a fault of the instruction at a place
abbrev pub refusal_of : Fault → ℕ → ProgramError
refusal_of fault.Opcode at = error.Opcode at
refusal_of fault.Load at = error.Load at
refusal_of fault.Scratch at = error.Scratch at
refusal_of fault.Shift at = error.Shift at
refusal_of fault.DivZero at = error.DivZero at
refusal_of fault.Jump at = error.Jump at

-- the instructions are refused by the first check that fails: first the faults of instructions, in their order; then
-- whether the last one ends the program; then the loads of scratch words
pub data RefusesCode (code : List Insn) : ProgramError → Type 0 where
  faulty : (at : ℕ) (fault : Fault) → IsFirstFault code at fault → RefusesCode code (refusal_of fault at)
  no_return : AreFine code → ends_in_return code ≡ false → RefusesCode code error.NoReturn
  unstored : (at : ℕ) → AreFine code → ends_in_return code ≡ true → IsFirstUnstored code at → RefusesCode code (error.Unstored at)

-- the bytes are refused for their length, or for their instructions
pub data Refuses (bytes : List ℕ) : ProgramError → Type 0 where
  not_whole : ¬ (length bytes % 8 ≡ 0) → Refuses bytes error.Length
  empty : length bytes ≡ 0 → Refuses bytes error.Empty
  too_long : length bytes % 8 ≡ 0 → 8 * bpf_maxinsns < length bytes → Refuses bytes error.TooLong
  for_code : (error : ProgramError) → IsCode bytes → RefusesCode (insns_of bytes) error → Refuses bytes error

-- the fact holds of a refusal, unless memory ran out
abbrev pub UnlessMemory : (ProgramError → Type 0) → ProgramError → Type 0
UnlessMemory fact refusal = ¬ (refusal ≡ error.Memory) → fact refusal

-- the answer is this, or memory ran out
abbrev pub IsOrMemory : Result (List Insn) ProgramError → Result (List Insn) ProgramError → Type 0
IsOrMemory result answer = (result ≡ answer) ⊎ (result ≡ Err error.Memory)
