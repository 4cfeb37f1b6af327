-- The program in the bytes of a file, or the reason why they are not a program.
use Rattle.std.specs.Prelude.{◌≡◌, ◌≢◌, ℕ, true, false, List, Result, Ok, Err}
use Rattle.seccomp_compile.specs.bpf_code.Reading.{Accepts, Refuses}
use Rattle.seccomp_compile.specs.bpf_code.declared.machine.Insn.{Insn}
use Rattle.seccomp_compile.specs.bpf_code.declared.program.ProgramError.{ProgramError}
use Rattle.seccomp_compile.specs.bpf_code.declared.program.ProgramError.TheVariants as program
use Rattle.seccomp_compile.specs.text_forms.line_text.Lines.{is_text}
use Rattle.filter_check.specs.filter_lines.Lines.{AreLines, IsFirstOther, lines_in}
use Rattle.filter_check.specs.declared.filter_lines.error.FileError.{FileError}
use Rattle.filter_check.specs.declared.filter_lines.error.FileError.TheVariants.{NotText, Digits, Program, Memory}

-- the result of reading the bytes of the instructions; memory can run out for any of them
pub data ReadsCode (code : List ℕ) : Result (List Insn) FileError → Type 0 where
  no_program : (error : ProgramError) → error ≢ program.Memory → Refuses code error → ReadsCode code (Err (Program error))
  is_program : (insns : List Insn) → Accepts code insns → ReadsCode code (Ok insns)
  no_memory : ReadsCode code (Err Memory)

-- the result of reading the lines; an error names the first line that is not an instruction before anything of the program is read
pub data ReadsLines (lines : List (List ℕ)) : Result (List Insn) FileError → Type 0 where
  other_line : (number : ℕ) → IsFirstOther lines number → ReadsLines lines (Err (Digits number))
  code_lines : (code : List ℕ) (said : Result (List Insn) FileError) → AreLines lines code → ReadsCode code said → ReadsLines lines said
  no_memory_lines : ReadsLines lines (Err Memory)

-- the result of reading the bytes, which must be text first
pub data Reads (bytes : List ℕ) : Result (List Insn) FileError → Type 0 where
  not_text : is_text bytes ≡ false → Reads bytes (Err NotText)
  text_lines : (said : Result (List Insn) FileError) → is_text bytes ≡ true → ReadsLines (lines_in bytes) said → Reads bytes said
