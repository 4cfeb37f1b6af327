-- The program of a file, or the line of its refusal.
use Rattle.std.specs.Prelude.{◌≡◌, ◌≢◌, ℕ, List, Result, Ok, Err}
use Rattle.unit_inputs.specs.host_io.Files.{Files}
use Rattle.filter_check.specs.bpf_code.declared.machine.Insn.{Insn}
use Rattle.filter_check.specs.filter_lines.Reading.{Reads}
use Rattle.filter_check.specs.declared.filter_lines.error.FileError.{FileError}
use Rattle.filter_check.specs.declared.filter_lines.error.FileError.TheVariants.{Memory}
use Rattle.unit_inputs.specs.FileRefusals.{bytes_in}
use Rattle.check_command.specs.Causes.{file_line}

-- by the bytes of the file: one instruction of sixteen lower-case hex digits a line, of which seccomp(2) takes the program
pub data IsProgramOf (path bytes : List ℕ) : Result (List Insn) (List ℕ) → Type 0 where
  no_program : (error : FileError) → error ≢ Memory → Reads bytes (Err error) → IsProgramOf path bytes (Err (file_line path error))
  a_program : (code : List Insn) → Reads bytes (Ok code) → IsProgramOf path bytes (Ok code)

-- over some files: the file is there, and is not too large
pub data IsProgramIn (files : Files) (path : List ℕ) : Result (List Insn) (List ℕ) → Type 0 where
  no_file : (line : List ℕ) → bytes_in files path ≡ Err line → IsProgramIn files path (Err line)
  of_file : (bytes : List ℕ) (said : Result (List Insn) (List ℕ)) → bytes_in files path ≡ Ok bytes → IsProgramOf path bytes said
      → IsProgramIn files path said
