-- The lines of files that are refused, and of filters that are not on.
use Rattle.std.specs.Prelude.{ℕ, List, [], ◌++◌, codes}
use Rattle.std.specs.Fmt.{decimal}
use Rattle.unit_inputs.specs.text_forms.Escaped.{escaped_word}
use Rattle.filter_check.specs.bpf_code.declared.program.ProgramError.{ProgramError}
use Rattle.filter_check.specs.bpf_code.declared.program.ProgramError.TheVariants as program
use Rattle.unit_inputs.specs.command_answers.Refusals.{refused_line}
use Rattle.filter_check.specs.declared.outcome.CheckError.{CheckError}
use Rattle.filter_check.specs.declared.outcome.CheckError.TheVariants.{Form, TooManyPaths, Memory}
use Rattle.filter_check.specs.declared.filter_lines.error.FileError.{FileError}
use Rattle.filter_check.specs.declared.filter_lines.error.FileError.TheVariants as file

-- a cause, and the instruction, from 0
abbrev pub placed : List ℕ → ℕ → List ℕ
placed cause place = codes "program " ++ (cause ++ (codes " " ++ decimal place))

-- why instructions are not a program. Lines are whole instructions, so a length is never the reason. If memory runs out, there
-- is no line
abbrev pub program_cause : ProgramError → List ℕ
program_cause program.Length = codes "program length"
program_cause program.Empty = codes "program empty"
program_cause program.TooLong = codes "program too-long"
program_cause (program.Opcode place) = placed (codes "opcode") place
program_cause (program.Load place) = placed (codes "load") place
program_cause (program.Scratch place) = placed (codes "scratch") place
program_cause (program.Shift place) = placed (codes "shift") place
program_cause (program.DivZero place) = placed (codes "div-zero") place
program_cause (program.Jump place) = placed (codes "jump") place
program_cause program.NoReturn = codes "program no-return"
program_cause (program.Unstored place) = placed (codes "unstored") place
program_cause program.Memory = []

-- why a file is no program: its text, its first line that is no instruction, from 1, or its instructions
abbrev pub file_cause : FileError → List ℕ
file_cause file.NotText = codes "not-text"
file_cause (file.Digits line) = codes "line " ++ (decimal line ++ codes " digits")
file_cause (file.Program error) = program_cause error
file_cause file.Memory = []

abbrev pub file_line : List ℕ → FileError → List ℕ
file_line path error = refused_line path (file_cause error)

-- why a program is not compared
abbrev pub check_cause : CheckError → List ℕ
check_cause (Form place) = codes "form " ++ decimal place
check_cause TooManyPaths = codes "too-many-paths"
check_cause Memory = []

abbrev pub check_line : List ℕ → CheckError → List ℕ
check_line path error = refused_line path (check_cause error)

-- no filter of this name is on
abbrev pub no_filter_line : List ℕ → List ℕ → List ℕ
no_filter_line unit name = refused_line unit (codes "no-filter " ++ escaped_word name)
