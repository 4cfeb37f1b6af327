-- The table of calls.txt, or the line of its refusal.
use Rattle.std.specs.Prelude.{ℕ, List, [], ◌++◌, codes, Result}
use Rattle.std.specs.Fmt.{decimal}
use Rattle.exec_settings.specs.host_io.Files.{Files}
use Rattle.exec_settings.specs.text_forms.Escaped.{escaped_word}
use Rattle.exec_settings.specs.call_table.Causes.{cause_text}
use Rattle.exec_settings.specs.call_table.Reading.{table_of}
use Rattle.exec_settings.specs.call_table.Table.{Table}
use Rattle.exec_settings.specs.call_table.declared.causes.CallsCause.{CallsCause}
use Rattle.exec_settings.specs.call_table.declared.causes.CallsError.{CallsError}
use Rattle.exec_settings.specs.call_table.declared.causes.CallsError.TheVariants.{NotText, Line, NoAbi, NoCall, Memory}
use Rattle.unit_inputs.specs.command_answers.ReadFiles.{table_path}
use Rattle.unit_inputs.specs.command_answers.Refusals.{refused_line}
use Rattle.unit_inputs.specs.FileRefusals.{bytes_in}
use Rattle.unit_inputs.specs.command_answers.CommandErrors.{and_then, or_line}

-- the first faulty line, from 1, and its cause
abbrev pub line_cause : ℕ → CallsCause → List ℕ
line_cause line cause = codes "line " ++ decimal line ++ codes " " ++ cause_text cause

-- the first call of every launch that the table lacks
abbrev pub no_call : List ℕ → List ℕ
no_call name = codes "no-call " ++ escaped_word name

-- the cause of the refusal of calls.txt; `Memory` has no cause to print
abbrev pub calls_cause : CallsError → List ℕ
calls_cause NotText = codes "not-text"
calls_cause (Line line cause) = line_cause line cause
calls_cause NoAbi = codes "no-abi"
calls_cause (NoCall name) = no_call name
calls_cause Memory = []

abbrev pub calls_line : CallsError → List ℕ
calls_line error = refused_line table_path (calls_cause error)

-- the table of these bytes, or the line of the refusal
abbrev pub calls_said : List ℕ → Result Table (List ℕ)
calls_said bytes = or_line calls_line (table_of bytes)

-- the table of calls.txt over these files, or the line of the refusal
abbrev pub calls_in : Files → Result Table (List ℕ)
calls_in files = and_then (bytes_in files table_path) calls_said
