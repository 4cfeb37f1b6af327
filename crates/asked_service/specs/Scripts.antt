-- The script of a path, or the line of its refusal.
use Rattle.std.specs.Prelude.{ℕ, List, [], ◌++◌, codes, Result}
use Rattle.std.specs.Fmt.{decimal}
use Rattle.plan_command.specs.host_io.Files.{Files}
use Rattle.judge.specs.call_table.Table.{Table}
use Rattle.judge.specs.kernel_model.declared.kernel_calls.call.Call.{Call}
use Rattle.report_text.specs.script_text.Causes.{cause_text}
use Rattle.report_text.specs.script_text.Scripts.{script_of}
use Rattle.report_text.specs.script_text.declared.error.ScriptCause.{ScriptCause}
use Rattle.report_text.specs.script_text.declared.error.ScriptError.{ScriptError}
use Rattle.report_text.specs.script_text.declared.error.ScriptError.TheVariants.{NotText, Line, TooMany, Memory}
use Rattle.plan_command.specs.unit_inputs.command_answers.Refusals.{refused_line}
use Rattle.plan_command.specs.unit_inputs.command_answers.CommandErrors.{and_then, or_line}
use Rattle.plan_command.specs.unit_inputs.FileRefusals.{bytes_in}

-- the first faulty line, from 1, and why
abbrev pub line_cause : ℕ → ScriptCause → List ℕ
line_cause line cause = codes "line " ++ decimal line ++ codes " " ++ cause_text cause

-- why a script is refused; if memory runs out, there is no line
abbrev pub script_cause : ScriptError → List ℕ
script_cause NotText = codes "not-text"
script_cause (Line line cause) = line_cause line cause
script_cause TooMany = codes "too-many"
script_cause Memory = []

abbrev pub script_line : List ℕ → ScriptError → List ℕ
script_line path error = refused_line path (script_cause error)

-- the calls of some bytes, with the calls of a table, or the line
abbrev pub script_said : List ℕ → Table → List ℕ → Result (List Call) (List ℕ)
script_said path table bytes = or_line (script_line path) (script_of table bytes)

-- the script of a path over some files, or the line
abbrev pub script_in : Files → List ℕ → Table → Result (List Call) (List ℕ)
script_in files path table = and_then (bytes_in files path) (script_said path table)
