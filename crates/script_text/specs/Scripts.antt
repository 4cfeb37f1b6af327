-- The calls of a script, or why it is refused.
use Rattle.std.specs.Prelude.{ℕ, nat_lt, cond, Option, Some, None, Result, Ok, Err, List, slice_get}
use Rattle.std.specs.List.{filter_map, enumerate_from}
use Rattle.std.specs.Result.{result_ok}
use Rattle.kernel_model.specs.text_forms.line_text.Lines.{Line, is_text, lines_of, words_of}
use Rattle.kernel_model.specs.call_table.Table.{Table}
use Rattle.kernel_model.specs.declared.kernel_calls.call.Call.{Call}
use Rattle.script_text.specs.Reading.{call_of}
use Rattle.script_text.specs.declared.error.ScriptCause.{ScriptCause}
use Rattle.script_text.specs.declared.error.ScriptError.{ScriptError}
use Rattle.script_text.specs.declared.error.ScriptError.TheVariants.{NotText, Line as AtLine, TooMany}

abbrev pub most_calls : ℕ
most_calls = 16384

unfoldable pub line_call : Table → Line → Result Call ScriptCause
line_call table line = call_of table (words_of line.text)

abbrev pub fault_by : ℕ → Line → Result Call ScriptCause → Option ScriptError
fault_by at line (Err cause) = Some (AtLine line.number cause)
fault_by at line (Ok call) = cond (nat_lt at most_calls) None (Some TooMany)

-- the fault of a line after so many others that count: its cause, or one call more than there may be
abbrev pub fault_at : Table → ℕ × Line → Option ScriptError
fault_at table place = fault_by place.0 place.1 (line_call table place.1)

-- the first fault of the lines
abbrev pub fault_of : Table → List Line → Option ScriptError
fault_of table lines = slice_get (filter_map (fault_at table) (enumerate_from 0 lines)) 0

-- the calls of the lines
abbrev pub calls_of : Table → List Line → List Call
calls_of table lines = filter_map (λ line. result_ok (line_call table line)) lines

abbrev pub unless_fault : Option ScriptError → List Call → Result (List Call) ScriptError
unless_fault None made = Ok made
unless_fault (Some fault) made = Err fault

abbrev pub script_of_lines : Table → List Line → Result (List Call) ScriptError
script_of_lines table lines = unless_fault (fault_of table lines) (calls_of table lines)

-- what the bytes of a script give, with this table of calls
unfoldable pub script_of : Table → List ℕ → Result (List Call) ScriptError
script_of table bytes = cond (is_text bytes) (script_of_lines table (lines_of bytes)) (Err NotText)
