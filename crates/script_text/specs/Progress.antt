-- The answers of the steps of the reader.
use Rattle.std.specs.Prelude.{◌≡◌, ℕ, ◌<◌, ◌≤◌, Option, Some, None, Result, Ok, Err, List, [], ◌∷◌, ◌++◌, length, map, Vec}
use Rattle.std.specs.declared.alloc.Global.{Global}
use Rattle.kernel_model.specs.declared.kernel_calls.call.Call.{Call}
use Rattle.kernel_model.specs.text_forms.line_text.Lines.{Line}
use Rattle.kernel_model.specs.call_table.Table.{Table}
use Rattle.script_text.specs.Payloads.{Taken}
use Rattle.script_text.specs.Scripts.{most_calls, fault_of, calls_of}
use Rattle.script_text.specs.declared.payloads.TakenPayload.{TakenPayload}
use Rattle.script_text.specs.declared.error.ScriptCause.{ScriptCause}
use Rattle.script_text.specs.declared.error.ScriptCause.TheVariants as cause
use Rattle.script_text.specs.declared.line_fault.LineFault.{LineFault}
use Rattle.script_text.specs.declared.line_fault.LineFault.TheVariants.{Faulty, NoMemory}
use Rattle.script_text.specs.declared.error.ScriptError.{ScriptError}
use Rattle.script_text.specs.declared.error.ScriptError.TheVariants.{NotText, Line as AtLine, TooMany, Memory}

-- the wanted value; or this cause if there is no such value; or memory ran out
abbrev pub ReadsAs : {A : Type 0} → Option A → ScriptCause → Result A LineFault → Type 0
ReadsAs wanted cause (Ok made) = wanted ≡ Some made
ReadsAs wanted cause (Err NoMemory) = Unit {0}
ReadsAs wanted cause (Err (Faulty found)) = (wanted ≡ None) × (found ≡ cause)

-- the same of a list
abbrev pub ReadsList : Option (List ℕ) → ScriptCause → Result (Vec ℕ Global) LineFault → Type 0
ReadsList wanted cause (Ok made) = wanted ≡ Some (made.items)
ReadsList wanted cause (Err NoMemory) = Unit {0}
ReadsList wanted cause (Err (Faulty found)) = (wanted ≡ None) × (found ≡ cause)

-- a payload, and the words after it
abbrev pub taken_view : TakenPayload → Taken
taken_view taken = (taken.payload, map (λ word. word.now) taken.rest.now)

abbrev pub TakesPayload : Option Taken → Result TakenPayload LineFault → Type 0
TakesPayload wanted (Ok taken) = wanted ≡ Some (taken_view taken)
TakesPayload wanted (Err NoMemory) = Unit {0}
TakesPayload wanted (Err (Faulty found)) = (wanted ≡ None) × (found ≡ cause.Payload)

-- the call that is wanted, or its cause; unless memory ran out
abbrev pub ReadsCall : Result Call ScriptCause → Result Call LineFault → Type 0
ReadsCall wanted (Ok call) = wanted ≡ Ok call
ReadsCall wanted (Err NoMemory) = Unit {0}
ReadsCall wanted (Err (Faulty found)) = wanted ≡ Err found

-- the script that is wanted, or its refusal; unless memory ran out
abbrev pub ReadsScript : Result (List Call) ScriptError → Result (List Call) ScriptError → Type 0
ReadsScript wanted (Ok calls) = wanted ≡ Ok calls
ReadsScript wanted (Err Memory) = Unit {0}
ReadsScript wanted (Err NotText) = wanted ≡ Err NotText
ReadsScript wanted (Err (AtLine number cause)) = wanted ≡ Err (AtLine number cause)
ReadsScript wanted (Err TooMany) = wanted ≡ Err TooMany

-- the call of the line of this number, or the refusal with its cause; unless memory ran out
abbrev pub ReadsLine : ℕ → Result Call ScriptCause → Result Call ScriptError → Type 0
ReadsLine number wanted (Ok call) = wanted ≡ Ok call
ReadsLine number wanted (Err Memory) = Unit {0}
ReadsLine number wanted (Err NotText) = ⊥
ReadsLine number wanted (Err (AtLine line cause)) = (line ≡ number) × (wanted ≡ Err cause)
ReadsLine number wanted (Err TooMany) = ⊥

-- what a reader has after some lines without a fault: a call of each
pub record HasRead (table : Table) (lines : List Line) (made : List Call) : Type 0 where
  pub faultless : fault_of table lines ≡ None
  pub read : made ≡ calls_of table lines
  pub one_each : length made ≡ length lines

-- one call more, where there may be one more; unless memory ran out
abbrev pub Adds : List Call → Call → List Call → Result (Unit {0}) ScriptError → Type 0
Adds old call new (Ok done) = (length old < most_calls) × (new ≡ old ++ call ∷ [])
Adds old call new (Err Memory) = Unit {0}
Adds old call new (Err NotText) = ⊥
Adds old call new (Err (AtLine line cause)) = ⊥
Adds old call new (Err TooMany) = most_calls ≤ length old
