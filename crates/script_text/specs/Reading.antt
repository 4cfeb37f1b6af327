-- The call of a line of a script, by its words: `PID NAME [PAYLOAD] [WORD ..]`.
use Rattle.std.specs.Prelude.{ℕ, nat_le, cond, Option, Some, None, option_and_then, Result, Ok, Err, List, [], ◌∷◌, length}
use Rattle.std.specs.Option.{option_map}
use Rattle.kernel_model.specs.call_table.call_names.Known.{known_call, form_of}
use Rattle.kernel_model.specs.call_table.declared.call_names.kernel.Kernel.{Kernel}
use Rattle.kernel_model.specs.call_table.declared.call_names.known.KnownCall.{KnownCall}
use Rattle.kernel_model.specs.call_table.declared.call_names.known.KnownCall.TheVariants.{Modelled, Absent}
use Rattle.kernel_model.specs.call_table.declared.call_names.payload.PayloadForm.{PayloadForm}
use Rattle.kernel_model.specs.call_table.declared.call_names.payload.PayloadForm.TheVariants as form
use Rattle.kernel_model.specs.call_table.Lookups.{named}
use Rattle.kernel_model.specs.call_table.Numbers.{number_of}
use Rattle.kernel_model.specs.call_table.Table.{Table, calls_in}
use Rattle.kernel_model.specs.call_table.declared.listed.CallLine.{CallLine}
use Rattle.kernel_model.specs.call_table.call_words.Words.{spelled}
use Rattle.kernel_model.specs.declared.kernel_calls.call.Call.{Call}
use Rattle.kernel_model.specs.declared.kernel_calls.payload.Payload.{Payload}
use Rattle.script_text.specs.Marks.{behind_hash}
use Rattle.script_text.specs.Numbers.{pid_of, numbers_of, six_words}
use Rattle.script_text.specs.Payloads.{Taken, payload_of}
use Rattle.script_text.specs.declared.error.ScriptCause.{ScriptCause}
use Rattle.script_text.specs.declared.error.ScriptCause.TheVariants as cause

-- a call that a line names, by its ABI, and what it carries
pub record Named : Type 0 where
  pub abi : ℕ
  pub nr : ℕ
  pub form : PayloadForm

abbrev pub form_of_known : Option KnownCall → PayloadForm
form_of_known None = form.Nothing
form_of_known (Some Absent) = form.Nothing
form_of_known (Some (Modelled rule)) = form_of rule

-- what calls of this name carry beside their words, in a kernel
abbrev pub form_of_name : Kernel → List ℕ → PayloadForm
form_of_name kernel name = form_of_known (known_call kernel name)

abbrev pub bare_number : ℕ → ℕ → Named
bare_number abi nr = record { abi = abi; nr = nr; form = form.Nothing }

abbrev pub call_named : ℕ → List ℕ → CallLine → Named
call_named abi name line = record { abi = abi; nr = line.number; form = form_of_name line.kernel name }

abbrev pub named_by : Table → ℕ → List ℕ → Option (List ℕ) → Option Named
named_by table abi word None = option_map (call_named abi word) (named word (calls_in table abi))
named_by table abi word (Some digits) = option_map (bare_number abi) (number_of digits)

-- a name is a call of the ABI; `#NUMBER` is any call, without a payload
abbrev pub named_in : Table → ℕ → List ℕ → Option Named
named_in table abi word = named_by table abi word (behind_hash word)

-- NAME is of the native ABI, or of the ABI before its last colon
unfoldable pub named_call : Table → List ℕ → Option Named
named_call table word = option_and_then (λ call. named_in table call.0 call.1) (spelled table word)

abbrev pub with_numbers : ℕ → Named → Payload → Option (List ℕ) → Result Call ScriptCause
with_numbers pid named payload None = Err cause.Number
with_numbers pid named payload (Some numbers) =
    cond (nat_le (length numbers) 6)
    (Ok (record { pid = pid; abi = named.abi; nr = named.nr; args = six_words numbers; payload = payload })) (Err cause.Words)

abbrev pub with_payload : ℕ → Named → Option Taken → Result Call ScriptCause
with_payload pid named None = Err cause.Payload
with_payload pid named (Some taken) = with_numbers pid named taken.0 (numbers_of taken.1)

abbrev pub with_name : ℕ → List (List ℕ) → Option Named → Result Call ScriptCause
with_name pid words None = Err cause.Name
with_name pid words (Some named) = with_payload pid named (payload_of named.form words)

abbrev pub with_pid : Table → List (List ℕ) → Option ℕ → Result Call ScriptCause
with_pid table words None = Err cause.Pid
with_pid table [] (Some pid) = Err cause.Words
with_pid table (word ∷ words) (Some pid) = with_name pid words (named_call table word)

-- the call of a line, or the first of its causes
abbrev pub call_of : Table → List (List ℕ) → Result Call ScriptCause
call_of table [] = Err cause.Pid
call_of table (word ∷ words) = with_pid table words (pid_of word)
