-- The printed calls that are read again as themselves.
use Rattle.std.specs.Prelude.{◌≡◌, ◌⊎◌, ◌<◌, ◌≤◌, ◌==◌, ℕ, true, false, Some, List, length, slice_get, Ok, IfSome, IsSome}
use Rattle.std.specs.List.{All, AllByRecursion}
use Rattle.std.specs.Str.{is_utf8}
use Rattle.kernel_model.specs.abs_path.Paths.{text_of}
use Rattle.kernel_model.specs.text_forms.line_text.Lines.{words_of}
use Rattle.kernel_model.specs.call_table.Lookups.{numbered, AreOnce}
use Rattle.kernel_model.specs.call_table.Names.{is_name}
use Rattle.kernel_model.specs.call_table.Kernels.{known_by}
use Rattle.kernel_model.specs.call_table.Reading.{table_of}
use Rattle.kernel_model.specs.call_table.declared.call_names.kernel.Kernel.{Kernel}
use Rattle.kernel_model.specs.call_table.Table.{Table, abi_at, calls_in}
use Rattle.kernel_model.specs.call_table.declared.listed.CallLine.{CallLine}
use Rattle.kernel_model.specs.call_table.call_words.Words.{HasOtherName}
use Rattle.kernel_model.specs.kernel_calls.Calls.{IsCall}
use Rattle.kernel_model.specs.declared.kernel_calls.call.Call.{Call}
use Rattle.kernel_model.specs.declared.kernel_calls.payload.Payload.{Payload}
use Rattle.kernel_model.specs.declared.kernel_calls.payload.Payload.TheVariants.{Nothing, OnePath, TwoPaths, PathFlags, Sets, Ids, Number, Code, Ring}
use Rattle.kernel_model.specs.declared.kernel_calls.request.Request.{Request}
use Rattle.kernel_model.specs.declared.kernel_calls.request.Request.TheVariants.{Stat, Open, Socket, Mode}
use Rattle.script_text.specs.Printed.{call_text, has_form}
use Rattle.script_text.specs.Reading.{call_of, form_of_name}

-- a word that is between spaces
pub record IsWord (word : List ℕ) : Type 0 where
  pub some : (length word == 0) ≡ false
  pub plain : AllByRecursion (λ byte. (byte == 32) ≡ false) word

-- each call has a name of the letters of names, and the name of a second ABI is a word
pub record AreNamed (table : Table) : Type 0 where
  pub calls : (abi at : ℕ) (line : CallLine) → slice_get (calls_in table abi) at ≡ Some line → is_name line.name ≡ true
  pub second : IfSome table.second (λ second. IsWord second.name)

-- bytes that are a text
pub record IsText (bytes : List ℕ) : Type 0 where
  pub utf8 : is_utf8 bytes ≡ true
  pub small : All (λ byte. byte < 256) bytes

-- the path of a request to a ring, if it has one, is a text
abbrev pub RequestHasText : Request → Type 0
RequestHasText (Stat path) = IsText (text_of path)
RequestHasText (Open path flags) = IsText (text_of path)
RequestHasText (Socket family) = Unit {0}
RequestHasText (Mode mode) = Unit {0}

-- its paths are texts
abbrev pub HasTexts : Payload → Type 0
HasTexts Nothing = Unit {0}
HasTexts (OnePath path) = IsText (text_of path)
HasTexts (TwoPaths source target) = IsText (text_of source) × IsText (text_of target)
HasTexts (PathFlags path flags) = IsText (text_of path)
HasTexts (Sets permitted effective inheritable) = Unit {0}
HasTexts (Ids ids) = Unit {0}
HasTexts (Number number) = Unit {0}
HasTexts (Code bytes) = Unit {0}
HasTexts (Ring request) = RequestHasText request

-- the call's ABI has its number, and the payload is of the form of the name that it gives it
pub record HasItsForm (table : Table) (call : Call) : Type 0 where
  pub line : CallLine
  pub in_table : numbered call.nr (calls_in table call.abi) ≡ Some line
  pub form : has_form (form_of_name line.kernel line.name) call.payload ≡ true

-- a call that can be written: it has a process and an ABI of the table, and carries nothing, or what its name carries
pub record IsWritten (table : Table) (call : Call) : Type 0 where
  pub pid : 1 ≤ call.pid
  pub abi : IsSome (abi_at table call.abi)
  pub payload : (call.payload ≡ Nothing) ⊎ HasItsForm table call

-- a call as a program holds it
pub record IsHeld (call : Call) : Type 0 where
  pub fits : IsCall call
  pub texts : HasTexts call.payload

-- a printed call that can be written has one reading, the call itself. The names of the ABIs, and the names and numbers of the calls of
-- its ABI, occur once and are words
abbrev pub ReadsBack : Type 0
ReadsBack = (table : Table) (call : Call) → HasOtherName table → AreOnce (calls_in table call.abi) → AreNamed table → IsHeld call
    → IsWritten table call
    → call_of table (words_of (call_text table call)) ≡ Ok call

-- the same of a text that was made of a call
abbrev pub IsReadAs : Table → Call → List ℕ → Type 0
IsReadAs table call text = AreNamed table → IsWritten table call → call_of table (words_of text) ≡ Ok call

-- the calls and the ABIs of a table that was read have such names
abbrev pub TablesAreNamed : Type 0
TablesAreNamed = (bytes : List ℕ) (table : Table) → table_of bytes ≡ Ok table → AreNamed table

-- and so do they when a kernel reads the names
abbrev pub KnownTablesAreNamed : Type 0
KnownTablesAreNamed = (kernel : Kernel) (table : Table) → AreNamed table → AreNamed (known_by kernel table)
