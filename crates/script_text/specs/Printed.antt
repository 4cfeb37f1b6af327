-- A call as it is printed, in the form of a line of a script.
use Rattle.std.specs.Prelude.{ℕ, ◌==◌, ◌%◌, cond, Bool, true, false, Option, Some, None, List, [], ◌∷◌, ◌++◌, length, map, codes}
use Rattle.std.specs.List.{flat_map}
use Rattle.std.specs.Fmt.{decimal}
use Rattle.kernel_model.specs.abs_path.Paths.{text_of}
use Rattle.kernel_model.specs.call_table.declared.call_names.payload.PayloadForm.{PayloadForm}
use Rattle.kernel_model.specs.call_table.declared.call_names.payload.PayloadForm.TheVariants as form
use Rattle.kernel_model.specs.call_table.Lookups.{numbered}
use Rattle.kernel_model.specs.call_table.Table.{Table, calls_in}
use Rattle.kernel_model.specs.call_table.declared.listed.CallLine.{CallLine}
use Rattle.kernel_model.specs.call_table.call_words.Words.{spelling}
use Rattle.hex.specs.Hex.{encode_lower}
use Rattle.kernel_model.specs.declared.kernel_calls.call.Call.{Call}
use Rattle.kernel_model.specs.declared.kernel_calls.payload.Payload.{Payload}
use Rattle.kernel_model.specs.declared.kernel_calls.payload.Payload.TheVariants.{Nothing, OnePath, TwoPaths, PathFlags, Sets, Ids, Number, Code, Ring}
use Rattle.kernel_model.specs.declared.kernel_calls.request.Request.{Request}
use Rattle.kernel_model.specs.declared.kernel_calls.request.Request.TheVariants.{Stat, Open, Socket, Mode}
use Rattle.kernel_model.specs.text_forms.Escaped.{escaped_word}
use Rattle.script_text.specs.Numbers.{without_last_zeros}
use Rattle.script_text.specs.Reading.{form_of_name}

-- the payload is of the form; a program is whole instructions, of eight bytes each
abbrev pub has_form : PayloadForm → Payload → Bool
has_form form.Nothing Nothing = true
has_form form.OnePath (OnePath path) = true
has_form form.TwoPaths (TwoPaths source target) = true
has_form form.PathFlags (PathFlags path flags) = true
has_form form.Sets (Sets permitted effective inheritable) = true
has_form form.Ids (Ids ids) = true
has_form form.Number (Number number) = true
has_form form.Program (Code bytes) = length bytes % 8 == 0
has_form form.Request (Ring request) = true
has_form _ _ = false

-- words, each after a separator
abbrev pub each_behind : List ℕ → List (List ℕ) → List ℕ
each_behind separator words = flat_map (λ word. separator ++ word) words

-- numbers in decimal, each after a separator
abbrev pub each_number : List ℕ → List ℕ → List ℕ
each_number separator numbers = flat_map (λ number. separator ++ decimal number) numbers

-- ids in decimal with commas between them
abbrev pub with_commas : List ℕ → List ℕ
with_commas [] = []
with_commas (id ∷ ids) = decimal id ++ each_number (codes ",") ids

abbrev pub ids_word : List ℕ → List ℕ
ids_word ids = codes "[" ++ with_commas ids ++ codes "]"

-- the bytes of a program in hexadecimal; `-` if it has none
abbrev pub code_word : List ℕ → List ℕ
code_word [] = codes "-"
code_word (byte ∷ bytes) = encode_lower (byte ∷ bytes)

-- the words of a request to a ring
abbrev pub request_words : Request → List (List ℕ)
request_words (Stat path) = codes "stat" ∷ escaped_word (text_of path) ∷ []
request_words (Open path flags) = codes "open" ∷ escaped_word (text_of path) ∷ decimal flags ∷ []
request_words (Socket family) = codes "socket" ∷ decimal family ∷ []
request_words (Mode mode) = codes "mode" ∷ decimal mode ∷ []

-- the words of a payload
abbrev pub payload_words : Payload → List (List ℕ)
payload_words Nothing = []
payload_words (OnePath path) = escaped_word (text_of path) ∷ []
payload_words (TwoPaths source target) = escaped_word (text_of source) ∷ escaped_word (text_of target) ∷ []
payload_words (PathFlags path flags) = escaped_word (text_of path) ∷ decimal flags ∷ []
payload_words (Sets permitted effective inheritable) = decimal permitted ∷ decimal effective ∷ decimal inheritable ∷ []
payload_words (Ids ids) = ids_word ids ∷ []
payload_words (Number number) = decimal number ∷ []
payload_words (Code bytes) = code_word bytes ∷ []
payload_words (Ring request) = request_words request

abbrev pub hash_word : ℕ → List ℕ
hash_word nr = codes "#" ++ decimal nr

-- a call by its number
abbrev pub numbered_words : Table → Call → List (List ℕ)
numbered_words table call = spelling table call.abi (hash_word call.nr) ∷ []

-- a call of the table whose payload is of its form is printed by its name with its payload; any other is printed by its number
abbrev pub named_words : Table → Call → Option CallLine → List (List ℕ)
named_words table call None = numbered_words table call
named_words table call (Some line) = cond (has_form (form_of_name line.kernel line.name) call.payload)
    (spelling table call.abi line.name ∷ payload_words call.payload) (numbered_words table call)

-- the words of the call's words, in decimal, without the zeros at the end
abbrev pub argument_words : List ℕ → List (List ℕ)
argument_words args = map decimal (without_last_zeros args)

-- the words of the call itself, by the name that its ABI gives its number
abbrev pub front_words : Table → Call → List (List ℕ)
front_words table call = named_words table call (numbered call.nr (calls_in table call.abi))

-- the words after the number of the process
abbrev pub words_behind_pid : Table → Call → List (List ℕ)
words_behind_pid table call = front_words table call ++ argument_words call.args

-- the text of a call, one space between words
abbrev pub call_text : Table → Call → List ℕ
call_text table call = decimal call.pid ++ each_behind (codes " ") (words_behind_pid table call)
