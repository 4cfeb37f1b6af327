-- What a script writes for the pointers among a call's words.
use Rattle.std.specs.Prelude.{ℕ, ◌==◌, ◌&&◌, ◌%◌, ◌^◌, not, nat_lt, cond, if◌then◌else◌, Bool, Option, Some, None, option_and_then, is_none}
use Rattle.std.specs.Prelude.{List, [], ◌∷◌, length, codes}
use Rattle.std.specs.Option.{option_map}
use Rattle.std.specs.Result.{result_ok}
use Rattle.std.specs.List.{list_all}
use Rattle.std.specs.Str.{bytes_eq}
use Rattle.kernel_model.specs.abs_path.Paths.{Path, parts_of}
use Rattle.kernel_model.specs.abs_path.Read.{fault_of as path_fault}
use Rattle.kernel_model.specs.call_table.declared.call_names.payload.PayloadForm.{PayloadForm}
use Rattle.kernel_model.specs.call_table.declared.call_names.payload.PayloadForm.TheVariants as form
use Rattle.kernel_model.specs.call_table.Numbers.{is_lower_hex, number_of}
use Rattle.hex.specs.Hex.{decode_of}
use Rattle.kernel_model.specs.declared.kernel_calls.payload.Payload.{Payload}
use Rattle.kernel_model.specs.declared.kernel_calls.payload.Payload.TheVariants.{Nothing, OnePath, TwoPaths, PathFlags, Sets, Ids, Number, Code, Ring}
use Rattle.kernel_model.specs.declared.kernel_calls.request.Request.{Request}
use Rattle.kernel_model.specs.declared.kernel_calls.request.Request.TheVariants.{Stat, Open, Socket, Mode}
use Rattle.kernel_model.specs.text_forms.Numbers.{number_value}
use Rattle.script_text.specs.Escapes.{escaped_text}
use Rattle.script_text.specs.Marks.{between_brackets, between_commas}
use Rattle.script_text.specs.Numbers.{all_read}

abbrev pub faultless_path : List ℕ → Option Path
faultless_path text = cond (is_none (path_fault text)) (Some (parts_of text)) None

-- a path, as an escaped word
unfoldable pub path_of : List ℕ → Option Path
path_of word = option_and_then faultless_path (escaped_text word)

abbrev pub below_capabilities : ℕ → Option ℕ
below_capabilities number = if nat_lt number (2 ^ 41) then Some number else None

-- a set of capabilities, as the number of its bits (capabilities(7))
unfoldable pub set_of : List ℕ → Option ℕ
set_of word = option_and_then below_capabilities (number_value word)

-- ids of groups in brackets, with commas between them: each decimal and below 2^32 (setgroups(2))
unfoldable pub ids_of : List ℕ → Option (List ℕ)
ids_of word = option_and_then (λ text. all_read number_of (between_commas text)) (between_brackets word)

-- sixteen digits an instruction, and one instruction at least, in lower case
abbrev pub is_code : List ℕ → Bool
is_code word = not (length word == 0) && (length word % 16 == 0 && list_all is_lower_hex word)

-- the bytes of a program in hexadecimal; `-` has none (seccomp(2))
unfoldable pub code_of : List ℕ → Option (List ℕ)
code_of word = cond (bytes_eq word (codes "-")) (Some []) (cond (is_code word) (result_ok (decode_of word)) None)

-- what a payload is read as, and the words after it
abbrev pub Taken : Type 0
Taken = Payload × List (List ℕ)

abbrev pub with_words : List (List ℕ) → Payload → Taken
with_words words payload = (payload, words)

abbrev pub two_paths : List ℕ → List ℕ → Option Payload
two_paths source target = option_and_then (λ from. option_map (λ to. TwoPaths from to) (path_of target)) (path_of source)

abbrev pub path_flags : List ℕ → List ℕ → Option Payload
path_flags path flags = option_and_then (λ at. option_map (λ bits. PathFlags at bits) (number_of flags)) (path_of path)

abbrev pub three_sets : List ℕ → List ℕ → List ℕ → Option Payload
three_sets permitted effective inheritable =
    option_and_then (λ p. option_and_then (λ e. option_map (λ i. Sets p e i) (set_of inheritable)) (set_of effective)) (set_of permitted)

-- a request to a ring, by the word of its kind: `stat PATH`, `open PATH FLAGS`, `socket FAMILY` and `mode MODE`
abbrev pub stat_taken : List (List ℕ) → Option Taken
stat_taken (path ∷ words) = option_map (λ at. (Ring (Stat at), words)) (path_of path)
stat_taken [] = None

abbrev pub open_request : List ℕ → List ℕ → Option Payload
open_request path flags = option_and_then (λ at. option_map (λ bits. Ring (Open at bits)) (number_of flags)) (path_of path)

abbrev pub open_taken : List (List ℕ) → Option Taken
open_taken (path ∷ flags ∷ words) = option_map (with_words words) (open_request path flags)
open_taken _ = None

abbrev pub socket_taken : List (List ℕ) → Option Taken
socket_taken (word ∷ words) = option_map (λ family. (Ring (Socket family), words)) (number_of word)
socket_taken [] = None

abbrev pub mode_taken : List (List ℕ) → Option Taken
mode_taken (word ∷ words) = option_map (λ mode. (Ring (Mode mode), words)) (number_of word)
mode_taken [] = None

abbrev pub request_taken : List ℕ → List (List ℕ) → Option Taken
request_taken kind words =
    cond (bytes_eq kind (codes "stat")) (stat_taken words)
    (cond (bytes_eq kind (codes "open")) (open_taken words)
    (cond (bytes_eq kind (codes "socket")) (socket_taken words)
    (cond (bytes_eq kind (codes "mode")) (mode_taken words) None)))

-- the payload of a form at the front of the words of a line, and the words after it; nothing where it is missing or not of its form
abbrev pub payload_of : PayloadForm → List (List ℕ) → Option Taken
payload_of form.Nothing words = Some (Nothing, words)
payload_of form.OnePath (word ∷ words) = option_map (λ path. (OnePath path, words)) (path_of word)
payload_of form.TwoPaths (source ∷ target ∷ words) = option_map (with_words words) (two_paths source target)
payload_of form.PathFlags (path ∷ flags ∷ words) = option_map (with_words words) (path_flags path flags)
payload_of form.Sets (permitted ∷ effective ∷ inheritable ∷ words) =
    option_map (with_words words) (three_sets permitted effective inheritable)
payload_of form.Ids (word ∷ words) = option_map (λ ids. (Ids ids, words)) (ids_of word)
payload_of form.Number (word ∷ words) = option_map (λ number. (Number number, words)) (number_of word)
payload_of form.Program (word ∷ words) = option_map (λ bytes. (Code bytes, words)) (code_of word)
payload_of form.Request (kind ∷ words) = request_taken kind words
payload_of _ _ = None
