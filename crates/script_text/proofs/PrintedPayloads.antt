-- Payloads that are printed, read again.
use Rattle.std.proofs.Common.{◌≡◌, ℕ, zero, suc, ◌*◌, ◌/◌, ◌%◌, ◌<◌, ◌^◌, Bool, true, false, cond, List, [], ◌∷◌, ◌++◌, length, map}
use Rattle.std.proofs.Common.{slice_index, Some, None, refl, sym, ap, ◌∙◌, arith, decimal, append-nil}
use Rattle.std.specs.Prelude.{◌==◌, ◌&&◌, not, is_none, codes, option_and_then}
use Rattle.std.specs.Option.{option_map}
use Rattle.std.specs.Result.{result_ok}
use Rattle.std.specs.List.{All, AllByRecursion, list_all, slice_split}
use Rattle.std.specs.Str.{bytes_eq}
use Rattle.std.proofs.lemmas.Bool.{false≢true, and_from, and_parts, eqb-true}
use Rattle.std.proofs.lemmas.Bool.Decides.{nat_tests}
use Rattle.std.proofs.lemmas.List.Elements.{All-from_recursion, recursion_from_All}
use Rattle.std.proofs.lemmas.List.Splits.{slice_split_none, slice_split_at}
use Rattle.kernel_model.specs.abs_path.Paths.{Path, text_of, parts_of}
use Rattle.kernel_model.proofs.OfAbsPath.Reading.{text_no_fault, text_parts}
use Rattle.kernel_model.specs.call_table.declared.call_names.payload.PayloadForm.{PayloadForm}
use Rattle.kernel_model.specs.call_table.declared.call_names.payload.PayloadForm.TheVariants as form
use Rattle.kernel_model.specs.call_table.Numbers.{is_lower_hex, number_of}
use Rattle.hex.specs.Hex.{IsBytes, encode_lower, encode_with, decode_of, lower_digits}
use Rattle.hex.proofs.HexLemmas.{decode_of-encode_lower, length-encode_with}
use Rattle.kernel_model.specs.kernel_calls.Calls.{IsPath, FitsPayload, FitsRequest}
use Rattle.kernel_model.specs.declared.kernel_calls.payload.Payload.{Payload}
use Rattle.kernel_model.specs.declared.kernel_calls.payload.Payload.TheVariants.{Nothing, OnePath, TwoPaths, PathFlags, Sets, Ids, Number, Code, Ring}
use Rattle.kernel_model.specs.declared.kernel_calls.request.Request.{Request}
use Rattle.kernel_model.specs.declared.kernel_calls.request.Request.TheVariants.{Stat, Open, Socket, Mode}
use Rattle.kernel_model.specs.text_forms.Escaped.{escaped_byte, escaped_word, is_coded, upper_digit}
use Rattle.kernel_model.proofs.OfTextForms.Escapes.{escaped_read, no_white}
use Rattle.script_text.specs.Escapes.{text_only, escaped_text}
use Rattle.script_text.specs.Marks.{before, between_commas}
use Rattle.script_text.specs.Numbers.{all_read, with_front}
use Rattle.script_text.specs.Payloads.{faultless_path, path_of, set_of, ids_of, is_code, code_of, with_words, path_flags, two_paths, three_sets}
use Rattle.script_text.specs.Payloads.{open_request, payload_of}
use Rattle.script_text.specs.Printed.{has_form, each_number, with_commas, ids_word, code_word, payload_words, request_words}
use Rattle.script_text.specs.PrintedAgain.{HasTexts, IsText, IsWord, RequestHasText}
use Rattle.script_text.proofs.MarksFound.{behind_mark, before_mark}
use Rattle.script_text.proofs.PrintedNumbers.{number_has_no, number_shown, number_again, set_again}
use Rattle.script_text.proofs.Spaced.{HasNo, all_append}

-- paths
path_again : (path : Path) → IsPath path → IsText (text_of path) → path_of (escaped_word (text_of path)) ≡ Some path
unfolding path_of escaped_text
path_again path p text =
    ap (λ o. option_and_then faultless_path (option_and_then text_only o)) (escaped_read (text_of path) text.small)
    ∙ ap (λ b. option_and_then faultless_path (cond b (Some (text_of path)) None)) text.utf8
    ∙ ap (λ o. cond (is_none o) (Some (parts_of (text_of path))) None) (text_no_fault path p.normal p.short)
    ∙ ap Some (text_parts path p.normal)

paths_again : (source target : Path) → IsPath source × IsPath target → IsText (text_of source) × IsText (text_of target)
    → two_paths (escaped_word (text_of source)) (escaped_word (text_of target)) ≡ Some (TwoPaths source target)
paths_again source target p utf8 =
    ap (λ o. option_and_then (λ from. option_map (λ to. TwoPaths from to) o) (path_of (escaped_word (text_of source))))
    (path_again target p.1 utf8.1)
    ∙ ap (λ o. option_and_then (λ from. Some (TwoPaths from target)) o) (path_again source p.0 utf8.0)

path_flags_again : (path : Path) (flags : ℕ) → IsPath path × (flags < 2 ^ 32) → IsText (text_of path)
    → path_flags (escaped_word (text_of path)) (decimal flags) ≡ Some (PathFlags path flags)
path_flags_again path flags p utf8 =
    ap (λ o. option_and_then (λ at. option_map (λ bits. PathFlags at bits) o) (path_of (escaped_word (text_of path))))
    (number_again flags p.1)
    ∙ ap (λ o. option_and_then (λ at. Some (PathFlags at flags)) o) (path_again path p.0 utf8)

-- sets
sets_again : (permitted effective inheritable : ℕ) → (permitted < 2 ^ 41) × (effective < 2 ^ 41) × (inheritable < 2 ^ 41)
    → three_sets (decimal permitted) (decimal effective) (decimal inheritable) ≡ Some (Sets permitted effective inheritable)
sets_again permitted effective inheritable f =
    ap (λ o. option_and_then (λ p. option_and_then (λ e. option_map (λ i. Sets p e i) o) (set_of (decimal effective)))
    (set_of (decimal permitted))) (set_again inheritable f.2)
    ∙ ap (λ o. option_and_then (λ p. option_and_then (λ e. Some (Sets p e inheritable)) o) (set_of (decimal permitted)))
    (set_again effective f.1)
    ∙ ap (λ o. option_and_then (λ p. Some (Sets p effective inheritable)) o) (set_again permitted f.0)

-- ids
each_id : (ids : List ℕ) → AllByRecursion (λ id. id < 2 ^ 32) ids → all_read number_of (map decimal ids) ≡ Some ids
each_id [] h = refl
each_id (id ∷ ids) h =
    ap (λ o. option_and_then (λ first. with_front first (all_read number_of (map decimal ids))) o) (number_again id h.0)
    ∙ ap (with_front id) (each_id ids h.1)

cut : (id : ℕ) (ids : List ℕ) → AllByRecursion (λ id. id < 2 ^ 32) (id ∷ ids)
    → slice_split (λ byte. byte == 44) (decimal id ++ each_number (codes ",") ids) ≡ map decimal (id ∷ ids)
cut id [] h =
    ap (slice_split (λ byte. byte == 44)) (append-nil (decimal id))
    ∙ slice_split_none (λ byte. byte == 44) (decimal id) (All-from_recursion (λ byte. (byte == 44) ≡ false) (decimal id) (number_has_no 44 id (omega arith) (let small : id < 2 ^ 32 = h.0 in omega (arith, small))))
cut id (other ∷ ids) h =
    slice_split_at (λ byte. byte == 44) (decimal id) 44 (decimal other ++ each_number (codes ",") ids)
    (All-from_recursion (λ byte. (byte == 44) ≡ false) (decimal id) (number_has_no 44 id (omega arith) (let small : id < 2 ^ 32 = h.0 in omega (arith, small)))) refl
    ∙ ap (λ rest. decimal id ∷ rest) (cut other ids h.1)

some_text : (text : List ℕ) → (length text == 0) ≡ false → between_commas text ≡ slice_split (λ byte. byte == 44) text
some_text [] h = absurd (false≢true (sym h))
some_text (byte ∷ text) h = refl

long_text : (front rest : List ℕ) → (length front == 0) ≡ false → (length (front ++ rest) == 0) ≡ false
long_text [] rest h = absurd (false≢true (sym h))
long_text (byte ∷ front) rest h = grind (arith, nat_tests)

commas_again : (ids : List ℕ) → AllByRecursion (λ id. id < 2 ^ 32) ids → all_read number_of (between_commas (with_commas ids)) ≡ Some ids
commas_again [] h = refl
commas_again (id ∷ ids) h =
    ap (all_read number_of) (some_text (decimal id ++ each_number (codes ",") ids) (long_text (decimal id) (each_number (codes ",") ids) (number_shown id (let small : id < 2 ^ 32 = h.0 in omega (arith, small))).some) ∙ cut id ids h)
    ∙ each_id (id ∷ ids) h

ids_again : (ids : List ℕ) → AllByRecursion (λ id. id < 2 ^ 32) ids → ids_of (ids_word ids) ≡ Some ids
unfolding ids_of
ids_again ids h =
    ap (λ o. option_and_then (λ text. all_read number_of (between_commas text)) (option_and_then (before 93) o))
    (behind_mark 91 (with_commas ids ++ 93 ∷ []))
    ∙ ap (λ o. option_and_then (λ text. all_read number_of (between_commas text)) o) (before_mark 93 (with_commas ids)) ∙ commas_again ids h

-- programs
are_bytes : (bytes : List ℕ) → AllByRecursion (λ byte. byte < 2 ^ 8) bytes → IsBytes bytes
are_bytes [] h at = omega arith
are_bytes (byte ∷ bytes) h zero = h.0
are_bytes (byte ∷ bytes) h (suc at) = are_bytes bytes h.1 at

lower : (digit : ℕ) → digit < 16 → is_lower_hex (slice_index lower_digits digit) ≡ true
lower digit small = all digit 0 (omega (arith, small))
  where
    all : All (λ byte. is_lower_hex byte ≡ true) lower_digits
    all = All-from_recursion (λ byte. is_lower_hex byte ≡ true) lower_digits
        (refl, (refl, (refl, (refl, (refl, (refl, (refl, (refl, (refl, (refl, (refl, (refl, (refl, (refl, (refl, (refl, tt))))))))))))))))

all_lower : (bytes : List ℕ) → AllByRecursion (λ byte. byte < 2 ^ 8) bytes → list_all is_lower_hex (encode_lower bytes) ≡ true
unfolding encode_with
all_lower [] h = refl
all_lower (byte ∷ bytes) h =
    let small : byte < 2 ^ 8 = h.0 in
    and_from _ _ (lower (byte / 16) (omega (arith, small))) (and_from _ _ (lower (byte % 16) (omega (arith, small))) (all_lower bytes h.1))

whole_lines : (bytes : List ℕ) → (length bytes % 8 == 0) ≡ true → (length (encode_lower bytes) % 16 == 0) ≡ true
whole_lines bytes h =
    let long : length (encode_lower bytes) ≡ 2 * length bytes = length-encode_with lower_digits bytes in
    grind (arith, nat_tests, long, h)

no_dash : (bytes : List ℕ) (byte : ℕ) → (length (encode_lower (byte ∷ bytes)) == 0) ≡ false
no_dash bytes byte = let long : length (encode_lower (byte ∷ bytes)) ≡ 2 * length (byte ∷ bytes) = length-encode_with lower_digits (byte ∷ bytes) in grind (arith, nat_tests, long)

two_digits_are_no_dash : (word : List ℕ) (n : ℕ) → length word ≡ 2 * n → bytes_eq word (codes "-") ≡ false
two_digits_are_no_dash [] n h = refl
two_digits_are_no_dash (a ∷ []) n h = absurd (omega (arith, h))
two_digits_are_no_dash (a ∷ b ∷ word) n h = by (a == 45)
  where
    by : (v : Bool) → (v && false) ≡ false
    by true = refl
    by false = refl

code_again : (bytes : List ℕ) → AllByRecursion (λ byte. byte < 2 ^ 8) bytes → (length bytes % 8 == 0) ≡ true
    → code_of (code_word bytes) ≡ Some bytes
unfolding code_of
code_again [] h whole = refl
code_again (byte ∷ bytes) h whole =
    let word = encode_lower (byte ∷ bytes) in
    let is : is_code word ≡ true = and_from _ _ (ap not (no_dash bytes byte)) (and_from _ _ (whole_lines (byte ∷ bytes) whole) (all_lower (byte ∷ bytes) h)) in
    ap (λ b. cond b (Some []) (cond (is_code word) (result_ok (decode_of word)) None))
    (two_digits_are_no_dash word (length (byte ∷ bytes)) (length-encode_with lower_digits (byte ∷ bytes)))
    ∙ ap (λ b. cond b (result_ok (decode_of word)) None) is ∙ ap result_ok
    (decode_of-encode_lower (byte ∷ bytes) (are_bytes (byte ∷ bytes) h))

-- requests to a ring
open_again : (path : Path) (flags : ℕ) → IsPath path × (flags < 2 ^ 32) → IsText (text_of path)
    → open_request (escaped_word (text_of path)) (decimal flags) ≡ Some (Ring (Open path flags))
open_again path flags p utf8 =
    ap (λ o. option_and_then (λ at. option_map (λ bits. Ring (Open at bits)) o) (path_of (escaped_word (text_of path))))
    (number_again flags p.1)
    ∙ ap (λ o. option_and_then (λ at. Some (Ring (Open at flags))) o) (path_again path p.0 utf8)

request_again : (request : Request) (rest : List (List ℕ)) → FitsRequest request → RequestHasText request
    → payload_of form.Request (request_words request ++ rest) ≡ Some (Ring request, rest)
request_again (Stat path) rest fits texts = ap (option_map (λ path. (Ring (Stat path), rest))) (path_again path fits texts)
request_again (Open path flags) rest fits texts = ap (option_map (with_words rest)) (open_again path flags fits texts)
request_again (Socket family) rest fits texts = ap (option_map (λ family. (Ring (Socket family), rest))) (number_again family fits)
request_again (Mode mode) rest fits texts = ap (option_map (λ mode. (Ring (Mode mode), rest))) (number_again mode fits)

-- a payload of the form is taken back, with what stands behind it
pub payload_again : (form' : PayloadForm) (payload : Payload) (rest : List (List ℕ)) → has_form form' payload ≡ true → FitsPayload payload
    → HasTexts payload → payload_of form' (payload_words payload ++ rest) ≡ Some (payload, rest)
payload_again form.Nothing Nothing rest h fits texts = refl
payload_again form.OnePath (OnePath path) rest h fits texts = ap (option_map (λ path. (OnePath path, rest))) (path_again path fits texts)
payload_again form.TwoPaths (TwoPaths source target) rest h fits texts =
    ap (option_map (with_words rest)) (paths_again source target fits texts)
payload_again form.PathFlags (PathFlags path flags) rest h fits texts =
    ap (option_map (with_words rest)) (path_flags_again path flags fits texts)
payload_again form.Sets (Sets permitted effective inheritable) rest h fits texts =
    ap (option_map (with_words rest)) (sets_again permitted effective inheritable fits)
payload_again form.Ids (Ids ids) rest h fits texts = ap (option_map (λ ids. (Ids ids, rest))) (ids_again ids fits)
payload_again form.Number (Number number) rest h fits texts = ap (option_map (λ number. (Number number, rest))) (number_again number fits)
payload_again form.Program (Code bytes) rest h fits texts = ap (option_map (λ bytes. (Code bytes, rest))) (code_again bytes fits h)
payload_again form.Request (Ring request) rest h fits texts = request_again request rest fits texts
payload_again _ _ rest h fits texts = absurd (false≢true h)

some_byte : (byte : ℕ) (rest : List ℕ) → (length (escaped_byte byte ++ rest) == 0) ≡ false
unfolding escaped_byte
some_byte byte rest = by (is_coded byte)
  where
    by : (b : Bool) → (length (cond b (37 ∷ upper_digit (byte / 16) ∷ upper_digit (byte % 16) ∷ []) (byte ∷ []) ++ rest) == 0) ≡ false
    by true = grind (arith, nat_tests)
    by false = grind (arith, nat_tests)

-- each word of a payload stands between spaces
escaped_shown : (path : Path) → IsWord (escaped_word (text_of path))
escaped_shown path = record {
  some = some (text_of path) (some_path path);
  plain = plain (escaped_word (text_of path))
      (recursion_from_All (λ byte. 32 < byte) (escaped_word (text_of path)) (no_white (text_of path)));
}
  where
    some_path : (path : Path) → (length (text_of path) == 0) ≡ false
    some_path [] = refl
    some_path (part ∷ path) = grind (arith, nat_tests)

    some : (text : List ℕ) → (length text == 0) ≡ false → (length (escaped_word text) == 0) ≡ false
    some [] h = absurd (false≢true (sym h))
    some (byte ∷ text) h = some_byte byte (escaped_word text)

    plain : (word : List ℕ) → AllByRecursion (λ byte. 32 < byte) word → HasNo 32 word
    plain [] h = tt
    plain (byte ∷ word) h = (let shows : 32 < byte = h.0 in grind (arith, nat_tests, shows), plain word h.1)

small_set : (set : ℕ) → set < 2 ^ 41 → IsWord (decimal set)
small_set set h = number_shown set (omega (arith, h))

ids_plain : (ids : List ℕ) → AllByRecursion (λ id. id < 2 ^ 32) ids → HasNo 32 (each_number (codes ",") ids)
ids_plain [] h = tt
ids_plain (id ∷ ids) h = (refl, all_append (λ byte. (byte == 32) ≡ false) (decimal id) (each_number (codes ",") ids) (number_has_no 32 id (omega arith) (let small : id < 2 ^ 32 = h.0 in omega (arith, small))) (ids_plain ids h.1))

commas_plain : (ids : List ℕ) → AllByRecursion (λ id. id < 2 ^ 32) ids → HasNo 32 (with_commas ids)
commas_plain [] h = tt
commas_plain (id ∷ ids) h = all_append (λ byte. (byte == 32) ≡ false) (decimal id) (each_number (codes ",") ids) (number_has_no 32 id (omega arith) (let small : id < 2 ^ 32 = h.0 in omega (arith, small))) (ids_plain ids h.1)

lower_plain : (word : List ℕ) → list_all is_lower_hex word ≡ true → HasNo 32 word
lower_plain [] h = tt
lower_plain (byte ∷ word) h = (other byte (and_parts (is_lower_hex byte) (list_all is_lower_hex word) h).0, lower_plain word (and_parts (is_lower_hex byte) (list_all is_lower_hex word) h).1)
  where
    other : (byte : ℕ) → is_lower_hex byte ≡ true → (byte == 32) ≡ false
    other byte e = by (byte == 32) refl
      where
        by : (b : Bool) → (byte == 32) ≡ b → b ≡ false
        by false s = refl
        by true s = absurd (false≢true (ap is_lower_hex (sym (eqb-true byte 32 s)) ∙ e))

code_shown : (bytes : List ℕ) → AllByRecursion (λ byte. byte < 2 ^ 8) bytes → IsWord (code_word bytes)
code_shown [] h = record { some = refl; plain = (refl, tt) }
code_shown (byte ∷ bytes) h =
    record { some = no_dash bytes byte; plain = lower_plain (encode_lower (byte ∷ bytes)) (all_lower (byte ∷ bytes) h) }

ids_shown : (ids : List ℕ) → AllByRecursion (λ id. id < 2 ^ 32) ids → IsWord (ids_word ids)
ids_shown ids h = record {
  some = grind (arith, nat_tests);
  plain = (refl, all_append (λ byte. (byte == 32) ≡ false) (with_commas ids) (93 ∷ []) (commas_plain ids h) (refl, tt));
}

small_word : (number : ℕ) → number < 2 ^ 32 → IsWord (decimal number)
small_word number h = number_shown number (omega (arith, h))

request_shown : (request : Request) → FitsRequest request → AllByRecursion IsWord (request_words request)
request_shown (Stat path) h =
    (record { some = refl; plain = (refl, (refl, (refl, (refl, tt)))) }, (escaped_shown path, tt))
request_shown (Open path flags) h =
    (record { some = refl; plain = (refl, (refl, (refl, (refl, tt)))) }, (escaped_shown path, (small_word flags h.1, tt)))
request_shown (Socket family) h =
    (record { some = refl; plain = (refl, (refl, (refl, (refl, (refl, (refl, tt)))))) }, (small_word family h, tt))
request_shown (Mode mode) h = (record { some = refl; plain = (refl, (refl, (refl, (refl, tt)))) }, (small_word mode h, tt))

pub payload_shown : (payload : Payload) → FitsPayload payload → AllByRecursion IsWord (payload_words payload)
payload_shown Nothing h = tt
payload_shown (OnePath path) h = (escaped_shown path, tt)
payload_shown (TwoPaths source target) h = (escaped_shown source, (escaped_shown target, tt))
payload_shown (PathFlags path flags) h =
    (escaped_shown path, (number_shown flags (let small : flags < 2 ^ 32 = h.1 in omega (arith, small)), tt))
payload_shown (Sets permitted effective inheritable) h =
    (small_set permitted h.0, (small_set effective h.1, (small_set inheritable h.2, tt)))
payload_shown (Ids ids) h = (ids_shown ids h, tt)
payload_shown (Number number) h = (number_shown number (let small : number < 2 ^ 32 = h in omega (arith, small)), tt)
payload_shown (Code bytes) h = (code_shown bytes h, tt)
payload_shown (Ring request) h = request_shown request h
