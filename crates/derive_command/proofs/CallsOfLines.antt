-- The names of the calls that lines give are plain, and have no more bytes than the text of the lines.
use Rattle.std.proofs.Common.{◌≡◌, ℕ, ◌+◌, ◌<◌, ◌≤◌, suc, Bool, true, false, cond, Option, Some, None, List, [], ◌∷◌, ◌++◌, length, filter}
use Rattle.std.proofs.Common.{refl, ap, ◌∙◌, subst, arith}
use Rattle.std.specs.Prelude.{◌&&◌, ◌==◌, not, codes, option_and_then}
use Rattle.std.specs.List.{list_all, slice_split, onto_first, cons_option}
use Rattle.std.specs.Option.{option_map, option_or}
use Rattle.std.specs.Str.{bytes_eq}
use Rattle.asked_service.specs.text_forms.line_text.Lines.{Line, line_of, lines_of, counted_from, words_of, is_skipped}
use Rattle.asked_service.specs.call_table.Kinds.{Entry, Kind, abi, call, family, group, malformed, abi_line, named_entry, entry_of}
use Rattle.asked_service.specs.call_table.Kinds.{call_line, family_line, named_group, group_line, kind_of}
use Rattle.asked_service.specs.call_table.Names.{is_name, behind_at}
use Rattle.asked_service.specs.call_table.Numbers.{number_of, cap_of}
use Rattle.asked_service.specs.call_table.Reading.{line_kind, call_of, calls_of, native_lines, is_abi, opened_by, second_of, every_call_of}
use Rattle.asked_service.specs.call_table.Table.{second_calls}
use Rattle.asked_service.specs.call_table.declared.call_names.kernel.Kernel.TheVariants.{Base}
use Rattle.asked_service.specs.call_table.declared.listed.CallLine.{CallLine}

-- ---- what stands in a text
-- the bytes of parts, with one behind each
abbrev pub room_of_parts : List (List ℕ) → ℕ
room_of_parts [] = 0
room_of_parts (part ∷ parts) = suc (length part) + room_of_parts parts

abbrev pub room_of_lines : List Line → ℕ
room_of_lines [] = 0
room_of_lines (line ∷ lines) = suc (length line.text) + room_of_lines lines

-- the names of calls, with one byte before each
abbrev pub room_of_names : List CallLine → ℕ
room_of_names [] = 0
room_of_names (line ∷ lines) = suc (length line.name) + room_of_names lines

-- a byte more at the front of the first part
longer_by_one : (byte : ℕ) (parts : List (List ℕ)) (n : ℕ) → room_of_parts parts ≡ suc n
    → room_of_parts (onto_first byte parts) ≡ suc (suc n)
longer_by_one byte [] n e = absurd (omega (arith, e))
longer_by_one byte (part ∷ parts) n e = omega (arith, e)

-- the parts of a text are all of it
room_of_split : (test : ℕ → Bool) (text : List ℕ) → room_of_parts (slice_split test text) ≡ suc (length text)
room_of_split test [] = refl
room_of_split test (byte ∷ text) = by (test byte) (room_of_split test text)
  where
    by : (b : Bool) → room_of_parts (slice_split test text) ≡ suc (length text)
        → room_of_parts (cond b ([] ∷ slice_split test text) (onto_first byte (slice_split test text))) ≡ suc (suc (length text))
    by true rest = omega (arith, rest)
    by false rest = longer_by_one byte (slice_split test text) (length text) rest

-- some of the parts have no more
room_of_some : (test : List ℕ → Bool) (parts : List (List ℕ)) → room_of_parts (filter test parts) ≤ room_of_parts parts
room_of_some test [] = omega arith
room_of_some test (part ∷ parts) = by (test part) (room_of_some test parts)
  where
    by : (b : Bool) → room_of_parts (filter test parts) ≤ room_of_parts parts
        → room_of_parts (cond b (part ∷ filter test parts) (filter test parts)) ≤ suc (length part) + room_of_parts parts
    by true rest = omega (arith, rest)
    by false rest = omega (arith, rest)

room_of_words : (text : List ℕ) → room_of_parts (words_of text) ≤ suc (length text)
room_of_words text =
    let some = room_of_some (λ word. not (length word == 0)) (slice_split (λ byte. byte == 32) text) in
    let all = room_of_split (λ byte. byte == 32) text in
    omega (arith, some, all)

room_of_counted : (number : ℕ) (texts : List (List ℕ)) → room_of_lines (counted_from number texts) ≤ room_of_parts texts
room_of_counted number [] = omega arith
room_of_counted number (text ∷ texts) = by (not (is_skipped text)) (room_of_counted (number + 1) texts)
  where
    by : (b : Bool) → room_of_lines (counted_from (number + 1) texts) ≤ room_of_parts texts
        → room_of_lines (cond b (line_of (number, text) ∷ counted_from (number + 1) texts) (counted_from (number + 1) texts)) ≤ suc
        (length text) + room_of_parts texts
    by true rest = omega (arith, rest)
    by false rest = omega (arith, rest)

-- the lines that count stand in the text, and a line feed behind it
pub room_of_text : (text : List ℕ) → room_of_lines (lines_of text) ≤ suc (length text)
room_of_text text =
    let some = room_of_counted 1 (slice_split (λ byte. byte == 10) text) in
    let all = room_of_split (λ byte. byte == 10) text in
    omega (arith, some, all)

-- ---- what a line is
-- the name of a call is plain, and it stands in so many bytes with one more; so do the digits of an abi line, with three
abbrev pub FitsKind : ℕ → Kind → Type 0
FitsKind room (abi name digits) = suc (suc (length digits)) < room
FitsKind room (call entry) = (is_name entry.name ≡ true) × (suc (length entry.name) ≤ room)
FitsKind room (family entry) = Unit {0}
FitsKind room (group name members) = Unit {0}
FitsKind room malformed = Unit {0}

fits_more : (room more : ℕ) (kind : Kind) → room ≤ more → FitsKind room kind → FitsKind more kind
fits_more room more (abi name digits) le fits = omega (arith, le, fits)
fits_more room more (call entry) le fits = (fits.0, omega (arith, le, fits.1))
fits_more room more (family entry) le fits = tt
fits_more room more (group name members) le fits = tt
fits_more room more malformed le fits = tt

entry_fits : (room : ℕ) (name digits : List ℕ) (cap_word : Option (List ℕ)) → suc (length name) ≤ room
    → FitsKind room (call_line (named_entry name digits cap_word))
entry_fits room name digits cap_word le = by (is_name name) refl
  where
    by : (b : Bool) → is_name name ≡ b
        → FitsKind room (call_line (cond b (Some (record { name = name; digits = digits; cap_word = cap_word })) None))
    by true plain = (plain, le)
    by false plain = tt

call_fits : (room : ℕ) (words : List (List ℕ)) → room_of_parts words ≤ room → FitsKind room (call_line (entry_of words))
call_fits room [] le = tt
call_fits room (name ∷ []) le = tt
call_fits room (name ∷ digits ∷ []) le = entry_fits room name digits None (omega (arith, le))
call_fits room (name ∷ digits ∷ cap_word ∷ []) le = entry_fits room name digits (Some cap_word) (omega (arith, le))
call_fits room (name ∷ digits ∷ cap_word ∷ more ∷ words) le = tt

group_fits : (room : ℕ) (words : List (List ℕ)) → FitsKind room (group_line words)
group_fits room [] = tt
group_fits room (word ∷ []) = tt
group_fits room (word ∷ member ∷ members) = by (behind_at word)
  where
    chosen : (name : List ℕ) (b : Bool) → FitsKind room (cond b (group name (member ∷ members)) malformed)
    chosen name true = tt
    chosen name false = tt

    by : (name : Option (List ℕ)) → FitsKind room (named_group (member ∷ members) name)
    by None = tt
    by (Some name) = chosen name (is_name name)

family_fits : (room : ℕ) (entry : Option Entry) → FitsKind room (family_line entry)
family_fits room None = tt
family_fits room (Some entry) = tt

abi_fits : (room : ℕ) (words : List (List ℕ)) → room_of_parts words < room → FitsKind room (abi_line words)
abi_fits room [] le = tt
abi_fits room (name ∷ []) le = tt
abi_fits room (name ∷ digits ∷ []) le = omega (arith, le)
abi_fits room (name ∷ digits ∷ more ∷ words) le = tt

kind_fits : (words : List (List ℕ)) → FitsKind (room_of_parts words) (kind_of words)
kind_fits [] = tt
kind_fits (word ∷ words) =
    by (bytes_eq word (codes "call")) (bytes_eq word (codes "group")) (bytes_eq word (codes "family")) (bytes_eq word (codes "abi"))
  where
    room : ℕ
    room = room_of_parts (word ∷ words)

    by : (is_call is_group is_family is_abi_line : Bool)
        → FitsKind room (cond is_call (call_line (entry_of words))
        (cond is_group (group_line words)
        (cond is_family (family_line (entry_of words)) (cond is_abi_line (abi_line words) malformed))))
    by true is_group is_family is_abi_line = call_fits room words (omega arith)
    by false true is_family is_abi_line = group_fits room words
    by false false true is_abi_line = family_fits room (entry_of words)
    by false false false true = abi_fits room words (omega arith)
    by false false false false = tt

-- by the words of a line
pub line_fits : (line : Line) → FitsKind (suc (length line.text)) (line_kind line)
unfolding line_kind
line_fits line = fits_more (room_of_parts (words_of line.text)) (suc (length line.text)) (kind_of (words_of line.text))
    (room_of_words line.text) (kind_fits (words_of line.text))

-- ---- what lines give
-- the names are plain, and stand in so many bytes with one more each
abbrev pub Fit : ℕ → List CallLine → Type 0
Fit room calls = (list_all (λ line. is_name line.name) calls ≡ true) × (room_of_names calls ≤ room)

fit_more : (room more : ℕ) (calls : List CallLine) → room ≤ more → Fit room calls → Fit more calls
fit_more room more calls le fit = (fit.0, omega (arith, le, fit.1))

-- what one line gives more
one_fits : (here more place : ℕ) (kind : Kind) (calls : List CallLine) → FitsKind here kind → Fit more calls
    → Fit (here + more) (cons_option (call_of place kind) calls)
one_fits here more place (abi name digits) calls fits fit = fit_more more (here + more) calls (omega arith) fit
one_fits here more place (family entry) calls fits fit = fit_more more (here + more) calls (omega arith) fit
one_fits here more place (group name members) calls fits fit = fit_more more (here + more) calls (omega arith) fit
one_fits here more place malformed calls fits fit = fit_more more (here + more) calls (omega arith) fit
one_fits here more place (call entry) calls fits fit = by (number_of entry.digits)
  where
    by : (number : Option ℕ) → Fit (here + more)
        (cons_option (option_map
        (λ number. record { name = entry.name; number = number; cap = option_and_then cap_of entry.cap_word; abi = place; kernel = Base }) number) calls)
    by None = fit_more more (here + more) calls (omega arith) fit
    by (Some number) = (ap (λ b. b && list_all (λ (line : CallLine). is_name line.name) calls) fits.0 ∙ fit.0, omega (arith, fits.1, fit.1))

-- the calls of one ABI
calls_fit : (place : ℕ) (lines : List Line) → Fit (room_of_lines lines) (calls_of place lines)
calls_fit place [] = (refl, omega arith)
calls_fit place (line ∷ lines) = one_fits (suc (length line.text)) (room_of_lines lines) place (line_kind line) (calls_of place lines)
    (line_fits line) (calls_fit place lines)

behind_option : {X : Type 0} (o : Option X) (xs ys : List X) → cons_option o (xs ++ ys) ≡ cons_option o xs ++ ys
behind_option None xs ys = refl
behind_option (Some x) xs ys = refl

-- the calls of both ABIs
pub every_call_fits : (lines : List Line) → Fit (room_of_lines lines) (every_call_of lines)
every_call_fits [] = (refl, omega arith)
every_call_fits (line ∷ lines) =
    by (line_kind line)
    (subst (Fit room) (behind_option (call_of 0 (line_kind line)) (calls_of 0 (native_lines lines)) (second_calls (second_of lines)))
    (one_fits (suc (length line.text)) (room_of_lines lines) 0 (line_kind line) (every_call_of lines) (line_fits line)
    (every_call_fits lines)))
  where
    room : ℕ
    room = suc (length line.text) + room_of_lines lines

    by : (kind : Kind) → Fit room (calls_of 0 (line ∷ native_lines lines) ++ second_calls (second_of lines))
        → Fit room (calls_of 0 (cond (is_abi kind) [] (line ∷ native_lines lines)) ++ second_calls
        (option_or (opened_by kind lines) (second_of lines)))
    by (abi name digits) goes_on = fit_more (room_of_lines lines) room (calls_of 1 lines) (omega arith) (calls_fit 1 lines)
    by (call entry) goes_on = goes_on
    by (family entry) goes_on = goes_on
    by (group name members) goes_on = goes_on
    by malformed goes_on = goes_on
