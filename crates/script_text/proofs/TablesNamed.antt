-- The calls of a table that was read have names of the letters of names, and the name of its second ABI is a word.
use Rattle.std.proofs.Common.{◌≡◌, ℕ, zero, suc, Bool, true, false, cond, List, [], ◌∷◌, Option, Some, None, IfSome, Ok, refl, sym, ap, ◌∙◌}
use Rattle.std.proofs.Common.{subst, codes}
use Rattle.std.specs.Prelude.{◌==◌, not, length, slice_get, option_and_then}
use Rattle.std.specs.Option.{option_map, option_map_or, option_or, option_to_list}
use Rattle.std.specs.List.{AllByRecursion, cons_option, filter, filter_map, onto_first, slice_split}
use Rattle.std.proofs.lemmas.List.Splits.{slice_split-cons_yes, slice_split-cons_no}
use Rattle.std.specs.Str.{bytes_eq}
use Rattle.std.proofs.lemmas.Option.{same_Some, slice_get-map}
use Rattle.kernel_model.specs.text_forms.line_text.Lines.{Line, words_of}
use Rattle.kernel_model.proofs.OfCallTable.Meant.{meaning}
use Rattle.kernel_model.specs.call_table.Kinds.{Entry, Kind, abi, call, family, group, malformed, abi_line, entry_of, call_line}
use Rattle.kernel_model.specs.call_table.Kinds.{family_line, named_group, group_line, kind_of}
use Rattle.kernel_model.specs.call_table.Names.{is_name, behind_at}
use Rattle.kernel_model.specs.call_table.Numbers.{cap_of, number_of}
use Rattle.kernel_model.specs.call_table.Reading.{line_kind, call_of, calls_of, native_lines, opened_by, second_of, table_of}
use Rattle.kernel_model.specs.call_table.Table.{Abi, Table, calls_in}
use Rattle.kernel_model.specs.call_table.Kernels.{calls_by, known_by, read_by, second_by}
use Rattle.kernel_model.specs.call_table.declared.call_names.kernel.Kernel.{Kernel}
use Rattle.kernel_model.specs.call_table.declared.call_names.kernel.Kernel.TheVariants.{Base}
use Rattle.kernel_model.specs.call_table.declared.listed.CallLine.{CallLine}
use Rattle.script_text.specs.PrintedAgain.{AreNamed, IsWord}
use Rattle.script_text.proofs.Spaced.{HasNo}

entry_by : (name digits : List ℕ) (cap_word : Option (List ℕ)) (entry : Entry) (b : Bool) → is_name name ≡ b
    → cond b (Some (record { name = name; digits = digits; cap_word = cap_word })) None ≡ Some entry → is_name entry.name ≡ true
entry_by name digits cap_word entry true n e = let same : name ≡ entry.name = ap (λ (o : Option Entry). name_of o) e in ap is_name (sym same) ∙ n
  where
    name_of : Option Entry → List ℕ
    name_of None = []
    name_of (Some entry) = entry.name
entry_by name digits cap_word entry false n e = cc

entry_named : (words : List (List ℕ)) (entry : Entry) → entry_of words ≡ Some entry → is_name entry.name ≡ true
entry_named [] entry e = cc
entry_named (name ∷ []) entry e = cc
entry_named (name ∷ digits ∷ []) entry e = entry_by name digits None entry (is_name name) refl e
entry_named (name ∷ digits ∷ cap_word ∷ []) entry e = entry_by name digits (Some cap_word) entry (is_name name) refl e
entry_named (name ∷ digits ∷ cap_word ∷ more ∷ words) entry e = cc

no_family : (o : Option Entry) (entry : Entry) → family_line o ≡ call entry → ⊥
no_family None entry e = cc
no_family (Some other) entry e = cc

no_abi : (words : List (List ℕ)) (entry : Entry) → abi_line words ≡ call entry → ⊥
no_abi [] entry e = cc
no_abi (name ∷ []) entry e = cc
no_abi (name ∷ digits ∷ []) entry e = cc
no_abi (name ∷ digits ∷ more ∷ words) entry e = cc

no_named_group : (members : List (List ℕ)) (name : Option (List ℕ)) (entry : Entry) → named_group members name ≡ call entry → ⊥
no_named_group members None entry e = cc
no_named_group members (Some name) entry e = by (is_name name) e
  where
    by : (b : Bool) → cond b (group name members) malformed ≡ call entry → ⊥
    by true e = cc
    by false e = cc

no_group : (words : List (List ℕ)) (entry : Entry) → group_line words ≡ call entry → ⊥
no_group [] entry e = cc
no_group (word ∷ []) entry e = cc
no_group (word ∷ member ∷ members) entry e = no_named_group (member ∷ members) (behind_at word) entry e

of_call : (o : Option Entry) (entry : Entry) → call_line o ≡ call entry → o ≡ Some entry
of_call None entry e = cc
of_call (Some other) entry e = cc

by_word : (words : List (List ℕ)) (entry : Entry) (is_call is_group is_family is_abi : Bool)
    → cond is_call (call_line (entry_of words))
    (cond is_group (group_line words) (cond is_family (family_line (entry_of words)) (cond is_abi (abi_line words) malformed)))
    ≡ call entry → is_name entry.name ≡ true
by_word words entry true is_group is_family is_abi e = entry_named words entry (of_call (entry_of words) entry e)
by_word words entry false true is_family is_abi e = absurd (no_group words entry e)
by_word words entry false false true is_abi e = absurd (no_family (entry_of words) entry e)
by_word words entry false false false true e = absurd (no_abi words entry e)
by_word words entry false false false false e = cc

kind_named : (words : List (List ℕ)) (entry : Entry) → kind_of words ≡ call entry → is_name entry.name ≡ true
kind_named [] entry e = cc
kind_named (word ∷ words) entry e = by_word words entry (bytes_eq word (codes "call")) (bytes_eq word (codes "group"))
    (bytes_eq word (codes "family")) (bytes_eq word (codes "abi")) e

listed_named : (place : ℕ) (entry : Entry) (line : CallLine) (o : Option ℕ)
    → option_map (λ number. record { name = entry.name; number = number; cap = option_and_then cap_of entry.cap_word; abi = place; kernel = Base }) o
    ≡ Some line → line.name ≡ entry.name
listed_named place entry line None e = cc
listed_named place entry line (Some number) e = sym (ap name_of e)
  where
    name_of : Option CallLine → List ℕ
    name_of None = []
    name_of (Some line) = line.name

given_named : (place : ℕ) (kind : Kind) (line : CallLine) → ((entry : Entry) → kind ≡ call entry → is_name entry.name ≡ true)
    → call_of place kind ≡ Some line → is_name line.name ≡ true
given_named place (abi name digits) line h e = cc
given_named place (family entry) line h e = cc
given_named place (group name members) line h e = cc
given_named place malformed line h e = cc
given_named place (call entry) line h e = ap is_name (listed_named place entry line (number_of entry.digits) e) ∙ h entry refl

each_given : {X Y : Type 0} (f : X → Option Y) (P : Y → Type 0) → ((x : X) (y : Y) → f x ≡ Some y → P y) → (xs : List X) (at : ℕ) (y : Y)
    → slice_get (filter_map f xs) at ≡ Some y → P y
each_given f P h [] at y e = cc
each_given {X = X} {Y = Y} f P h (x ∷ xs) at y e = by (f x) refl at e (λ at. each_given f P h xs at y)
  where
    by : (o : Option Y) → f x ≡ o → (at : ℕ) → slice_get (cons_option o (filter_map f xs)) at ≡ Some y
        → ((at : ℕ) → slice_get (filter_map f xs) at ≡ Some y → P y) → P y
    by None is at e rest = rest at e
    by (Some first) is zero e rest = h x y (is ∙ e)
    by (Some first) is (suc at) e rest = rest at e

line_named : (place : ℕ) (line : Line) (made : CallLine) → call_of place (line_kind line) ≡ Some made → is_name made.name ≡ true
unfolding line_kind
line_named place line made e = given_named place (line_kind line) made (kind_named (words_of line.text)) e

-- calls that have such names
abbrev AreCalled : List CallLine → Type 0
AreCalled calls = (at : ℕ) (line : CallLine) → slice_get calls at ≡ Some line → is_name line.name ≡ true

lines_called : (place : ℕ) (lines : List Line) → AreCalled (calls_of place lines)
lines_called place lines at line there = each_given (λ line. call_of place (line_kind line))
    (λ (line : CallLine). is_name line.name ≡ true) (line_named place) lines at line there

-- the words of a line stand between spaces
with_first : (byte : ℕ) (pieces : List (List ℕ)) → (byte == 32) ≡ false → AllByRecursion (HasNo 32) pieces
    → AllByRecursion (HasNo 32) (onto_first byte pieces)
with_first byte [] other h = ((other, tt), tt)
with_first byte (piece ∷ pieces) other h = ((other, h.0), h.1)

pieces_plain : (text : List ℕ) → AllByRecursion (HasNo 32) (slice_split (λ byte. byte == 32) text)
pieces_plain [] = (tt, tt)
pieces_plain (byte ∷ text) = by (byte == 32) refl (pieces_plain text)
  where
    by : (b : Bool) → (byte == 32) ≡ b → AllByRecursion (HasNo 32) (slice_split (λ byte. byte == 32) text)
        → AllByRecursion (HasNo 32) (slice_split (λ byte. byte == 32) (byte ∷ text))
    by true is rest = subst (AllByRecursion (HasNo 32)) (sym (slice_split-cons_yes (λ byte. byte == 32) byte text is)) (tt, rest)
    by false is rest = subst (AllByRecursion (HasNo 32)) (sym (slice_split-cons_no (λ byte. byte == 32) byte text is))
        (with_first byte (slice_split (λ byte. byte == 32) text) is rest)

filled_words : (pieces : List (List ℕ)) → AllByRecursion (HasNo 32) pieces
    → AllByRecursion IsWord (filter (λ word. not (length word == 0)) pieces)
filled_words [] h = tt
filled_words (piece ∷ pieces) h = by (length piece == 0) refl (filled_words pieces h.1)
  where
    by : (b : Bool) → (length piece == 0) ≡ b → AllByRecursion IsWord (filter (λ word. not (length word == 0)) pieces)
        → AllByRecursion IsWord (cond (not b) (piece ∷ filter (λ word. not (length word == 0)) pieces)
        (filter (λ word. not (length word == 0)) pieces))
    by true is rest = rest
    by false is rest = (record { some = is; plain = h.0 }, rest)

-- the name on an abi line is a word
no_call_abi : (o : Option Entry) (name digits : List ℕ) → call_line o ≡ abi name digits → ⊥
no_call_abi None name digits e = cc
no_call_abi (Some entry) name digits e = cc

no_family_abi : (o : Option Entry) (name digits : List ℕ) → family_line o ≡ abi name digits → ⊥
no_family_abi None name digits e = cc
no_family_abi (Some entry) name digits e = cc

no_named_group_abi : (members : List (List ℕ)) (called : Option (List ℕ)) (name digits : List ℕ)
    → named_group members called ≡ abi name digits → ⊥
no_named_group_abi members None name digits e = cc
no_named_group_abi members (Some called) name digits e = by (is_name called) e
  where
    by : (b : Bool) → cond b (group called members) malformed ≡ abi name digits → ⊥
    by true e = cc
    by false e = cc

no_group_abi : (words : List (List ℕ)) (name digits : List ℕ) → group_line words ≡ abi name digits → ⊥
no_group_abi [] name digits e = cc
no_group_abi (word ∷ []) name digits e = cc
no_group_abi (word ∷ member ∷ members) name digits e = no_named_group_abi (member ∷ members) (behind_at word) name digits e

of_abi : (words : List (List ℕ)) (name digits : List ℕ) → AllByRecursion IsWord words → abi_line words ≡ abi name digits → IsWord name
of_abi [] name digits h e = cc
of_abi (one ∷ []) name digits h e = cc
of_abi (one ∷ other ∷ []) name digits h e = let same : one ≡ name = cc in subst IsWord same h.0
of_abi (one ∷ other ∷ more ∷ words) name digits h e = cc

abi_by : (words : List (List ℕ)) (name digits : List ℕ) (is_call is_group is_family is_abi : Bool) → AllByRecursion IsWord words
    → cond is_call (call_line (entry_of words))
    (cond is_group (group_line words) (cond is_family (family_line (entry_of words)) (cond is_abi (abi_line words) malformed)))
    ≡ abi name digits → IsWord name
abi_by words name digits true is_group is_family is_abi h e = absurd (no_call_abi (entry_of words) name digits e)
abi_by words name digits false true is_family is_abi h e = absurd (no_group_abi words name digits e)
abi_by words name digits false false true is_abi h e = absurd (no_family_abi (entry_of words) name digits e)
abi_by words name digits false false false true h e = of_abi words name digits h e
abi_by words name digits false false false false h e = cc

abi_kind : (words : List (List ℕ)) (name digits : List ℕ) → AllByRecursion IsWord words → kind_of words ≡ abi name digits → IsWord name
abi_kind [] name digits h e = cc
abi_kind (word ∷ words) name digits h e = abi_by words name digits (bytes_eq word (codes "call")) (bytes_eq word (codes "group"))
    (bytes_eq word (codes "family")) (bytes_eq word (codes "abi")) h.1 e

abi_named : (line : Line) (name digits : List ℕ) → line_kind line ≡ abi name digits → IsWord name
unfolding line_kind
abi_named line name digits e = abi_kind (words_of line.text) name digits
    (filled_words (slice_split (λ byte. byte == 32) line.text) (pieces_plain line.text)) e

-- a second ABI
record IsNamedAbi (second : Abi) : Type 0 where
  word : IsWord second.name
  calls : AreCalled second.calls

second_named : (lines : List Line) → IfSome (second_of lines) IsNamedAbi
second_named [] = tt
second_named (line ∷ lines) = by (line_kind line) refl (second_named lines)
  where
    by : (kind : Kind) → line_kind line ≡ kind → IfSome (second_of lines) IsNamedAbi
        → IfSome (option_or (opened_by kind lines) (second_of lines)) IsNamedAbi
    by (abi name digits) is rest = record { word = abi_named line name digits is; calls = lines_called 1 lines }
    by (call entry) is rest = rest
    by (family entry) is rest = rest
    by (group name members) is rest = rest
    by malformed is rest = rest

second_word : (o : Option Abi) → IfSome o IsNamedAbi → IfSome o (λ second. IsWord second.name)
second_word None h = h
second_word (Some second) h = h.word

none_called : AreCalled []
none_called at line e = cc

each_called : (table : Table) → AreCalled table.calls → IfSome table.second IsNamedAbi → (place : ℕ) → AreCalled (calls_in table place)
each_called table own second zero = own
each_called table own second (suc place) = by table.second place second
  where
    by : (o : Option Abi) (place : ℕ) → IfSome o IsNamedAbi → AreCalled
        (option_map_or (λ found. found.calls) (slice_get (option_to_list o) place) [])
    by None place h = none_called
    by (Some second) zero h = h.calls
    by (Some second) (suc place) h = none_called

pub tables_named : (bytes : List ℕ) (table : Table) → table_of bytes ≡ Ok table → AreNamed table
tables_named bytes table e =
    let m = meaning bytes table e in
    let second : IfSome table.second IsNamedAbi = subst (λ (o : Option Abi). IfSome o IsNamedAbi) (sym m.second) (second_named m.rest) in
    record {
      calls = each_called table (subst AreCalled (sym m.calls) (lines_called 0 (native_lines m.rest))) second;
      second = second_word table.second second;
    }

-- a kernel that reads the names leaves them
calls_known : (kernel : Kernel) (calls : List CallLine) → AreCalled calls → AreCalled (calls_by kernel calls)
calls_known kernel calls own at line e = by (slice_get calls at) refl (sym (slice_get-map (read_by kernel) calls at) ∙ e)
  where
    by : (o : Option CallLine) → slice_get calls at ≡ o → option_map (read_by kernel) o ≡ Some line → is_name line.name ≡ true
    by None there e = cc
    by (Some before) there e = ap (λ (l : CallLine). is_name l.name) (sym (same_Some (read_by kernel before) line e)) ∙ own at before there

second_known : (kernel : Kernel) (o : Option Abi) (place : ℕ)
    → option_map_or (λ (found : Abi). found.calls) (slice_get (option_to_list (option_map (second_by kernel) o)) place) []
    ≡ calls_by kernel (option_map_or (λ (found : Abi). found.calls) (slice_get (option_to_list o) place) [])
second_known kernel None place = refl
second_known kernel (Some second) zero = refl
second_known kernel (Some second) (suc place) = refl

each_known : (kernel : Kernel) (table : Table) (place : ℕ) → calls_in (known_by kernel table) place ≡ calls_by kernel (calls_in table place)
each_known kernel table zero = refl
each_known kernel table (suc place) = second_known kernel table.second place

word_known : (kernel : Kernel) (o : Option Abi) → IfSome o (λ second. IsWord second.name)
    → IfSome (option_map (second_by kernel) o) (λ second. IsWord second.name)
word_known kernel None h = h
word_known kernel (Some second) h = h

pub known_named : (kernel : Kernel) (table : Table) → AreNamed table → AreNamed (known_by kernel table)
known_named kernel table named = record {
  calls = λ place. subst AreCalled (sym (each_known kernel table place)) (calls_known kernel (calls_in table place) (named.calls place));
  second = word_known kernel table.second named.second;
}
