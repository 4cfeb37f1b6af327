-- A text of the first version may follow a line `version 2`.
use Rattle.std.proofs.Common.{◌≡◌, ℕ, ◌+◌, Bool, true, false, cond, Option, Some, None, Ok, Err, List, [], ◌∷◌, ◌++◌, map, refl, sym, ap}
use Rattle.std.proofs.Common.{◌∙◌}
use Rattle.std.specs.Prelude.{slice_get, unwrap_or, not, codes, ◌==◌}
use Rattle.std.specs.Option.{option_map, option_or}
use Rattle.std.specs.List.{cons_option, filter_map, list_any, slice_split}
use Rattle.std.specs.Str.{is_utf8, chars}
use lib.Utf8.{encode}
use Rattle.std.proofs.lemmas.Bool.{and_from, and_parts}
use Rattle.std.proofs.lemmas.List.{map-append}
use Rattle.std.proofs.lemmas.Str.{IsUtf8-append, IsUtf8-from_is_utf8, is_utf8-from_IsUtf8}
use Rattle.call_table.specs.declared.listed.GroupLine.{GroupLine}
use Rattle.call_table.specs.declared.causes.CallsCause.{CallsCause}
use Rattle.call_table.specs.declared.causes.CallsError.{CallsError}
use Rattle.call_table.specs.declared.causes.CallsError.TheVariants.{NotText}
use Rattle.call_table.specs.Before.{with_before}
use Rattle.text_forms.specs.line_text.Lines.{Line, is_skipped, counted_from, lines_of, is_text}
use Rattle.call_table.specs.Kinds.{Kind, abi, call, family, group, malformed}
use Rattle.call_table.specs.Numbers.{arch_of}
use Rattle.call_table.specs.Faults.{abi_fault, cause_of}
use Rattle.call_table.specs.Table.{Abi, Table, second_calls}
use Rattle.call_table.specs.Reading.{Head, line_kind, call_of, family_of, group_of, calls_of, families_of, is_abi, native_lines, opened_by}
use Rattle.call_table.specs.Reading.{second_of, every_call_of, with_group, groups_behind, table_behind, at_line, fault_at, fault_of}
use Rattle.call_table.specs.Reading.{unless_fault, table_of_rest, with_arch, with_abi, table_from, is_version, table_of_lines, table_of}
use Rattle.call_table.specs.Reading.{begins_alone, is_first_version, with_version}

-- the same line, with the next number
abbrev next : Line → Line
next line = record { number = line.number + 1; text = line.text }

same_kind : (line : Line) → line_kind (next line) ≡ line_kind line
unfolding line_kind
same_kind line = refl

calls_alike : (place : ℕ) (lines : List Line) → calls_of place (map next lines) ≡ calls_of place lines
calls_alike place [] = refl
calls_alike place (line ∷ lines) =
    ap (λ (k : Kind). cons_option (call_of place k) (calls_of place (map next lines))) (same_kind line)
    ∙ ap (cons_option (call_of place (line_kind line))) (calls_alike place lines)

families_alike : (lines : List Line) → families_of (map next lines) ≡ families_of lines
families_alike [] = refl
families_alike (line ∷ lines) =
    ap (λ (k : Kind). cons_option (family_of k) (families_of (map next lines))) (same_kind line)
    ∙ ap (cons_option (family_of (line_kind line))) (families_alike lines)

native_alike : (lines : List Line) → native_lines (map next lines) ≡ map next (native_lines lines)
native_alike [] = refl
native_alike (line ∷ lines) = ap (λ (k : Kind). cond (is_abi k) [] (next line ∷ native_lines (map next lines))) (same_kind line)
    ∙ by (is_abi (line_kind line)) (native_alike lines)
  where
    by : (b : Bool) → native_lines (map next lines) ≡ map next (native_lines lines)
        → cond b [] (next line ∷ native_lines (map next lines)) ≡ map next (cond b [] (line ∷ native_lines lines))
    by true e = refl
    by false e = ap (λ ls. next line ∷ ls) e

opened_alike : (kind : Kind) (lines : List Line) → opened_by kind (map next lines) ≡ opened_by kind lines
opened_alike (abi name digits) lines = ap (λ calls. Some (record { name = name; arch = unwrap_or (arch_of digits) 0; calls = calls }))
    (calls_alike 1 lines)
opened_alike (call entry) lines = refl
opened_alike (family entry) lines = refl
opened_alike (group name members) lines = refl
opened_alike malformed lines = refl

second_alike : (lines : List Line) → second_of (map next lines) ≡ second_of lines
second_alike [] = refl
second_alike (line ∷ lines) =
    ap (λ (k : Kind). option_or (opened_by k (map next lines)) (second_of (map next lines))) (same_kind line)
    ∙ ap (λ (o : Option Abi). option_or o (second_of (map next lines))) (opened_alike (line_kind line) lines)
    ∙ ap (option_or (opened_by (line_kind line) lines)) (second_alike lines)

natives_alike : (lines : List Line) → calls_of 0 (native_lines (map next lines)) ≡ calls_of 0 (native_lines lines)
natives_alike lines = ap (calls_of 0) (native_alike lines) ∙ calls_alike 0 (native_lines lines)

every_alike : (lines : List Line) → every_call_of (map next lines) ≡ every_call_of lines
every_alike lines = ap (λ calls. calls ++ second_calls (second_of (map next lines))) (natives_alike lines)
    ∙ ap (λ (o : Option Abi). calls_of 0 (native_lines lines) ++ second_calls o) (second_alike lines)

group_alike : (groups : List GroupLine) (before : List Line) (line : Line)
    → with_group groups (map next before, next line) ≡ with_group groups (before, line)
group_alike groups before line =
    ap (λ (k : Kind). groups ++ cons_option (group_of (every_call_of (map next before)) groups k) []) (same_kind line)
    ∙ ap (λ calls. groups ++ cons_option (group_of calls groups (line_kind line)) []) (every_alike before)

groups_alike : (groups : List GroupLine) (before lines : List Line)
    → groups_behind groups (with_before (map next before) (map next lines)) ≡ groups_behind groups (with_before before lines)
groups_alike groups before [] = refl
groups_alike groups before (line ∷ lines) =
    ap (λ gs. groups_behind gs (with_before (map next before ++ next line ∷ []) (map next lines))) (group_alike groups before line)
    ∙ ap (λ ls. groups_behind (with_group groups (before, line)) (with_before ls (map next lines)))
    (sym (map-append next before (line ∷ [])))
    ∙ groups_alike (with_group groups (before, line)) (before ++ line ∷ []) lines

table_alike : (head : Head) (lines : List Line) → table_behind head (map next lines) ≡ table_behind head lines
table_alike head lines =
    let calls = natives_alike lines in
    let families = families_alike lines in
    let groups = groups_alike [] [] lines in
    let second = second_alike lines in
    λ i. record { name = head.name; arch = head.arch; calls = calls i; families = families i; groups = groups i; second = second i }

-- a line without a fault in a file of one ABI has no fault in a file of two
no_abi_fault : (table : Table) (name digits : List ℕ) → abi_fault false table name digits ≡ None → abi_fault true table name digits ≡ None
unfolding abi_fault
no_abi_fault table name digits e = cc

still_none : (table : Table) (kind : Kind) → cause_of false table kind ≡ None → cause_of true table kind ≡ None
still_none table (abi name digits) e = no_abi_fault table name digits e
still_none table (call entry) e = e
still_none table (family entry) e = e
still_none table (group name members) e = e
still_none table malformed e = e

nothing : {X : Type 0} (o : Option X) (xs : List X) → cons_option o xs ≡ [] → (o ≡ None) × (xs ≡ [])
nothing None xs e = (refl, e)
nothing (Some x) xs e = cc

no_cause : (number : ℕ) (o : Option CallsCause) → option_map (at_line number) o ≡ None → o ≡ None
no_cause number None e = refl
no_cause number (Some cause) e = cc

line_alike : (head : Head) (before : List Line) (line : Line) → fault_at false head (before, line) ≡ None
    → fault_at true head (map next before, next line) ≡ None
line_alike head before line e =
    ap (λ (t : Table). option_map (at_line (line.number + 1)) (cause_of true t (line_kind (next line)))) (table_alike head before)
    ∙ ap (λ (k : Kind). option_map (at_line (line.number + 1)) (cause_of true (table_behind head before) k)) (same_kind line)
    ∙ ap (option_map (at_line (line.number + 1)))
    (still_none (table_behind head before) (line_kind line)
    (no_cause line.number (cause_of false (table_behind head before) (line_kind line)) e))

faults_alike : (head : Head) (before lines : List Line) → filter_map (fault_at false head) (with_before before lines) ≡ []
    → filter_map (fault_at true head) (with_before (map next before) (map next lines)) ≡ []
faults_alike head before [] e = refl
faults_alike head before (line ∷ lines) e =
    let parts = nothing (fault_at false head (before, line)) (filter_map (fault_at false head) (with_before (before ++ line ∷ []) lines)) e in
    let rest : List Line → List CallsError = λ ls. filter_map (fault_at true head) (with_before ls (map next lines)) in
    ap (λ (o : Option CallsError). cons_option o (rest (map next before ++ next line ∷ []))) (line_alike head before line parts.0)
    ∙ ap rest (sym (map-append next before (line ∷ []))) ∙ faults_alike head (before ++ line ∷ []) lines parts.1

no_first : (xs : List CallsError) → slice_get xs 0 ≡ None → xs ≡ []
no_first [] e = refl
no_first (x ∷ xs) e = cc

fault_alike : (head : Head) (lines : List Line) → fault_of false head lines ≡ None → fault_of true head (map next lines) ≡ None
fault_alike head lines e = ap (λ faults. slice_get faults 0)
    (faults_alike head [] lines (no_first (filter_map (fault_at false head) (with_before [] lines)) e))

rest_alike : (head : Head) (lines : List Line) (table : Table) → table_of_rest false head lines ≡ Ok table
    → table_of_rest true head (map next lines) ≡ Ok table
rest_alike head lines table e = by (fault_of false head lines) refl e
  where
    by : (o : Option CallsError) → fault_of false head lines ≡ o → unless_fault o (table_behind head lines) ≡ Ok table
        → unless_fault (fault_of true head (map next lines)) (table_behind head (map next lines)) ≡ Ok table
    by None none e =
        ap (λ (o : Option CallsError). unless_fault o (table_behind head (map next lines))) (fault_alike head lines none)
        ∙ ap (unless_fault None) (table_alike head lines) ∙ e
    by (Some fault) none e = cc

arch_alike : (first : Line) (rest : List Line) (name : List ℕ) (arch : Option ℕ) (table : Table)
    → with_arch false first rest name arch ≡ Ok table → with_arch true (next first) (map next rest) name arch ≡ Ok table
arch_alike first rest name None table e = cc
arch_alike first rest name (Some arch) table e = rest_alike (record { name = name; arch = arch }) rest table e

abi_alike : (first : Line) (rest : List Line) (kind : Kind) (table : Table) → with_abi false first rest kind ≡ Ok table
    → with_abi true (next first) (map next rest) kind ≡ Ok table
abi_alike first rest (abi name digits) table e = arch_alike first rest name (arch_of digits) table e
abi_alike first rest (call entry) table e = cc
abi_alike first rest (family entry) table e = cc
abi_alike first rest (group name members) table e = cc
abi_alike first rest malformed table e = cc

lines_alike : (lines : List Line) (table : Table) → begins_alone lines ≡ true → table_of_lines lines ≡ Ok table
    → table_from true (map next lines) ≡ Ok table
lines_alike [] table alone e = cc
lines_alike (first ∷ rest) table alone e = by (is_version first) alone e
  where
    read : with_abi false first rest (line_kind first) ≡ Ok table → table_from true (map next (first ∷ rest)) ≡ Ok table
    read e = ap (with_abi true (next first) (map next rest)) (same_kind first) ∙ abi_alike first rest (line_kind first) table e

    by : (b : Bool) → not b ≡ true → cond b (table_from true rest) (table_from false (first ∷ rest)) ≡ Ok table
        → table_from true (map next (first ∷ rest)) ≡ Ok table
    by true alone e = cc
    by false alone e = read e

-- the lines with the next numbers
counted_alike : (n : ℕ) (texts : List (List ℕ)) → counted_from (n + 1) texts ≡ map next (counted_from n texts)
counted_alike n [] = refl
counted_alike n (text ∷ texts) = by (not (is_skipped text)) (counted_alike (n + 1) texts)
  where
    by : (b : Bool) → counted_from (n + 1 + 1) texts ≡ map next (counted_from (n + 1) texts)
        → cond b (record { number = n + 1; text = text } ∷ counted_from (n + 1 + 1) texts) (counted_from (n + 1 + 1) texts)
        ≡ map next (cond b (record { number = n; text = text } ∷ counted_from (n + 1) texts) (counted_from (n + 1) texts))
    by true e = ap (λ ls. record { number = n + 1; text = text } ∷ ls) e
    by false e = e

abbrev version_line : Line
version_line = record { number = 1; text = codes "version 2" }

announces : is_version version_line ≡ true
unfolding is_version
announces = refl

lines_behind : (bytes : List ℕ) → lines_of (with_version bytes) ≡ version_line ∷ map next (lines_of bytes)
lines_behind bytes = ap (λ ls. version_line ∷ ls) (counted_alike 1 (slice_split (λ byte. byte == 10) bytes))

version_is_utf8 : is_utf8 (codes "version 2\n") ≡ true
unfolding is_utf8 chars encode
version_is_utf8 = refl

text_behind : (bytes : List ℕ) → is_text bytes ≡ true → is_text (with_version bytes) ≡ true
text_behind bytes e =
    let parts = and_parts (is_utf8 bytes) (not (list_any (λ byte. byte == 0) bytes)) e in
    let utf8 = is_utf8-from_IsUtf8 (with_version bytes) (IsUtf8-append (codes "version 2\n") bytes (IsUtf8-from_is_utf8 (codes "version 2\n") version_is_utf8) (IsUtf8-from_is_utf8 bytes parts.0)) in
    and_from (is_utf8 (with_version bytes)) (not (list_any (λ byte. byte == 0) (with_version bytes))) utf8 parts.1

read_alike : (bytes : List ℕ) (table : Table) (text : Bool) → is_text bytes ≡ text → is_first_version bytes ≡ true
    → cond text (table_of_lines (lines_of bytes)) (Err NotText) ≡ Ok table
    → cond (is_text (with_version bytes)) (table_of_lines (lines_of (with_version bytes))) (Err NotText) ≡ Ok table
read_alike bytes table false text alone e = cc
read_alike bytes table true text alone e =
    ap (λ b. cond b (table_of_lines (lines_of (with_version bytes))) (Err NotText)) (text_behind bytes text)
    ∙ ap table_of_lines (lines_behind bytes)
    ∙ ap (λ b. cond b (table_from true (map next (lines_of bytes))) (table_from false (version_line ∷ map next (lines_of bytes)))) announces
    ∙ lines_alike (lines_of bytes) table alone e

pub same_table : (bytes : List ℕ) (table : Table) → is_first_version bytes ≡ true → table_of bytes ≡ Ok table
    → table_of (with_version bytes) ≡ Ok table
unfolding table_of
same_table bytes table alone e = read_alike bytes table (is_text bytes) refl alone e
