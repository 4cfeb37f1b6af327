-- One more line adds to the lines that have been read.
use Rattle.std.proofs.Common.{◌≡◌, ℕ, Bool, cond, Option, Some, None, Err, List, [], ◌∷◌, ◌++◌, length, refl, sym, ap, ◌∙◌, suc, ◌+◌, map}
use Rattle.std.proofs.Common.{◌<◌, get_or, take, drop}
use Rattle.std.proofs.Math.Seq.{drop-cons}
use Rattle.std.proofs.lemmas.List.{take-append-drop, take_more, map-append, get_or_default}
use Rattle.std.specs.Prelude.{slice_get, unwrap_or}
use Rattle.std.specs.Option.{option_map, option_or}
use Rattle.std.specs.List.{filter_map, cons_option}
use Rattle.std.proofs.lemmas.List.Elements.{filter_map-append}
use Rattle.call_table.specs.declared.listed.GroupLine.{GroupLine}
use Rattle.call_table.specs.declared.causes.CallsCause.{CallsCause}
use Rattle.call_table.specs.declared.causes.CallsError.{CallsError}
use Rattle.call_table.specs.declared.causes.CallsError.TheVariants.{NotText, Line as AtLine, NoAbi, NoCall, Memory}
use Rattle.call_table.specs.Before.{with_before}
use Rattle.text_forms.specs.line_text.Lines.{Line}
use Rattle.call_table.specs.Table.{Table}
use Rattle.call_table.specs.Facts.{IsTable}
use Rattle.call_table.specs.Faults.{cause_of}
use Rattle.call_table.specs.Kinds.{Kind, abi, call, family, group, malformed}
use Rattle.call_table.specs.Numbers.{arch_of}
use Rattle.call_table.specs.Reading.{Head, line_kind, call_of, family_of, group_of, calls_of, is_abi, native_lines, opened_by, second_of}
use Rattle.call_table.specs.Reading.{every_call_of, with_group, groups_behind, groups_of, table_behind, at_line, fault_at, fault_of}
use Rattle.call_table.specs.Progress.{Steps, native_with, second_with, with_kind, HasRead, ReadsRest}
use Rattle.call_table.proofs.Befores.{with_before-append, given-append}
use Rattle.call_table.proofs.ReadBy.{read_base}

groups_behind-append : (groups : List GroupLine) (places more : List (List Line × Line))
    → groups_behind groups (places ++ more) ≡ groups_behind (groups_behind groups places) more
groups_behind-append groups [] more = refl
groups_behind-append groups (place ∷ places) more = groups_behind-append (with_group groups place) places more

-- the groups of some lines and one more line
pub groups_more : (lines : List Line) (line : Line) → groups_of (lines ++ line ∷ [])
    ≡ groups_of lines ++ cons_option (group_of (every_call_of lines) (groups_of lines) (line_kind line)) []
groups_more lines line = ap (groups_behind []) (with_before-append [] lines (line ∷ []))
    ∙ groups_behind-append [] (with_before [] lines) ((lines, line) ∷ [])

behind_option : {X : Type 0} (o : Option X) (xs ys : List X) → cons_option o (xs ++ ys) ≡ cons_option o xs ++ ys
behind_option None xs ys = refl
behind_option (Some x) xs ys = refl

-- one more line adds to the native ABI while no second ABI is open
native_more : (lines : List Line) (line : Line) → calls_of 0 (native_lines (lines ++ line ∷ []))
    ≡ calls_of 0 (native_lines lines) ++ cons_option (native_with (second_of lines) (line_kind line)) []
native_more [] line = by (line_kind line) refl
  where
    by : (kind : Kind) → line_kind line ≡ kind → calls_of 0 (cond (is_abi kind) [] (line ∷ [])) ≡ cons_option (call_of 0 kind) []
    by (abi name digits) e = refl
    by (call entry) e = ap (λ k. cons_option (call_of 0 k) []) e
    by (family entry) e = ap (λ k. cons_option (call_of 0 k) []) e
    by (group name members) e = ap (λ k. cons_option (call_of 0 k) []) e
    by malformed e = ap (λ k. cons_option (call_of 0 k) []) e
native_more (first ∷ lines) line = by (line_kind first) (ap (cons_option (call_of 0 (line_kind first))) (native_more lines line)
    ∙ behind_option (call_of 0 (line_kind first)) (calls_of 0 (native_lines lines))
    (cons_option (native_with (second_of lines) (line_kind line)) []))
  where
    by : (kind : Kind) → calls_of 0 (first ∷ native_lines (lines ++ line ∷ []))
        ≡ calls_of 0 (first ∷ native_lines lines) ++ cons_option (native_with (second_of lines) (line_kind line)) []
        → calls_of 0 (cond (is_abi kind) [] (first ∷ native_lines (lines ++ line ∷ [])))
        ≡ calls_of 0 (cond (is_abi kind) [] (first ∷ native_lines lines)) ++ cons_option
        (native_with (option_or (opened_by kind lines) (second_of lines)) (line_kind line)) []
    by (abi name digits) goes_on = refl
    by (call entry) goes_on = goes_on
    by (family entry) goes_on = goes_on
    by (group name members) goes_on = goes_on
    by malformed goes_on = goes_on

-- one more line adds to the second ABI if it is open
second_more : (lines : List Line) (line : Line) → second_of (lines ++ line ∷ []) ≡ second_with (second_of lines) (line_kind line)
second_more [] line = by (line_kind line)
  where
    by : (kind : Kind) → option_or (opened_by kind []) None ≡ opened_by kind []
    by (abi name digits) = refl
    by (call entry) = refl
    by (family entry) = refl
    by (group name members) = refl
    by malformed = refl
second_more (first ∷ lines) line = by (line_kind first) (second_more lines line)
  where
    by : (kind : Kind) → second_of (lines ++ line ∷ []) ≡ second_with (second_of lines) (line_kind line)
        → option_or (opened_by kind (lines ++ line ∷ [])) (second_of (lines ++ line ∷ []))
        ≡ second_with (option_or (opened_by kind lines) (second_of lines)) (line_kind line)
    by (abi name digits) later = ap (λ calls. Some (record { name = name; arch = unwrap_or (arch_of digits) 0; calls = calls }))
        (filter_map-append (λ (l : Line). call_of 1 (line_kind l)) lines (line ∷ []))
    by (call entry) later = later
    by (family entry) later = later
    by (group name members) later = later
    by malformed later = later

table_more : (head : Head) (lines : List Line) (line : Line)
    → with_kind (table_behind head lines) (line_kind line) ≡ table_behind head (lines ++ line ∷ [])
table_more head lines line =
    let calls = native_more lines line in
    let families = filter_map-append (λ (l : Line). family_of (line_kind l)) lines (line ∷ []) in
    let groups = groups_more lines line in
    let second = second_more lines line in
    sym (λ i. record { name = head.name; arch = head.arch; calls = calls i; families = families i; groups = groups i; second = second i })

no_more : (faults : List CallsError) (o : Option CallsError) → slice_get faults 0 ≡ None → o ≡ None
    → slice_get (faults ++ cons_option o []) 0 ≡ None
no_more [] o e f = ap (λ o. slice_get (cons_option o []) 0) f
no_more (fault ∷ faults) o e f = e

-- the fault of a line, by the table of the lines before it
fault_known : (two : Bool) (head : Head) (lines : List Line) (line : Line) (table : Table) (cause : Option CallsCause)
    → HasRead two head lines table → cause_of two table (line_kind line) ≡ cause
    → fault_at two head (lines, line) ≡ option_map (at_line line.number) cause
fault_known two head lines line table cause h e = ap (λ (t : Table). option_map (at_line line.number) (cause_of two t (line_kind line)))
    (sym h.read) ∙ ap (option_map (at_line line.number)) e

pub reads_more : (two : Bool) (head : Head) (lines : List Line) (line : Line) (table next : Table) → HasRead two head lines table
    → cause_of two table (line_kind line) ≡ None → next ≡ with_kind table (line_kind line) → IsTable next
    → HasRead two head (lines ++ line ∷ []) next
reads_more two head lines line table next h none made sound =
    let read : next ≡ table_behind head (lines ++ line ∷ []) = made ∙ ap (λ (t : Table). with_kind t (line_kind line)) h.read ∙ table_more head lines line in
    record {
      faultless = ap (λ faults. slice_get faults 0) (given-append (fault_at two head) lines (line ∷ []))
          ∙ no_more (filter_map (fault_at two head) (with_before [] lines)) (fault_at two head (lines, line)) h.faultless
          (fault_known two head lines line table None h none);
      read = read;
      sound = sound;
      by_kernel = read_base head (lines ++ line ∷ []) next read;
    }

first-append : (xs ys : List CallsError) → slice_get xs 0 ≡ None → slice_get (xs ++ ys) 0 ≡ slice_get ys 0
first-append [] ys e = refl
first-append (x ∷ xs) ys e = cc

-- the first line with a fault decides
first_fault : (two : Bool) (head : Head) (front : List Line) (line : Line) (rest : List Line) (fault : CallsError)
    → fault_of two head front ≡ None → fault_at two head (front, line) ≡ Some fault → fault_of two head (front ++ line ∷ rest) ≡ Some fault
first_fault two head front line rest fault none e =
    ap (λ faults. slice_get faults 0) (given-append (fault_at two head) front (line ∷ rest))
    ∙ first-append (filter_map (fault_at two head) (with_before [] front))
    (filter_map (fault_at two head) (with_before front (line ∷ rest))) none
    ∙ ap (λ o. slice_get (cons_option o (filter_map (fault_at two head) (with_before (front ++ line ∷ []) rest))) 0) e

pub stops : (two : Bool) (head : Head) (lines front : List Line) (line : Line) (rest : List Line) (table wanted next : Table)
    (error : CallsError) → lines ≡ front ++ line ∷ rest → HasRead two head front table
    → Steps (cause_of two table (line_kind line)) line.number wanted next (Err error) → ReadsRest two head lines (Err error)
stops two head lines front line rest table wanted next Memory split h t = tt
stops two head lines front line rest table wanted next NotText split h t = absurd t
stops two head lines front line rest table wanted next NoAbi split h t = absurd t
stops two head lines front line rest table wanted next (NoCall name) split h t = absurd t
stops two head lines front line rest table wanted next (AtLine number cause) split h t =
    ap (fault_of two head) split
    ∙ first_fault two head front line rest (AtLine number cause) h.faultless
    (fault_known two head front line table (Some cause) h t.1 ∙ ap (λ n. Some (AtLine n cause)) (sym t.0))

-- a list at one of its places
pub split_at : {X : Type 0} (xs : List X) (i : ℕ) (x : X) → i < length xs → x ≡ get_or xs i x → xs ≡ take i xs ++ x ∷ drop (suc i) xs
split_at xs i x lt is = sym (take-append-drop i xs) ∙ ap (λ ls. take i xs ++ ls)
    (drop-cons xs i x lt ∙ ap (λ l. l ∷ drop (suc i) xs) (sym is))

-- the image of a list, at one of its places
pub split_made : {X Y : Type 0} (f : X → Y) (xs : List X) (i : ℕ) (d : X) → i < length xs
    → map f xs ≡ map f (take i xs) ++ f (get_or xs i d) ∷ map f (drop (suc i) xs)
split_made f xs i d lt =
    let x = get_or xs i d in
    ap (map f) (split_at xs i x lt (get_or_default xs i d x lt)) ∙ map-append f (take i xs) (x ∷ drop (suc i) xs)

pub take_made : {X Y : Type 0} (f : X → Y) (xs : List X) (i : ℕ) (d : X) → i < length xs
    → map f (take (i + 1) xs) ≡ map f (take i xs) ++ f (get_or xs i d) ∷ []
take_made f xs i d lt = ap (map f) (take_more xs i d lt) ∙ map-append f (take i xs) (get_or xs i d ∷ [])
