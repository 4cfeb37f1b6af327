-- The table follows from the lines.
use Rattle.std.proofs.Common.{◌≡◌, ℕ, Bool, true, false, cond, Option, Some, None, Ok, Err, List, [], ◌∷◌, ◌++◌, refl, sym, ap, ◌∙◌, subst}
use Rattle.std.proofs.Common.{append-nil, append_assoc}
use Rattle.std.specs.Prelude.{slice_get, find, not}
use Rattle.std.specs.Option.{option_map}
use Rattle.std.specs.List.{cons_option, filter_map, list_any, Contains}
use Rattle.call_table.specs.declared.listed.CallLine.{CallLine}
use Rattle.call_table.specs.declared.listed.GroupLine.{GroupLine}
use Rattle.call_table.specs.declared.causes.CallsCause.{CallsCause}
use Rattle.call_table.specs.declared.causes.CallsError.{CallsError}
use Rattle.call_table.specs.declared.causes.CallsError.TheVariants.{NotText}
use Rattle.call_table.specs.Before.{with_before}
use Rattle.text_forms.specs.line_text.Lines.{Line, is_text, lines_of}
use Rattle.call_table.specs.Kinds.{Kind, abi, call, family, group, malformed}
use Rattle.call_table.specs.Numbers.{arch_of}
use Rattle.call_table.specs.Lookups.{has_name}
use Rattle.call_table.specs.Members.{members_of}
use Rattle.call_table.specs.Faults.{cause_of}
use Rattle.call_table.specs.Table.{Table}
use Rattle.call_table.specs.Reading.{Head, line_kind, group_of, calls_of, native_lines, every_call_of, with_group, groups_behind}
use Rattle.call_table.specs.Reading.{table_behind, at_line, fault_at, fault_of, launch_calls, lacks, missing_call, unless_missing}
use Rattle.call_table.specs.Reading.{unless_fault, with_arch, with_abi, table_from, is_version, table_of_lines, table_of}
use Rattle.call_table.specs.Meaning.{ReadsGroups, no_line, other_line, group_line, BeginsWith, alone, behind_version, ReadsTable}
use Rattle.call_table.proofs.Befores.{given-append}
use Rattle.call_table.proofs.Places.{missing_any, fails}
use Rattle.call_table.proofs.Standing.{is_group}

-- one more line
group_step : (done : List Line) (groups : List GroupLine) (line : Line) (kind : Kind) → line_kind line ≡ kind → ReadsGroups done groups
    → ReadsGroups (done ++ line ∷ []) (groups ++ cons_option (group_of (every_call_of done) groups kind) [])
group_step done groups line (abi name digits) e h = subst (ReadsGroups (done ++ line ∷ [])) (sym (append-nil groups)) (other_line done groups line h (λ name words is. let differ = sym e ∙ is in cc))
group_step done groups line (call entry) e h = subst (ReadsGroups (done ++ line ∷ [])) (sym (append-nil groups)) (other_line done groups line h (λ name words is. let differ = sym e ∙ is in cc))
group_step done groups line (family entry) e h = subst (ReadsGroups (done ++ line ∷ [])) (sym (append-nil groups)) (other_line done groups line h (λ name words is. let differ = sym e ∙ is in cc))
group_step done groups line (group name words) e h = group_line done groups line name words
    (record { name = name; members = members_of (every_call_of done) groups words }) h e (is_group (every_call_of done) groups name words)
group_step done groups line malformed e h = subst (ReadsGroups (done ++ line ∷ [])) (sym (append-nil groups)) (other_line done groups line h (λ name words is. let differ = sym e ∙ is in cc))

groups_read : (done : List Line) (groups : List GroupLine) (lines : List Line) → ReadsGroups done groups
    → ReadsGroups (done ++ lines) (groups_behind groups (with_before done lines))
groups_read done groups [] h = subst (λ (ls : List Line). ReadsGroups ls groups) (sym (append-nil done)) h
groups_read done groups (line ∷ lines) h =
    subst (λ (ls : List Line). ReadsGroups ls (groups_behind groups (with_before done (line ∷ lines))))
    (append_assoc done (line ∷ []) lines)
    (groups_read (done ++ line ∷ []) (with_group groups (done, line)) lines (group_step done groups line (line_kind line) refl h))

no_first : {X : Type 0} (xs ys : List X) → slice_get (xs ++ ys) 0 ≡ None → ys ≡ []
no_first [] [] e = refl
no_first [] (y ∷ ys) e = cc
no_first (x ∷ xs) ys e = cc

no_cause : (o : Option CallsCause) (number : ℕ) (rest : List CallsError) → cons_option (option_map (at_line number) o) rest ≡ [] → o ≡ None
no_cause None number rest e = refl
no_cause (Some cause) number rest e = cc

line_is_faultless : (two : Bool) (head : Head) (before : List Line) (line : Line) (after : List Line)
    → fault_of two head (before ++ line ∷ after) ≡ None → cause_of two (table_behind head before) (line_kind line) ≡ None
line_is_faultless two head before line after e =
    no_cause (cause_of two (table_behind head before) (line_kind line)) line.number
    (filter_map (fault_at two head) (with_before (before ++ line ∷ []) after))
    (no_first (filter_map (fault_at two head) (with_before [] before))
    (filter_map (fault_at two head) (with_before before (line ∷ after)))
    (ap (λ faults. slice_get faults 0) (sym (given-append (fault_at two head) before (line ∷ after))) ∙ e))

not_false : (b : Bool) → not b ≡ false → b ≡ true
not_false true e = refl
not_false false e = cc

none_missing : (calls : List CallLine) (names : List (List ℕ)) (name : List ℕ) → find (lacks calls) names ≡ None → Contains names name
    → list_any (has_name name) calls ≡ true
none_missing calls names name e h =
    let absent = missing_any (lacks calls) names e in
    not_false (list_any (has_name name) calls) (ap (lacks calls) (sym h.2) ∙ fails (lacks calls) names h.0 name absent h.1)

launches : (calls : List CallLine) → missing_call calls ≡ None → (name : List ℕ) → Contains launch_calls name
    → list_any (has_name name) calls ≡ true
unfolding missing_call
launches calls e name h = none_missing calls launch_calls name e h

whole : (table : Table) (missing : Option (List ℕ)) (made : Table) → missing_call made.calls ≡ missing
    → unless_missing missing made ≡ Ok table → (made ≡ table) × (missing_call made.calls ≡ None)
whole table None made m e = let same : made ≡ table = cc in (same, m)
whole table (Some name) made m e = cc

faultless : (two : Bool) (head : Head) (rest : List Line) (table : Table) (fault : Option CallsError) → fault_of two head rest ≡ fault
    → unless_fault fault (table_behind head rest) ≡ Ok table
    → (table_behind head rest ≡ table) × (missing_call (calls_of 0 (native_lines rest)) ≡ None) × (fault_of two head rest ≡ None)
faultless two head rest table None f e = let sound = whole table (missing_call (calls_of 0 (native_lines rest))) (table_behind head rest) refl e in (sound.0, sound.1, f)
faultless two head rest table (Some fault) f e = cc

rest_read : (bytes : List ℕ) (table : Table) (two : Bool) (first : Line) (rest : List Line) (name digits : List ℕ) (arch : Option ℕ)
    → is_text bytes ≡ true → BeginsWith first rest two (lines_of bytes) → line_kind first ≡ abi name digits → arch_of digits ≡ arch
    → with_arch two first rest name arch ≡ Ok table → ReadsTable bytes table
rest_read bytes table two first rest name digits None text split first_is read e = cc
rest_read bytes table two first rest name digits (Some arch) text split first_is read e =
    let head : Head = record { name = name; arch = arch } in
    let sound = faultless two head rest table (fault_of two head rest) refl e in
    let same_arch : arch ≡ table.arch = ap (λ (t : Table). t.arch) sound.0 in
    let same_name : name ≡ table.name = ap (λ (t : Table). t.name) sound.0 in
    let same : head ≡ record { name = table.name; arch = table.arch } = ap (λ (t : Table). record { name = t.name; arch = t.arch }) sound.0 in
    record {
      text = text;
      two = two;
      first = first;
      rest = rest;
      lines = split;
      digits = digits;
      abi_line = first_is ∙ ap (λ n. abi n digits) same_name;
      arch = read ∙ ap Some same_arch;
      calls = sym (ap (λ (t : Table). t.calls) sound.0);
      families = sym (ap (λ (t : Table). t.families) sound.0);
      groups = subst (ReadsGroups rest) (ap (λ (t : Table). t.groups) sound.0) (groups_read [] [] rest no_line);
      second = sym (ap (λ (t : Table). t.second) sound.0);
      faultless = λ before line after is.
          ap (λ (h : Head). cause_of two (table_behind h before) (line_kind line)) (sym same)
          ∙ line_is_faultless two head before line after (ap (fault_of two head) (sym is) ∙ sound.2);
      launches = launches table.calls (ap (λ (t : Table). missing_call t.calls) (sym sound.0) ∙ sound.1);
    }

abi_read : (bytes : List ℕ) (table : Table) (two : Bool) (first : Line) (rest : List Line) (kind : Kind) → is_text bytes ≡ true
    → BeginsWith first rest two (lines_of bytes) → line_kind first ≡ kind → with_abi two first rest kind ≡ Ok table → ReadsTable bytes table
abi_read bytes table two first rest (abi name digits) text split first_is e =
    rest_read bytes table two first rest name digits (arch_of digits) text split first_is refl e
abi_read bytes table two first rest (call entry) text split first_is e = cc
abi_read bytes table two first rest (family entry) text split first_is e = cc
abi_read bytes table two first rest (group name members) text split first_is e = cc
abi_read bytes table two first rest malformed text split first_is e = cc

behind_version_read : (bytes : List ℕ) (table : Table) (version : Line) (lines : List Line) → is_text bytes ≡ true
    → lines_of bytes ≡ version ∷ lines → is_version version ≡ true → table_from true lines ≡ Ok table → ReadsTable bytes table
behind_version_read bytes table version [] text split is e = cc
behind_version_read bytes table version (first ∷ rest) text split is e =
    abi_read bytes table true first rest (line_kind first) text
    (subst (BeginsWith first rest true) (sym split) (behind_version version is)) refl e

first_line_read : (bytes : List ℕ) (table : Table) (first : Line) (rest : List Line) (b : Bool) → is_text bytes ≡ true
    → lines_of bytes ≡ first ∷ rest → is_version first ≡ b → cond b (table_from true rest) (table_from false (first ∷ rest)) ≡ Ok table
    → ReadsTable bytes table
first_line_read bytes table first rest true text split is e = behind_version_read bytes table first rest text split is e
first_line_read bytes table first rest false text split is e =
    abi_read bytes table false first rest (line_kind first) text (subst (BeginsWith first rest false) (sym split) (alone is)) refl e

lines_read : (bytes : List ℕ) (table : Table) (lines : List Line) → is_text bytes ≡ true → lines_of bytes ≡ lines
    → table_of_lines lines ≡ Ok table → ReadsTable bytes table
lines_read bytes table [] text split e = cc
lines_read bytes table (first ∷ rest) text split e = first_line_read bytes table first rest (is_version first) text split refl e

text_read : (bytes : List ℕ) (table : Table) (text : Bool) → is_text bytes ≡ text
    → cond text (table_of_lines (lines_of bytes)) (Err NotText) ≡ Ok table → ReadsTable bytes table
text_read bytes table true t e = lines_read bytes table (lines_of bytes) t refl e
text_read bytes table false t e = cc

pub meaning : (bytes : List ℕ) (table : Table) → table_of bytes ≡ Ok table → ReadsTable bytes table
unfolding table_of
meaning bytes table e = text_read bytes table (is_text bytes) refl e
