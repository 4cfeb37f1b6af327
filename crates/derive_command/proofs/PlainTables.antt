-- The names of a table that was read are plain, and any of them, behind `@default`, have no more bytes than its text.
use Rattle.std.proofs.Common.{◌≡◌, ℕ, zero, ◌+◌, ◌<◌, ◌≤◌, suc, Bool, true, false, cond, Option, Some, None, Ok, Err, List, [], ◌∷◌, drop, take}
use Rattle.std.proofs.Common.{add-one, length, length-append, flat_map, refl, sym, ap, ◌∙◌, ◌++◌, subst, arith}
use Rattle.std.specs.Prelude.{◌&&◌, ◌==◌, codes, slice_get, slice_index, if◌then◌else◌}
use Rattle.std.specs.List.{AllByRecursion, list_all}
use Rattle.std.specs.List.Sorted.{IsStrictlyIncreasing}
use Rattle.std.specs.Option.{option_map, option_map_or}
use Rattle.std.specs.Str.Parse.{digits_value}
use Rattle.std.proofs.lemmas.Bool.{and_parts}
use Rattle.std.proofs.lemmas.Bool.Decides.{nat_tests}
use Rattle.std.proofs.lemmas.List.{map-append}
use Rattle.std.proofs.lemmas.List.Elements.{recursion_from_All}
use Rattle.std.proofs.lemmas.List.Folds.{list_all-map}
use Rattle.std.proofs.lemmas.List.Quantifiers.{position-Some}
use Rattle.asked_service.specs.text_forms.line_text.Lines.{Line, is_text, lines_of}
use Rattle.asked_service.specs.call_table.Kinds.{Kind, abi, call, family, group, malformed}
use Rattle.asked_service.specs.call_table.Lookups.{has_name, place_named}
use Rattle.asked_service.specs.call_table.Names.{is_name}
use Rattle.asked_service.specs.call_table.Numbers.{arch_of, is_lower_hex}
use Rattle.asked_service.specs.call_table.Reading.{Head, line_kind, table_behind, fault_of, missing_call, unless_missing, unless_fault}
use Rattle.asked_service.specs.call_table.Reading.{table_of_rest, with_arch, with_abi, table_from, is_version, table_of_lines, table_of}
use Rattle.asked_service.specs.call_table.Kernels.{calls_by, known_by, read_by, second_by}
use Rattle.asked_service.specs.call_table.Table.{Abi, Table, every_call, second_calls}
use Rattle.asked_service.specs.call_table.declared.call_names.kernel.Kernel.{Kernel}
use Rattle.asked_service.specs.call_table.declared.listed.CallLine.{CallLine}
use Rattle.asked_service.specs.call_table.declared.causes.CallsError.{CallsError}
use Rattle.asked_service.specs.call_table.declared.causes.CallsError.TheVariants.{NotText}
use Rattle.asked_service.proofs.OfCallTable.Places.{some_line}
use Rattle.derive_command.specs.trace_profile.Extended.{name_at, is_first_line}
use Rattle.derive_command.specs.trace_profile.Names.{AreNames}
use Rattle.derive_command.specs.trace_profile.PlainNames.{HasPlainNames}
use Rattle.derive_command.proofs.CallsOfLines.{FitsKind, every_call_fits, line_fits, room_of_lines, room_of_names, room_of_text}

-- ---- a table that was read
-- an architecture is eight digits
arch_is_long : (digits : List ℕ) (arch : ℕ) → arch_of digits ≡ Some arch → length digits ≡ 8
unfolding arch_of
arch_is_long digits arch = by (length digits == 8) refl
  where
    by : (b : Bool) → (length digits == 8) ≡ b → (if b && list_all is_lower_hex digits then Some (digits_value 16 digits) else None)
        ≡ Some arch → length digits ≡ 8
    by true e is = grind (arith, nat_tests)
    by false e is = cc

-- the names are plain, and stand in so many bytes with nine more, which are those of the abi line's digits and the byte behind them
abbrev FitsTable : ℕ → Table → Type 0
FitsTable room table = (list_all (λ line. is_name line.name) (every_call table) ≡ true) × (room_of_names (every_call table) + 9 ≤ room)

-- the lines behind the abi line
fits_behind : (two : Bool) (head : Head) (lines : List Line) (table : Table) (room : ℕ) → room_of_lines lines + 9 ≤ room
    → table_of_rest two head lines ≡ Ok table → FitsTable room table
fits_behind two head lines table room le = by (fault_of two head lines)
  where
    without_missing : (name : Option (List ℕ)) → unless_missing name (table_behind head lines) ≡ Ok table → FitsTable room table
    without_missing None is =
        let same : table_behind head lines ≡ table = cc in
        let fit = every_call_fits lines in
        subst (FitsTable room) same (fit.0, omega (arith, le, fit.1))
    without_missing (Some name) is = cc

    by : (fault : Option CallsError) → unless_fault fault (table_behind head lines) ≡ Ok table → FitsTable room table
    by None is = without_missing (missing_call (table_behind head lines).calls) is
    by (Some fault) is = cc

-- the abi line and those behind it
fits_from : (two : Bool) (lines : List Line) (table : Table) → table_from two lines ≡ Ok table → FitsTable (room_of_lines lines) table
fits_from two [] table is = cc
fits_from two (line ∷ lines) table is = by (line_kind line) (line_fits line) is
  where
    room : ℕ
    room = suc (length line.text) + room_of_lines lines

    with_number : (name digits : List ℕ) (arch : Option ℕ) → FitsKind (suc (length line.text)) (abi name digits) → arch_of digits ≡ arch
        → with_arch two line lines name arch ≡ Ok table → FitsTable room table
    with_number name digits None fits e is = cc
    with_number name digits (Some arch) fits e is =
        let long = arch_is_long digits arch e in
        fits_behind two (record { name = name; arch = arch }) lines table room (omega (arith, fits, long)) is

    by : (kind : Kind) → FitsKind (suc (length line.text)) kind → with_abi two line lines kind ≡ Ok table → FitsTable room table
    by (abi name digits) fits is = with_number name digits (arch_of digits) fits refl is
    by (call entry) fits is = cc
    by (family entry) fits is = cc
    by (group name members) fits is = cc
    by malformed fits is = cc

fits_more : (room more : ℕ) (table : Table) → room ≤ more → FitsTable room table → FitsTable more table
fits_more room more table le fits = (fits.0, omega (arith, le, fits.1))

fits_lines : (lines : List Line) (table : Table) → table_of_lines lines ≡ Ok table → FitsTable (room_of_lines lines) table
fits_lines [] table is = cc
fits_lines (line ∷ lines) table is = by (is_version line) is
  where
    by : (b : Bool) → cond b (table_from true lines) (table_from false (line ∷ lines)) ≡ Ok table
        → FitsTable (room_of_lines (line ∷ lines)) table
    by true is = fits_more (room_of_lines lines) (room_of_lines (line ∷ lines)) table (omega arith) (fits_from true lines table is)
    by false is = fits_from false (line ∷ lines) table is

-- the table of a text
fits_text : (bytes : List ℕ) (table : Table) → table_of bytes ≡ Ok table → FitsTable (suc (length bytes)) table
unfolding table_of
fits_text bytes table = by (is_text bytes)
  where
    by : (b : Bool) → cond b (table_of_lines (lines_of bytes)) (Err NotText) ≡ Ok table → FitsTable (suc (length bytes)) table
    by true is = fits_more (room_of_lines (lines_of bytes)) (suc (length bytes)) table (room_of_text bytes)
        (fits_lines (lines_of bytes) table is)
    by false is = cc

-- ---- a kernel that reads the names
named_room : (kernel : Kernel) (lines : List CallLine) → room_of_names (calls_by kernel lines) ≡ room_of_names lines
named_room kernel [] = refl
named_room kernel (line ∷ lines) = ap (λ room. suc (length line.name) + room) (named_room kernel lines)

every_by : (kernel : Kernel) (table : Table) → every_call (known_by kernel table) ≡ calls_by kernel (every_call table)
every_by kernel table =
    ap (λ more. calls_by kernel table.calls ++ more) (second_are table.second)
    ∙ sym (map-append (read_by kernel) table.calls (second_calls table.second))
  where
    second_are : (o : Option Abi) → second_calls (option_map (second_by kernel) o) ≡ calls_by kernel (second_calls o)
    second_are None = refl
    second_are (Some second) = refl

fits_by : (kernel : Kernel) (room : ℕ) (table : Table) → FitsTable room table → FitsTable room (known_by kernel table)
fits_by kernel room table fits =
    let every = every_call table in
    let plain = ap (λ calls. list_all (λ (line : CallLine). is_name line.name) calls) (every_by kernel table) ∙ list_all-map (λ (line : CallLine). is_name line.name) (read_by kernel) every ∙ fits.0 in
    let names = ap room_of_names (every_by kernel table) ∙ named_room kernel every in
    (plain, omega (arith, names, fits.1))

-- ---- some names of a table
-- what stands behind a later place is no more
later_is_no_more : (place later : ℕ) (lines : List CallLine) → place ≤ later
    → room_of_names (drop later lines) ≤ room_of_names (drop place lines)
later_is_no_more zero zero lines le = omega arith
later_is_no_more zero (suc later) [] le = omega arith
later_is_no_more zero (suc later) (line ∷ lines) le =
    let rest = later_is_no_more zero later lines (omega arith) in
    omega (arith, rest)
later_is_no_more (suc place) zero lines le = absurd (omega (arith, le))
later_is_no_more (suc place) (suc later) [] le = omega arith
later_is_no_more (suc place) (suc later) (line ∷ lines) le = later_is_no_more place later lines (omega (arith, le))

-- the name of a line, and what stands behind it
name_and_behind : (place : ℕ) (lines : List CallLine) → place < length lines
    → suc (length (option_map_or (λ (line : CallLine). line.name) (slice_get lines place) [])) + room_of_names (drop (suc place) lines)
    ≡ room_of_names (drop place lines)
name_and_behind place [] lt = absurd (omega (arith, lt))
name_and_behind zero (line ∷ lines) lt = refl
name_and_behind (suc place) (line ∷ lines) lt = name_and_behind place lines (omega (arith, lt))

-- what stands behind the first place ascends too
behind_first : (place : ℕ) (names : List ℕ) → IsStrictlyIncreasing (place ∷ names) → IsStrictlyIncreasing names
behind_first place names ascends k lt =
    let next : suc k + 1 ≡ suc (k + 1) = omega arith in
    subst (λ n. slice_index names k < slice_index (place ∷ names) n) next (ascends (suc k) (omega (arith, lt)))

module _ (table : Table) where
  abbrev names_of : List ℕ → List ℕ
  names_of names = flat_map (λ place. 32 ∷ name_at table place) names

  -- the first line of a name is one of the lines
  is_there : (place : ℕ) → is_first_line table place ≡ true → place < length (every_call table)
  is_there place h = by (place_named (name_at table place) (every_call table)) refl h
    where
      by : (found : Option ℕ) → place_named (name_at table place) (every_call table) ≡ found
          → option_map_or (λ own. own == place) found false ≡ true → place < length (every_call table)
      by None e h = cc
      by (Some own) e h =
          let there = (position-Some (has_name (name_at table place)) (every_call table) own some_line e).0 in
          let same : own ≡ place = grind (arith, nat_tests) in
          omega (arith, there, same)

  -- names from a place on, ascending
  names_behind : (from place : ℕ) (names : List ℕ) → from ≤ place
      → AllByRecursion (λ place. is_first_line table place ≡ true) (place ∷ names) → IsStrictlyIncreasing (place ∷ names)
      → length (names_of (place ∷ names)) ≤ room_of_names (drop from (every_call table))
  names_behind from place [] le first ascends =
      let long = length-append (32 ∷ name_at table place) [] in
      let fewer = later_is_no_more from place (every_call table) le in
      let parts = name_and_behind place (every_call table) (is_there place first.0) in
      omega (arith, long, fewer, parts)
  names_behind from place (next ∷ names) le first ascends =
      let long = length-append (32 ∷ name_at table place) (names_of (next ∷ names)) in
      let fewer = later_is_no_more from place (every_call table) le in
      let parts = name_and_behind place (every_call table) (is_there place first.0) in
      let rest = names_behind (suc place) next names (ascends 0 (omega arith)) first.1 (behind_first place (next ∷ names) ascends) in
      omega (arith, long, fewer, parts, rest)

  -- names that are listed stand in no more bytes than all
  names_fit : (names : List ℕ) → AreNames table names → length (names_of names) ≤ room_of_names (every_call table)
  names_fit [] are = omega arith
  names_fit (place ∷ names) are =
      names_behind 0 place names (omega arith)
      (recursion_from_All (λ place. is_first_line table place ≡ true) (place ∷ names) are.first_lines) are.in_order

-- a table whose names are plain and have room
pub plain_by_room : (table : Table) → list_all (λ line. is_name line.name) (every_call table) ≡ true
    → room_of_names (every_call table) + 8 ≤ 1048576 → HasPlainNames table
plain_by_room table plain le = record {
  plain = plain;
  short = λ names are.
      let long = length-append (codes "@default") (flat_map (λ place. 32 ∷ name_at table place) names) in
      let fewer = names_fit table names are in
      omega (arith, le, long, fewer);
}

-- the names of these lines are plain, and with a space before each they leave this room in one value, behind `@default`
pub record ArePlain (lines : List CallLine) (room : ℕ) : Type 0 where
  pub plain : list_all (λ line. is_name line.name) lines ≡ true
  pub fits : room_of_names lines + room ≡ 1048568

-- so they are with one line more
pub one_more_plain : (lines : List CallLine) (i room left : ℕ) → i < length lines → ArePlain (take i lines) room
    → is_name (option_map_or (λ (line : CallLine). line.name) (slice_get lines i) []) ≡ true
    → left + (length (option_map_or (λ (line : CallLine). line.name) (slice_get lines i) []) + 1) ≡ room
    → ArePlain (take (i + 1) lines) left
one_more_plain lines i room left lt before is less = record {
  plain = subst (λ n. list_all (λ (line : CallLine). is_name line.name) (take n lines) ≡ true) (sym (add-one i))
      (all_more lines i lt before.plain is);
  fits = let same = ap (λ n. room_of_names (take n lines)) (add-one i) in
      let more = room_more lines i lt in
      let had = before.fits in
      omega (arith, same, more, had, less);
}
  where
    all_more : (lines : List CallLine) (i : ℕ) → i < length lines → list_all (λ (line : CallLine). is_name line.name) (take i lines) ≡ true
        → is_name (option_map_or (λ (line : CallLine). line.name) (slice_get lines i) []) ≡ true
        → list_all (λ (line : CallLine). is_name line.name) (take (suc i) lines) ≡ true
    all_more [] i lt all is = absurd (omega (arith, lt))
    all_more (line ∷ lines) zero lt all is = ap (λ b. b && true) is
    all_more (line ∷ lines) (suc i) lt all is =
        let parts = and_parts (is_name line.name) (list_all (λ (own : CallLine). is_name own.name) (take i lines)) all in
        ap (λ b. b && list_all (λ (own : CallLine). is_name own.name) (take (suc i) lines)) parts.0
        ∙ all_more lines i (omega (arith, lt)) parts.1 is

    room_more : (lines : List CallLine) (i : ℕ) → i < length lines
        → room_of_names (take (suc i) lines) ≡ room_of_names (take i lines)
        + (length (option_map_or (λ (line : CallLine). line.name) (slice_get lines i) []) + 1)
    room_more [] i lt = absurd (omega (arith, lt))
    room_more (line ∷ lines) zero lt = omega arith
    room_more (line ∷ lines) (suc i) lt =
        let rest = room_more lines i (omega (arith, lt)) in
        omega (arith, rest)

-- so they are with the name at a place, which has been read
pub one_name_more : (table : Table) (i room left : ℕ) (name : List ℕ) → i < length (every_call table)
    → ArePlain (take i (every_call table)) room → name ≡ name_at table i → (is_name name ≡ true) × (left + (length name + 1) ≡ room)
    → ArePlain (take (i + 1) (every_call table)) left
one_name_more table i room left name lt before here told =
    one_more_plain (every_call table) i room left lt before (ap is_name (sym here) ∙ told.0)
    (ap (λ (own : List ℕ). left + (length own + 1)) (sym here) ∙ told.1)

-- all lines of a table
take_whole : {X : Type 0} (xs : List X) → take (length xs) xs ≡ xs
take_whole [] = refl
take_whole (x ∷ xs) = ap (λ ys. x ∷ ys) (take_whole xs)

pub all_are_plain : (table : Table) (n room : ℕ) → n ≡ length (every_call table) → ArePlain (take n (every_call table)) room
    → HasPlainNames table
all_are_plain table n room all are =
    let lines : List CallLine = take n (every_call table) in
    let is : lines ≡ every_call table = ap (λ k. take k (every_call table)) all ∙ take_whole (every_call table) in
    let plain : list_all (λ line. is_name line.name) (every_call table) ≡ true = ap (list_all (λ (line : CallLine). is_name line.name)) (sym is) ∙ are.plain in
    let same : room_of_names (every_call table) ≡ room_of_names lines = ap room_of_names (sym is) in
    let had = are.fits in
    plain_by_room table plain (omega (arith, same, had))

fitting_is_plain : (bytes : List ℕ) (table : Table) → length bytes ≤ 1048576 → FitsTable (suc (length bytes)) table → HasPlainNames table
fitting_is_plain bytes table le fits = plain_by_room table fits.0 (omega (arith, le, fits.1))

-- the table of a text of at most 1 MiB, whatever kernel reads the names
pub table_is_plain : (bytes : List ℕ) (table : Table) (kernel : Kernel) → length bytes ≤ 1048576 → table_of bytes ≡ Ok table
    → HasPlainNames (known_by kernel table)
table_is_plain bytes table kernel le is =
    fitting_is_plain bytes (known_by kernel table) le (fits_by kernel (suc (length bytes)) table (fits_text bytes table is))
