-- The kernel that reads the names of the calls of a table leaves all other facts of the table.
use Rattle.std.proofs.Common.{◌≡◌, ℕ, ◌+◌, ◌≤◌, Bool, true, false, cond, ltb, List, [], ◌∷◌, length, map, Option, Some, None}
use Rattle.std.proofs.Common.{get_or, IfSome, refl, sym, ap, ◌∙◌, subst, arith}
use Rattle.std.specs.Prelude.{◌||◌, not, find, slice_get, option_and_then}
use Rattle.std.specs.Option.{option_map, option_or}
use Rattle.std.specs.List.{position, position_or_len, list_any, enumerate_from, All, cons_option}
use Rattle.std.specs.List.Sorted.{IsPermutation}
use Rattle.std.proofs.Common.{length-append}
use Rattle.std.proofs.lemmas.List.{length-map}
use Rattle.std.proofs.lemmas.List.Elements.{All-map, All-append, All-cons}
use Rattle.std.proofs.lemmas.Option.{slice_get-map}
use Rattle.call_table.specs.ByNumber.{numbered_at, AscendsByNumber}
use Rattle.call_table.specs.Facts.{AreLines, AreOf, AreGroups, HasCapAmong, IsSecond, IsTable, IsWhole, IsKept}
use Rattle.call_table.specs.Kernels.{read_by, calls_by, second_by, known_by, AreBy}
use Rattle.call_table.specs.Kinds.{Entry, Kind, abi, call, family, group, malformed}
use Rattle.call_table.specs.Lookups.{has_name, has_number, named, place_named, place_numbered, AreOnce, IsInRange}
use Rattle.call_table.specs.Numbers.{number_of, cap_of}
use Rattle.call_table.specs.Reading.{lacks, launch_calls, missing_call, line_kind, listed_as, call_of, calls_of, opened_by, second_of}
use Rattle.call_table.specs.Reading.{Head, table_behind, native_lines}
use Rattle.call_table.specs.Table.{Abi, Table, second_calls, every_call}
use Rattle.call_table.specs.declared.by_number.Numbered.{Numbered}
use Rattle.call_table.specs.declared.call_names.kernel.Kernel.{Kernel}
use Rattle.call_table.specs.declared.call_names.kernel.Kernel.TheVariants.{Base}
use Rattle.call_table.specs.declared.listed.CallLine.{CallLine}
use Rattle.text_forms.specs.line_text.Lines.{Line}

-- a change of elements that a test does not see
module _ {X : Type 0} (f : X → X) (p : X → Bool) (same : (x : X) → p (f x) ≡ p x) where
  first_by : (xs : List X) → position_or_len p (map f xs) ≡ position_or_len p xs
  first_by [] = refl
  first_by (x ∷ xs) = ap (λ b. cond (not b) (1 + position_or_len p (map f xs)) 0) (same x)
      ∙ ap (λ n. cond (not (p x)) (1 + n) 0) (first_by xs)

  place_by : (xs : List X) → position p (map f xs) ≡ position p xs
  place_by xs =
      ap (λ n. cond (ltb n (length (map f xs))) (Some n) None) (first_by xs)
      ∙ ap (λ m. cond (ltb (position_or_len p xs) m) (Some (position_or_len p xs)) None) (length-map xs f)

  found_by : (xs : List X) → find p (map f xs) ≡ option_map f (find p xs)
  found_by [] = refl
  found_by (x ∷ xs) = ap (λ b. cond b (Some (f x)) (find p (map f xs))) (same x) ∙ by (p x) (found_by xs)
    where
      by : (b : Bool) → find p (map f xs) ≡ option_map f (find p xs)
          → cond b (Some (f x)) (find p (map f xs)) ≡ option_map f (cond b (Some x) (find p xs))
      by true e = refl
      by false e = e

  any_by : (xs : List X) → list_any p (map f xs) ≡ list_any p xs
  any_by [] = refl
  any_by (x ∷ xs) = ap (λ b. b || list_any p (map f xs)) (same x) ∙ ap (λ b. p x || b) (any_by xs)

module _ (kernel : Kernel) where
  name_by : (name : List ℕ) (lines : List CallLine) → place_named name (calls_by kernel lines) ≡ place_named name lines
  name_by name lines = place_by (read_by kernel) (has_name name) (λ line. refl) lines

  number_by : (number : ℕ) (lines : List CallLine) → place_numbered number (calls_by kernel lines) ≡ place_numbered number lines
  number_by number lines = place_by (read_by kernel) (has_number number) (λ line. refl) lines

  -- the line at a place is one of before
  record Before (lines : List CallLine) (at : ℕ) (line : CallLine) : Type 0 where
    own : CallLine
    listed : slice_get lines at ≡ Some own
    is : read_by kernel own ≡ line

  before : (lines : List CallLine) (at : ℕ) (line : CallLine) → slice_get (calls_by kernel lines) at ≡ Some line → Before lines at line
  before lines at line e = by (slice_get lines at) refl (sym (slice_get-map (read_by kernel) lines at) ∙ e)
    where
      by : (o : Option CallLine) → slice_get lines at ≡ o → option_map (read_by kernel) o ≡ Some line → Before lines at line
      by None h e = cc
      by (Some own) h e = record { own = own; listed = h; is = cc }

  once_by : (lines : List CallLine) → AreOnce lines → AreOnce (calls_by kernel lines)
  once_by lines once = record {
    by_name = λ at line e.
        let b = before lines at line e in
        ap (λ (l : CallLine). place_named l.name (calls_by kernel lines)) (sym b.is) ∙ name_by b.own.name lines
        ∙ once.by_name at b.own b.listed;
    by_number = λ at line e.
        let b = before lines at line e in
        ap (λ (l : CallLine). place_numbered l.number (calls_by kernel lines)) (sym b.is) ∙ number_by b.own.number lines
        ∙ once.by_number at b.own b.listed;
  }

  lines_by : (most : ℕ) (lines : List CallLine) → AreLines most lines → AreLines most (calls_by kernel lines)
  lines_by most lines are = record {
    once = once_by lines are.once;
    in_range = All-map IsInRange (read_by kernel) lines (λ k d lt. let own = are.in_range k d lt in record { number = own.number; capability = own.capability });
    few = subst (λ n. n ≤ most) (sym (length-map lines (read_by kernel))) are.few;
  }

  of_by : (place : ℕ) (lines : List CallLine) → AreOf place lines → AreOf place (calls_by kernel lines)
  of_by place lines own = All-map (λ line. line.abi ≡ place) (read_by kernel) lines own

  -- the capability of a name
  cap_by : (others : List CallLine) (line : CallLine) → HasCapAmong others line
      → HasCapAmong (calls_by kernel others) (read_by kernel line)
  cap_by others line h = subst (λ (o : Option CallLine). IfSome o (λ other. other.cap ≡ line.cap))
      (sym (found_by (read_by kernel) (has_name line.name) (λ line. refl) others)) (by (named line.name others) h)
    where
      by : (o : Option CallLine) → IfSome o (λ other. other.cap ≡ line.cap)
          → IfSome (option_map (read_by kernel) o) (λ other. other.cap ≡ line.cap)
      by None h = tt
      by (Some other) h = h

  caps_by : (others lines : List CallLine) → All (HasCapAmong others) lines
      → All (HasCapAmong (calls_by kernel others)) (calls_by kernel lines)
  caps_by others lines h = All-map (HasCapAmong (calls_by kernel others)) (read_by kernel) lines
      (λ k d lt. cap_by others (get_or lines k d) (h k d lt))

  -- as many calls
  second_length : (o : Option Abi) → length (second_calls (option_map (second_by kernel) o)) ≡ length (second_calls o)
  second_length None = refl
  second_length (Some second) = length-map second.calls (read_by kernel)

  every_length : (table : Table) → length (every_call (known_by kernel table)) ≡ length (every_call table)
  every_length table =
      length-append (calls_by kernel table.calls) (second_calls (option_map (second_by kernel) table.second))
      ∙ ap (λ n. n + length (second_calls (option_map (second_by kernel) table.second))) (length-map table.calls (read_by kernel))
      ∙ ap (λ n. length table.calls + n) (second_length table.second)
      ∙ sym (length-append table.calls (second_calls table.second))

  second_sound_by : (table : Table) (o : Option Abi) → IfSome o (IsSecond table)
      → IfSome (option_map (second_by kernel) o) (IsSecond (known_by kernel table))
  second_sound_by table None h = tt
  second_sound_by table (Some second) h = record {
    calls = lines_by 512 second.calls h.calls;
    own = of_by 1 second.calls h.own;
    other_name = h.other_name;
    other_arch = h.other_arch;
    same_caps = caps_by table.calls second.calls h.same_caps;
  }

  sound_by : (table : Table) → IsTable table → IsTable (known_by kernel table)
  sound_by table h = record {
    calls = lines_by 512 table.calls h.calls;
    native = of_by 0 table.calls h.native;
    no_abi = h.no_abi;
    families = h.families;
    groups = subst (λ (n : ℕ). AreGroups n table.groups) (sym (every_length table)) h.groups;
    few_groups = h.few_groups;
    second = second_sound_by table table.second h.second;
  }

  missing_by : (calls : List CallLine) → missing_call (calls_by kernel calls) ≡ missing_call calls
  unfolding missing_call
  missing_by calls =
      let same : lacks (calls_by kernel calls) ≡ lacks calls = λ i name. not (any_by (read_by kernel) (has_name name) (λ line. refl) calls i) in
      ap (λ (test : List ℕ → Bool). find test launch_calls) same

  all_by : (calls : List CallLine) → AreBy kernel (calls_by kernel calls)
  all_by calls = All-map (λ call. call.kernel ≡ kernel) (read_by kernel) calls (λ k d lt. refl)

  second_all_by : (o : Option Abi) → AreBy kernel (second_calls (option_map (second_by kernel) o))
  second_all_by None = λ k d lt. absurd (omega arith)
  second_all_by (Some second) = all_by second.calls

  whole_by : (table : Table) → IsWhole table → IsWhole (known_by kernel table)
  whole_by table h = record {
    sound = sound_by table h.sound;
    launches = missing_by table.calls ∙ h.launches;
    kernel = kernel;
    by_kernel = All-append (λ call. call.kernel ≡ kernel) (calls_by kernel table.calls)
        (second_calls (option_map (second_by kernel) table.second)) (all_by table.calls) (second_all_by table.second);
  }

  -- the order by numbers
  pairs_by : (n : ℕ) (lines : List CallLine) → map numbered_at (enumerate_from n (calls_by kernel lines))
      ≡ map numbered_at (enumerate_from n lines)
  pairs_by n [] = refl
  pairs_by n (line ∷ lines) = ap (λ pairs. record { number = line.number; position = n } ∷ pairs) (pairs_by (n + 1) lines)

  order_by : (lines : List CallLine) (order : List Numbered) → AscendsByNumber lines order → AscendsByNumber (calls_by kernel lines) order
  order_by lines order h = record {
    each_once = subst (λ (numbers : List Numbered). IsPermutation numbers order) (sym (pairs_by 0 lines)) h.each_once;
    ascending = h.ascending;
  }

  second_order_by : (o : Option Abi) (order : List Numbered) → AscendsByNumber (second_calls o) order
      → AscendsByNumber (second_calls (option_map (second_by kernel) o)) order
  second_order_by None order h = h
  second_order_by (Some second) order h = order_by second.calls order h

  pub kept_by : (table : Table) (order second_order : List Numbered) → IsKept table order second_order
      → IsKept (known_by kernel table) order second_order
  kept_by table order second_order h = record {
    whole = whole_by table h.whole;
    by_number = order_by table.calls order h.by_number;
    second_by_number = second_order_by table.second second_order h.second_by_number;
  }

-- the base kernel reads the names of the calls of some lines
listed_base : (place : ℕ) (entry : Entry) → IfSome (listed_as place entry) (λ line. line.kernel ≡ Base)
listed_base place entry = by (number_of entry.digits)
  where
    by : (o : Option ℕ) → IfSome (option_map (λ number. record { name = entry.name; number = number; cap = option_and_then cap_of entry.cap_word; abi = place; kernel = Base }) o) (λ (line : CallLine). line.kernel ≡ Base)
    by None = tt
    by (Some number) = refl

call_base : (place : ℕ) (kind : Kind) → IfSome (call_of place kind) (λ line. line.kernel ≡ Base)
call_base place (abi name digits) = tt
call_base place (call entry) = listed_base place entry
call_base place (family entry) = tt
call_base place (group name members) = tt
call_base place malformed = tt

one_more : (o : Option CallLine) (lines : List CallLine) → IfSome o (λ line. line.kernel ≡ Base) → AreBy Base lines
    → AreBy Base (cons_option o lines)
one_more None lines own more = more
one_more (Some line) lines own more = All-cons (λ call. call.kernel ≡ Base) line lines own more

calls_base : (place : ℕ) (lines : List Line) → AreBy Base (calls_of place lines)
calls_base place [] = λ k d lt. absurd (omega arith)
calls_base place (line ∷ lines) = one_more (call_of place (line_kind line)) (calls_of place lines) (call_base place (line_kind line)) (calls_base place lines)

opened_base : (kind : Kind) (lines : List Line) → AreBy Base (second_calls (opened_by kind lines))
opened_base (abi name digits) lines = calls_base 1 lines
opened_base (call entry) lines = λ k d lt. absurd (omega arith)
opened_base (family entry) lines = λ k d lt. absurd (omega arith)
opened_base (group name members) lines = λ k d lt. absurd (omega arith)
opened_base malformed lines = λ k d lt. absurd (omega arith)

either_base : (one other : Option Abi) → AreBy Base (second_calls one) → AreBy Base (second_calls other)
    → AreBy Base (second_calls (option_or one other))
either_base None other own more = more
either_base (Some second) other own more = own

second_base : (lines : List Line) → AreBy Base (second_calls (second_of lines))
second_base [] = λ k d lt. absurd (omega arith)
second_base (line ∷ lines) = either_base (opened_by (line_kind line) lines) (second_of lines) (opened_base (line_kind line) lines) (second_base lines)

pub read_base : (head : Head) (lines : List Line) (table : Table) → table ≡ table_behind head lines → AreBy Base (every_call table)
read_base head lines table e =
    subst (λ (t : Table). AreBy Base (every_call t)) (sym e)
    (All-append (λ call. call.kernel ≡ Base) (calls_of 0 (native_lines lines)) (second_calls (second_of lines))
    (calls_base 0 (native_lines lines)) (second_base lines))
