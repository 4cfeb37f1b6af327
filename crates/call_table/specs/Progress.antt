-- The reader answers step by step.
use Rattle.std.specs.Prelude.{◌≡◌, ℕ, ◌<◌, ◌≤◌, ◌||◌, Bool, true, false, Option, Some, None, is_some, IfSome, option_and_then, Result, Ok}
use Rattle.std.specs.Prelude.{Err, List, [], ◌∷◌, ◌++◌, length}
use Rattle.std.specs.List.{cons_option, list_any}
use Rattle.text_forms.specs.line_text.Lines.{Line}
use Rattle.call_table.specs.Kinds.{Entry, Kind}
use Rattle.call_table.specs.Numbers.{cap_of}
use Rattle.call_table.specs.Lookups.{has_name, has_number, named}
use Rattle.call_table.specs.Faults.{is_bad_cap, has_other_cap, entry_fault}
use Rattle.call_table.specs.Reading.{Head, listed_as, call_of, family_of, group_of, opened_by, fault_of, table_behind, table_of_rest}
use Rattle.call_table.specs.Reading.{table_from}
use Rattle.call_table.specs.Facts.{IsTable}
use Rattle.call_table.specs.Kernels.{AreBy}
use Rattle.call_table.specs.Table.{Abi, Table, every_call}
use Rattle.call_table.specs.Views.{made}
use Rattle.call_table.specs.declared.lists.Lists.{Lists}
use Rattle.call_table.specs.declared.call_names.kernel.Kernel.TheVariants.{Base}
use Rattle.call_table.specs.declared.listed.CallLine.{CallLine}
use Rattle.call_table.specs.declared.causes.CallsCause.{CallsCause}
use Rattle.call_table.specs.declared.causes.CallsCause.TheVariants.{Cap}
use Rattle.call_table.specs.declared.causes.CallsError.{CallsError}
use Rattle.call_table.specs.declared.causes.CallsError.TheVariants.{NotText, Line as AtLine, NoAbi, NoCall, Memory}

-- the answer is this one, unless memory ran out
abbrev pub IsUnlessMemory : Result Table CallsError → Result Table CallsError → Type 0
IsUnlessMemory (Ok table) wanted = wanted ≡ Ok table
IsUnlessMemory (Err Memory) wanted = Unit {0}
IsUnlessMemory (Err NotText) wanted = wanted ≡ Err NotText
IsUnlessMemory (Err (AtLine number cause)) wanted = wanted ≡ Err (AtLine number cause)
IsUnlessMemory (Err NoAbi) wanted = wanted ≡ Err NoAbi
IsUnlessMemory (Err (NoCall name)) wanted = wanted ≡ Err (NoCall name)

-- unless memory ran out, a step succeeds as wanted exactly if the line of this number has no fault
abbrev pub Steps : {X : Type 0} → Option CallsCause → ℕ → X → X → Result (Unit {0}) CallsError → Type 0
Steps cause number wanted made (Ok done) = (cause ≡ None) × (made ≡ wanted)
Steps cause number wanted made (Err Memory) = Unit {0}
Steps cause number wanted made (Err NotText) = ⊥
Steps cause number wanted made (Err (AtLine line found)) = (line ≡ number) × (cause ≡ Some found)
Steps cause number wanted made (Err NoAbi) = ⊥
Steps cause number wanted made (Err (NoCall name)) = ⊥

-- an entry without a fault after some lines has this number and this capability
pub record IsChecked (others lines : List CallLine) (most : ℕ) (without_cap : Bool) (entry : Entry) (number : ℕ) (cap' : Option ℕ) : Type 0 where
  pub faultless : entry_fault others lines most without_cap entry ≡ None
  pub listed : (place : ℕ) → listed_as place entry ≡ Some (record { name = entry.name; number = number; cap = cap'; abi = place; kernel = Base })
  pub same_cap : IfSome (named entry.name others) (λ other. other.cap ≡ cap')
  pub new_name : list_any (has_name entry.name) lines ≡ false
  pub new_number : list_any (has_number number) lines ≡ false
  pub fits : number < 4294967296
  pub known : IfSome cap' (λ number. number ≤ 40)
  pub room : length lines < most

abbrev pub ChecksEntry : List CallLine → List CallLine → ℕ → Bool → Entry → Result (ℕ × Option ℕ) CallsCause → Type 0
ChecksEntry others lines most without_cap entry (Ok found) = IsChecked others lines most without_cap entry found.0 found.1
ChecksEntry others lines most without_cap entry (Err cause) = entry_fault others lines most without_cap entry ≡ Some cause

-- the capability that a line writes
abbrev pub ReadsCap : Option (List ℕ) → Result (Option ℕ) CallsCause → Type 0
ReadsCap word (Ok found) = (is_bad_cap word ≡ false) × (found ≡ option_and_then cap_of word) ×
    (is_some found ≡ is_some word) × IfSome found (λ number. number ≤ 40)
ReadsCap word (Err cause) = (is_bad_cap word ≡ true) × (cause ≡ Cap)

-- a call line adds its call to the native ABI as long as there is no second ABI, and to the second ABI after that
abbrev pub native_with : Option Abi → Kind → Option CallLine
native_with None kind = call_of 0 kind
native_with (Some second) kind = None

abbrev pub second_with : Option Abi → Kind → Option Abi
second_with None kind = opened_by kind []
second_with (Some second) kind =
    Some (record { name = second.name; arch = second.arch; calls = second.calls ++ cons_option (call_of 1 kind) [] })

-- the capability that a line writes for a call of this name, if another ABI does not contradict it
abbrev pub ChecksCap : List CallLine → List ℕ → Option (List ℕ) → Result (Option ℕ) CallsCause → Type 0
ChecksCap others name word (Ok found) =
    ((is_bad_cap word || has_other_cap others name (option_and_then cap_of word)) ≡ false) × (found ≡ option_and_then cap_of word) ×
    (is_some found ≡ is_some word)
    × IfSome found (λ number. number ≤ 40) × IfSome (named name others) (λ other. other.cap ≡ found)
ChecksCap others name word (Err cause) = ((is_bad_cap word || has_other_cap others name (option_and_then cap_of word)) ≡ true) ×
    (cause ≡ Cap)

-- the table with one more line
abbrev pub with_kind : Table → Kind → Table
with_kind table kind =
    record {
      name = table.name;
      arch = table.arch;
      calls = table.calls ++ cons_option (native_with table.second kind) [];
      families = table.families ++ cons_option (family_of kind) [];
      groups = table.groups ++ cons_option (group_of (every_call table) table.groups kind) [];
      second = second_with table.second kind;
    }

-- the reader has read some lines without a fault
pub record HasRead (two : Bool) (head : Head) (lines : List Line) (table : Table) : Type 0 where
  pub faultless : fault_of two head lines ≡ None
  pub read : table ≡ table_behind head lines
  pub sound : IsTable table
  pub by_kernel : AreBy Base (every_call table)

abbrev pub ReadsRest : Bool → Head → List Line → Result Lists CallsError → Type 0
ReadsRest two head lines (Ok lists) = HasRead two head lines (made lists)
ReadsRest two head lines (Err Memory) = Unit {0}
ReadsRest two head lines (Err NotText) = ⊥
ReadsRest two head lines (Err (AtLine number cause)) = fault_of two head lines ≡ Some (AtLine number cause)
ReadsRest two head lines (Err NoAbi) = ⊥
ReadsRest two head lines (Err (NoCall name)) = ⊥

-- the first abi line gives the name and the architecture, or the refusal of the whole table
abbrev pub Opens : Line → Result (List ℕ × ℕ) CallsError → Type 0
Opens line (Ok head) = (two : Bool) (lines : List Line) → table_from two (line ∷ lines)
    ≡ table_of_rest two (record { name = head.0; arch = head.1 }) lines
Opens line (Err Memory) = Unit {0}
Opens line (Err NotText) = ⊥
Opens line (Err (AtLine number cause)) = (two : Bool) (lines : List Line) → table_from two (line ∷ lines) ≡ Err (AtLine number cause)
Opens line (Err NoAbi) = ⊥
Opens line (Err (NoCall name)) = ⊥
