-- The table of calls.txt, or the first refusal: by cases on each line and the lines before it.
use Rattle.std.specs.Prelude.{ℕ, ◌&&◌, not, Bool, true, false, cond, Option, Some, None, option_and_then, unwrap_or, Result, Ok, Err, List}
use Rattle.std.specs.Prelude.{[], ◌∷◌, ◌++◌, codes, slice_get, find}
use Rattle.std.specs.List.{filter_map, list_any, cons_option}
use Rattle.std.specs.Option.{option_map, option_or}
use Rattle.std.specs.Str.{bytes_eq}
use Rattle.call_table.specs.Before.{with_before}
use Rattle.text_forms.specs.line_text.Lines.{Line, is_text, lines_of, words_of}
use Rattle.call_table.specs.Kinds.{Entry, Kind, abi, call, family, group, malformed, kind_of}
use Rattle.call_table.specs.Numbers.{arch_of, number_of, cap_of}
use Rattle.call_table.specs.Lookups.{has_name}
use Rattle.call_table.specs.Members.{members_of}
use Rattle.call_table.specs.Faults.{cause_of}
use Rattle.call_table.specs.Table.{Abi, Table, second_calls}
use Rattle.call_table.specs.declared.call_names.kernel.Kernel.TheVariants.{Base}
use Rattle.call_table.specs.declared.listed.CallLine.{CallLine}
use Rattle.call_table.specs.declared.listed.GroupLine.{GroupLine}
use Rattle.call_table.specs.declared.causes.CallsCause.{CallsCause}
use Rattle.call_table.specs.declared.causes.CallsCause.TheVariants.{Words, Number}
use Rattle.call_table.specs.declared.causes.CallsError.{CallsError}
use Rattle.call_table.specs.declared.causes.CallsError.TheVariants.{NotText, Line as AtLine, NoAbi, NoCall}

unfoldable pub line_kind : Line → Kind
line_kind line = kind_of (words_of line.text)

-- the line of an entry in a table, if its number can be read; it belongs to the ABI of this position, and a family has 0; the base
-- kernel reads its name
abbrev pub listed_as : ℕ → Entry → Option CallLine
listed_as place entry = option_map
    (λ number. record { name = entry.name; number = number; cap = option_and_then cap_of entry.cap_word; abi = place; kernel = Base })
    (number_of entry.digits)

abbrev pub call_of : ℕ → Kind → Option CallLine
call_of place (abi name digits) = None
call_of place (call entry) = listed_as place entry
call_of place (family entry) = None
call_of place (group name members) = None
call_of place malformed = None

abbrev pub family_of : Kind → Option CallLine
family_of (abi name digits) = None
family_of (call entry) = None
family_of (family entry) = listed_as 0 entry
family_of (group name members) = None
family_of malformed = None

abbrev pub group_of : List CallLine → List GroupLine → Kind → Option GroupLine
group_of calls groups (abi name digits) = None
group_of calls groups (call entry) = None
group_of calls groups (family entry) = None
group_of calls groups (group name members) = Some (record { name = name; members = members_of calls groups members })
group_of calls groups malformed = None

-- the calls of some lines, for the ABI of this position, and the families
abbrev pub calls_of : ℕ → List Line → List CallLine
calls_of place lines = filter_map (λ line. call_of place (line_kind line)) lines

abbrev pub families_of : List Line → List CallLine
families_of lines = filter_map (λ line. family_of (line_kind line)) lines

abbrev pub is_abi : Kind → Bool
is_abi (abi name digits) = true
is_abi (call entry) = false
is_abi (family entry) = false
is_abi (group name members) = false
is_abi malformed = false

-- the lines of the native ABI, which precede a further abi line
abbrev pub native_lines : List Line → List Line
native_lines [] = []
native_lines (line ∷ lines) = cond (is_abi (line_kind line)) [] (line ∷ native_lines lines)

-- an abi line opens an ABI with the calls of the lines after it; an ill-formed ARCH is a fault
abbrev pub opened_by : Kind → List Line → Option Abi
opened_by (abi name digits) lines = Some (record { name = name; arch = unwrap_or (arch_of digits) 0; calls = calls_of 1 lines })
opened_by (call entry) lines = None
opened_by (family entry) lines = None
opened_by (group name members) lines = None
opened_by malformed lines = None

-- the second ABI of the lines after the first abi line, which the first abi line among them opens
abbrev pub second_of : List Line → Option Abi
second_of [] = None
second_of (line ∷ lines) = option_or (opened_by (line_kind line) lines) (second_of lines)

-- all calls of the lines after the first abi line
abbrev pub every_call_of : List Line → List CallLine
every_call_of lines = calls_of 0 (native_lines lines) ++ second_calls (second_of lines)

-- one more line after some groups: the members of a group are calls and groups of earlier lines
abbrev pub with_group : List GroupLine → List Line × Line → List GroupLine
with_group groups place = groups ++ cons_option (group_of (every_call_of place.0) groups (line_kind place.1)) []

abbrev pub groups_behind : List GroupLine → List (List Line × Line) → List GroupLine
groups_behind groups [] = groups
groups_behind groups (place ∷ places) = groups_behind (with_group groups place) places

-- the groups of some lines
abbrev pub groups_of : List Line → List GroupLine
groups_of lines = groups_behind [] (with_before [] lines)

-- the name and the architecture of an abi line
pub record Head : Type 0 where
  pub name : List ℕ
  pub arch : ℕ

-- the table of the first abi line and the lines after it
abbrev pub table_behind : Head → List Line → Table
table_behind head lines = record {
  name = head.name;
  arch = head.arch;
  calls = calls_of 0 (native_lines lines);
  families = families_of lines;
  groups = groups_of lines;
  second = second_of lines;
}

abbrev pub at_line : ℕ → CallsCause → CallsError
at_line number cause = AtLine number cause

-- the fault of a line, given the lines before it; `two` says whether the file announces two ABIs
abbrev pub fault_at : Bool → Head → List Line × Line → Option CallsError
fault_at two head place = option_map (at_line place.1.number) (cause_of two (table_behind head place.0) (line_kind place.1))

-- the first fault of the lines after the first abi line
abbrev pub fault_of : Bool → Head → List Line → Option CallsError
fault_of two head lines = slice_get (filter_map (fault_at two head) (with_before [] lines)) 0

-- the calls that every launch makes
abbrev pub launch_calls : List (List ℕ)
launch_calls = codes "capset" ∷ codes "execve" ∷ codes "prctl" ∷ codes "seccomp" ∷ codes "setgroups" ∷ codes "setresgid" ∷ codes
    "setresuid" ∷ codes "unshare" ∷ []

-- no call of the native ABI has the name
abbrev pub lacks : List CallLine → List ℕ → Bool
lacks calls name = not (list_any (has_name name) calls)

-- the first of these calls that a list of calls lacks
unfoldable pub missing_call : List CallLine → Option (List ℕ)
missing_call calls = find (lacks calls) launch_calls

abbrev pub unless_missing : Option (List ℕ) → Table → Result Table CallsError
unless_missing None table = Ok table
unless_missing (Some name) table = Err (NoCall name)

abbrev pub unless_fault : Option CallsError → Table → Result Table CallsError
unless_fault None table = unless_missing (missing_call table.calls) table
unless_fault (Some fault) table = Err fault

-- the lines after the first abi line give the first fault, or else the first missing call, or else the table
abbrev pub table_of_rest : Bool → Head → List Line → Result Table CallsError
table_of_rest two head lines = unless_fault (fault_of two head lines) (table_behind head lines)

abbrev pub with_arch : Bool → Line → List Line → List ℕ → Option ℕ → Result Table CallsError
with_arch two line lines name None = Err (AtLine line.number Number)
with_arch two line lines name (Some arch) = table_of_rest two (record { name = name; arch = arch }) lines

-- the first line is an abi line
abbrev pub with_abi : Bool → Line → List Line → Kind → Result Table CallsError
with_abi two line lines (abi name digits) = with_arch two line lines name (arch_of digits)
with_abi two line lines (call entry) = Err (AtLine line.number Words)
with_abi two line lines (family entry) = Err (AtLine line.number Words)
with_abi two line lines (group name members) = Err (AtLine line.number Words)
with_abi two line lines malformed = Err (AtLine line.number Words)

abbrev pub table_from : Bool → List Line → Result Table CallsError
table_from two [] = Err NoAbi
table_from two (line ∷ lines) = with_abi two line lines (line_kind line)

-- `version 2`
abbrev pub is_version_by : List (List ℕ) → Bool
is_version_by (word ∷ number ∷ []) = bytes_eq word (codes "version") && bytes_eq number (codes "2")
is_version_by words = false

unfoldable pub is_version : Line → Bool
is_version line = is_version_by (words_of line.text)

-- the table of the lines that are not skipped; a first line `version 2` announces two ABIs
abbrev pub table_of_lines : List Line → Result Table CallsError
table_of_lines [] = Err NoAbi
table_of_lines (line ∷ lines) = cond (is_version line) (table_from true lines) (table_from false (line ∷ lines))

-- the table of calls.txt; bytes that are no text are refused before anything else
unfoldable pub table_of : List ℕ → Result Table CallsError
table_of bytes = cond (is_text bytes) (table_of_lines (lines_of bytes)) (Err NotText)

-- a text of the first version: its first line that is not skipped, if any, is no `version 2`
abbrev pub begins_alone : List Line → Bool
begins_alone [] = true
begins_alone (line ∷ lines) = not (is_version line)

abbrev pub is_first_version : List ℕ → Bool
is_first_version bytes = begins_alone (lines_of bytes)

-- the same text after a line `version 2`
abbrev pub with_version : List ℕ → List ℕ
with_version bytes = codes "version 2\n" ++ bytes
