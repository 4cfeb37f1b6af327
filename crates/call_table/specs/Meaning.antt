-- A table follows from the lines of calls.txt.
use Rattle.std.specs.Prelude.{◌≡◌, ◌⊎◌, ℕ, Bool, true, false, Some, None, List, [], ◌∷◌, ◌++◌, slice_get}
use Rattle.std.specs.List.{Contains, list_any}
use Rattle.std.specs.List.Sorted.{IsStrictlyIncreasing}
use Rattle.text_forms.specs.line_text.Lines.{Line, is_text, lines_of}
use Rattle.call_table.specs.Kinds.{abi, group}
use Rattle.call_table.specs.Numbers.{arch_of}
use Rattle.call_table.specs.Names.{behind_at}
use Rattle.call_table.specs.Lookups.{has_name, place_named, group_named}
use Rattle.call_table.specs.Faults.{cause_of}
use Rattle.call_table.specs.Reading.{line_kind, calls_of, native_lines, second_of, every_call_of, families_of, table_behind, is_version}
use Rattle.call_table.specs.Reading.{launch_calls}
use Rattle.call_table.specs.Table.{Table}
use Rattle.call_table.specs.declared.listed.CallLine.{CallLine}
use Rattle.call_table.specs.declared.listed.GroupLine.{GroupLine}

-- a word without `@` names the first call of its name
pub record NamesCall (calls : List CallLine) (word : List ℕ) (position : ℕ) : Type 0 where
  pub plain : behind_at word ≡ None
  pub first : place_named word calls ≡ Some position

-- a word with `@` names the members of an earlier group
pub record NamesGroup (groups : List GroupLine) (word : List ℕ) (position : ℕ) : Type 0 where
  pub name : List ℕ
  pub group : GroupLine
  pub behind : behind_at word ≡ Some name
  pub found : group_named name groups ≡ Some group
  pub member : Contains group.members position

-- a word of a group line names the call at a position
abbrev pub StandsFor : List CallLine → List GroupLine → List ℕ → ℕ → Type 0
StandsFor calls groups word position = NamesCall calls word position ⊎ NamesGroup groups word position

-- a group line after some calls and groups: its members ascend, and are exactly the calls that some word names
pub record IsGroup (calls : List CallLine) (groups : List GroupLine) (name : List ℕ) (words : List (List ℕ)) (made : GroupLine) : Type 0 where
  pub called : made.name ≡ name
  pub ascending : IsStrictlyIncreasing made.members
  pub members : (position : ℕ) →
      (Contains made.members position → (call : CallLine) × (word : List ℕ) ×
      (slice_get calls position ≡ Some call) × Contains words word × StandsFor calls groups word position)
      × ((call : CallLine) (word : List ℕ) → slice_get calls position ≡ Some call → Contains words word
      → StandsFor calls groups word position → Contains made.members position)

-- the groups of some lines: each group line gives one group, by the lines before it
pub data ReadsGroups : List Line → List GroupLine → Type 0 where
  no_line : ReadsGroups [] []
  other_line : (lines : List Line) (groups : List GroupLine) (line : Line) → ReadsGroups lines groups
      → ((name : List ℕ) (words : List (List ℕ)) → line_kind line ≡ group name words → ⊥) → ReadsGroups (lines ++ line ∷ []) groups
  group_line : (lines : List Line) (groups : List GroupLine) (line : Line) (name : List ℕ) (words : List (List ℕ)) (made : GroupLine)
      → ReadsGroups lines groups
      → line_kind line ≡ group name words → IsGroup (every_call_of lines) groups name words made
      → ReadsGroups (lines ++ line ∷ []) (groups ++ made ∷ [])

-- the file begins with the first abi line, or with `version 2` and then the first abi line
pub data BeginsWith (first : Line) (rest : List Line) : Bool → List Line → Type 0 where
  alone : is_version first ≡ false → BeginsWith first rest false (first ∷ rest)
  behind_version : (version : Line) → is_version version ≡ true → BeginsWith first rest true (version ∷ first ∷ rest)

-- the bytes are text. The first abi line gives the name and the architecture. Each later line adds to the lists, by the lines
-- before it. The native ABI has the calls of every launch
pub record ReadsTable (bytes : List ℕ) (table : Table) : Type 0 where
  pub text : is_text bytes ≡ true
  pub two : Bool
  pub first : Line
  pub rest : List Line
  pub lines : BeginsWith first rest two (lines_of bytes)
  pub digits : List ℕ
  pub abi_line : line_kind first ≡ abi table.name digits
  pub arch : arch_of digits ≡ Some table.arch
  pub calls : table.calls ≡ calls_of 0 (native_lines rest)
  pub families : table.families ≡ families_of rest
  pub groups : ReadsGroups rest table.groups
  pub second : table.second ≡ second_of rest
  pub faultless : (before : List Line) (line : Line) (after : List Line) → rest ≡ before ++ line ∷ after
      → cause_of two (table_behind (record { name = table.name; arch = table.arch }) before) (line_kind line) ≡ None
  pub launches : (name : List ℕ) → Contains launch_calls name → list_any (has_name name) table.calls ≡ true
