-- A reader has read some lines, and reads one more.
use Rattle.std.specs.Prelude.{◌≡◌, ℕ, nat_le, true, false, Option, Some, None, Result, Ok, Err, List, [], ◌∷◌, ◌++◌, length}
use Rattle.unit_grammar.specs.Joining.{joined, with_open}
use Rattle.unit_grammar.specs.Reading.{section_of, assignments_of, notes_of, fault_at, fault_of, unit_of_lines}
use Rattle.unit_grammar.specs.declared.joined.Line.{Line}
use Rattle.unit_grammar.specs.declared.unit.Assignment.{Assignment}
use Rattle.unit_grammar.specs.declared.notes.Note.{Note}
use Rattle.unit_grammar.specs.declared.unit.UnitText.{UnitText}
use Rattle.unit_grammar.specs.declared.unit.UnitError.{UnitError}
use Rattle.unit_grammar.specs.declared.unit.UnitError.TheVariants.{NotText, BadHeader, TooMany, Memory}

-- the answer is this one, unless memory ran out
abbrev pub IsUnlessMemory : Result UnitText UnitError → Result UnitText UnitError → Type 0
IsUnlessMemory (Ok unit) wanted = wanted ≡ Ok unit
IsUnlessMemory (Err Memory) wanted = Unit {0}
IsUnlessMemory (Err NotText) wanted = wanted ≡ Err NotText
IsUnlessMemory (Err TooMany) wanted = wanted ≡ Err TooMany
IsUnlessMemory (Err (BadHeader number)) wanted = wanted ≡ Err (BadHeader number)

-- the reader has read some lines without a fault
pub record HasRead (lines : List Line) (section : Option (List ℕ)) (assignments : List Assignment) (notes : List Note) : Type 0 where
  pub faultless : fault_of lines ≡ None
  pub in_section : section ≡ section_of lines
  pub assigned : assignments ≡ assignments_of lines
  pub noted : notes ≡ notes_of lines

-- the reader reads one more line, or refuses it for its fault
abbrev pub Takes : List Line → Line → Result (Unit {0}) UnitError → Option (List ℕ) → List Assignment → List Note → Type 0
Takes lines line (Ok done) section assignments notes = HasRead (lines ++ line ∷ []) section assignments notes
Takes lines line (Err Memory) section assignments notes = Unit {0}
Takes lines line (Err NotText) section assignments notes = ⊥
Takes lines line (Err TooMany) section assignments notes = fault_at (lines, line) ≡ Some TooMany
Takes lines line (Err (BadHeader number)) section assignments notes = fault_at (lines, line) ≡ Some (BadHeader number)

-- the reader has read some joined lines of a file, may have begun another, and still has these parts to read
pub record StandsBefore (lines : List Line) (begun : Option Line) (parts : List Line) (section : Option (List ℕ)) (assignments : List Assignment) (notes : List Note) : Type 0 where
  pub front : List Line
  pub read : HasRead front section assignments notes
  pub whole : lines ≡ front ++ with_open begun (joined parts)

-- the reader passes over a part, or refuses the file
abbrev pub Passes : List Line → List Line → Result (Unit {0}) UnitError → Option Line → Option (List ℕ) → List Assignment → List Note
    → Type 0
Passes lines parts (Ok done) begun section assignments notes = StandsBefore lines begun parts section assignments notes
Passes lines parts (Err error) begun section assignments notes = IsUnlessMemory (Err error) (unit_of_lines lines)

-- the helper appends a note to its list
abbrev pub AddsNote : List Note → Note → Result (Unit {0}) UnitError → List Note → Type 0
AddsNote old note (Ok done) new = new ≡ old ++ note ∷ []
AddsNote old note (Err Memory) new = Unit {0}
AddsNote old note (Err NotText) new = ⊥
AddsNote old note (Err TooMany) new = ⊥
AddsNote old note (Err (BadHeader number)) new = ⊥

abbrev pub AddsAssignment : List Assignment → Assignment → Result (Unit {0}) UnitError → List Assignment → Type 0
AddsAssignment old assignment (Ok done) new = (nat_le 4096 (length old) ≡ false) × (new ≡ old ++ assignment ∷ [])
AddsAssignment old assignment (Err Memory) new = Unit {0}
AddsAssignment old assignment (Err NotText) new = ⊥
AddsAssignment old assignment (Err TooMany) new = nat_le 4096 (length old) ≡ true
AddsAssignment old assignment (Err (BadHeader number)) new = ⊥
