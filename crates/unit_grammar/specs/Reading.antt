-- The assignments of a unit file (systemd.syntax(7)), by cases on each joined line and the lines before it.
use Rattle.std.specs.Prelude.{ℕ, ◌==◌, ◌&&◌, not, nat_le, Bool, cond, Option, Some, None, Result, Ok, Err, List, [], length, slice_get}
use Rattle.std.specs.List.{filter_map, list_any}
use Rattle.std.specs.Str.{is_utf8}
use Rattle.unit_grammar.specs.Before.{with_before, last_of}
use Rattle.unit_grammar.specs.Lines.{joined_lines}
use Rattle.unit_grammar.specs.Kinds.{Kind, skipped, header, bad_header, no_equals, assigns, kind_of}
use Rattle.unit_grammar.specs.declared.joined.Line.{Line}
use Rattle.unit_grammar.specs.declared.unit.Assignment.{Assignment}
use Rattle.unit_grammar.specs.declared.notes.Note.{Note}
use Rattle.unit_grammar.specs.declared.notes.NoteCause.TheVariants.{NoSection, NoEquals}
use Rattle.unit_grammar.specs.declared.unit.UnitText.{UnitText}
use Rattle.unit_grammar.specs.declared.unit.UnitError.{UnitError}
use Rattle.unit_grammar.specs.declared.unit.UnitError.TheVariants.{NotText, BadHeader, TooMany}

-- the name of a header
abbrev pub header_name : Kind → Option (List ℕ)
header_name (header section) = Some section
header_name kind = None

-- the last header before a line names its section
abbrev pub section_of : List Line → Option (List ℕ)
section_of before = last_of (filter_map (λ line. header_name (kind_of line.text)) before)

-- an assignment has an effect under a header
abbrev pub under : Option (List ℕ) → ℕ → List ℕ → List ℕ → Option Assignment
under None number key value = None
under (Some section) number key value = Some (record { section = section; key = key; value = value; line = number })

-- the assignment of a line in this section
abbrev pub assignment_in : Option (List ℕ) → ℕ → Kind → Option Assignment
assignment_in section number skipped = None
assignment_in section number (header name) = None
assignment_in section number bad_header = None
assignment_in section number no_equals = None
assignment_in section number (assigns key value) = under section number key value

-- the assignment of a line, given the lines before it
abbrev pub assignment_at : List Line × Line → Option Assignment
assignment_at place = assignment_in (section_of place.0) place.1.number (kind_of place.1.text)

-- all assignments under headers, in any section
abbrev pub assignments_of : List Line → List Assignment
assignments_of lines = filter_map assignment_at (with_before [] lines)

-- an assignment before any header gets a note
abbrev pub unplaced : Option (List ℕ) → ℕ → Option Note
unplaced None number = Some (record { line = number; cause = NoSection })
unplaced (Some section) number = None

-- a line gets a note if it has no `=` or no key, or precedes any header
abbrev pub note_in : Option (List ℕ) → ℕ → Kind → Option Note
note_in section number skipped = None
note_in section number (header name) = None
note_in section number bad_header = None
note_in section number no_equals = Some (record { line = number; cause = NoEquals })
note_in section number (assigns key value) = unplaced section number

-- the note on a line, given the lines before it
abbrev pub note_at : List Line × Line → Option Note
note_at place = note_in (section_of place.0) place.1.number (kind_of place.1.text)

-- all notes
abbrev pub notes_of : List Line → List Note
notes_of lines = filter_map note_at (with_before [] lines)

-- after 4,096 assignments under headers, one more is too many
abbrev pub overfull : Option (List ℕ) → ℕ → Option UnitError
overfull None count = None
overfull (Some section) count = cond (nat_le 4096 count) (Some TooMany) None

-- the fault of a line: a header that does not end, or one assignment too many
abbrev pub fault_in : Option (List ℕ) → ℕ → ℕ → Kind → Option UnitError
fault_in section count number skipped = None
fault_in section count number (header name) = None
fault_in section count number bad_header = Some (BadHeader number)
fault_in section count number no_equals = None
fault_in section count number (assigns key value) = overfull section count

-- the fault of a line, given the lines before it
abbrev pub fault_at : List Line × Line → Option UnitError
fault_at place = fault_in (section_of place.0) (length (assignments_of place.0)) place.1.number (kind_of place.1.text)

-- the first fault decides
abbrev pub fault_of : List Line → Option UnitError
fault_of lines = slice_get (filter_map fault_at (with_before [] lines)) 0

-- a file with a fault is refused and assigns nothing
abbrev pub unless_fault : Option UnitError → UnitText → Result UnitText UnitError
unless_fault None unit = Ok unit
unless_fault (Some fault) unit = Err fault

-- the contents of a file with these joined lines
abbrev pub unit_of_lines : List Line → Result UnitText UnitError
unit_of_lines lines = unless_fault (fault_of lines) (record { assignments = assignments_of lines; notes = notes_of lines })

-- a text is UTF-8 without NUL
abbrev pub is_text : List ℕ → Bool
is_text bytes = is_utf8 bytes && not (list_any (λ byte. byte == 0) bytes)

-- the contents of a file with these bytes; bytes that are no text are refused before anything else
abbrev pub unit_of : List ℕ → Result UnitText UnitError
unit_of bytes = cond (is_text bytes) (unit_of_lines (joined_lines bytes)) (Err NotText)
