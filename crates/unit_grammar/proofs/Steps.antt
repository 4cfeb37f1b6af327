-- One more line adds to the lines that have been read.
use Rattle.std.proofs.Common.{◌≡◌, ℕ, cond, Option, Some, None, Result, Ok, Err, List, [], ◌∷◌, ◌++◌, length, refl, sym, ap, ◌∙◌}
use Rattle.std.proofs.Common.{append-nil}
use Rattle.std.specs.Prelude.{slice_get}
use Rattle.std.specs.List.{filter_map, cons_option}
use Rattle.std.proofs.lemmas.List.Elements.{filter_map-append}
use Rattle.unit_grammar.specs.declared.joined.Line.{Line}
use Rattle.unit_grammar.specs.declared.unit.Assignment.{Assignment}
use Rattle.unit_grammar.specs.declared.notes.Note.{Note}
use Rattle.unit_grammar.specs.declared.unit.UnitError.{UnitError}
use Rattle.unit_grammar.specs.declared.unit.UnitError.TheVariants.{NotText, BadHeader, TooMany, Memory}
use Rattle.unit_grammar.specs.Kinds.{Kind, assigns, kind_of}
use Rattle.unit_grammar.specs.Before.{with_before, last_of}
use Rattle.unit_grammar.proofs.Befores.{with_before-append, later, last_of-append}
use Rattle.unit_grammar.specs.Reading.{header_name, section_of, assignment_in, assignment_at, assignments_of, note_in, note_at, notes_of}
use Rattle.unit_grammar.specs.Reading.{fault_in, fault_at, fault_of, unless_fault, unit_of_lines}
use Rattle.unit_grammar.specs.Progress.{HasRead, Takes, AddsNote, AddsAssignment, IsUnlessMemory}

-- the values of the lines, with more lines
given-append : {X : Type 0} (f : List Line × Line → Option X) (lines more : List Line)
    → filter_map f (with_before [] (lines ++ more)) ≡ filter_map f (with_before [] lines) ++ filter_map f (with_before lines more)
given-append f lines more = ap (filter_map f) (with_before-append [] lines more)
    ∙ filter_map-append f (with_before [] lines) (with_before lines more)

given_more : {X : Type 0} (f : List Line × Line → Option X) (lines : List Line) (line : Line)
    → filter_map f (with_before [] (lines ++ line ∷ [])) ≡ filter_map f (with_before [] lines) ++ cons_option (f (lines, line)) []
given_more f lines line = given-append f lines (line ∷ [])

section_more : (lines : List Line) (line : Line) → section_of (lines ++ line ∷ [])
    ≡ later (header_name (kind_of line.text)) (section_of lines)
section_more lines line =
    ap last_of (filter_map-append (λ l. header_name (kind_of l.text)) lines (line ∷ []))
    ∙ last_of-append (filter_map (λ l. header_name (kind_of l.text)) lines) (header_name (kind_of line.text))

no_more : (faults : List UnitError) (o : Option UnitError) → slice_get faults 0 ≡ None → o ≡ None
    → slice_get (faults ++ cons_option o []) 0 ≡ None
no_more [] o e f = ap (λ o. slice_get (cons_option o []) 0) f
no_more (fault ∷ faults) o e f = e

-- the fault of a line, by its kind
pub fault_known : (lines : List Line) (line : Line) (kind : Kind) (section : Option (List ℕ)) (assignments : List Assignment)
    (notes : List Note) → HasRead lines section assignments notes → kind ≡ kind_of line.text
    → fault_at (lines, line) ≡ fault_in section (length assignments) line.number kind
fault_known lines line kind section assignments notes h e =
    ap (λ k. fault_in (section_of lines) (length (assignments_of lines)) line.number k) (sym e)
    ∙ ap (λ s. fault_in s (length (assignments_of lines)) line.number kind) (sym h.in_section)
    ∙ ap (λ a. fault_in section (length a) line.number kind) (sym h.assigned)

pub reads_more : (lines : List Line) (line : Line) (kind : Kind) (section section' : Option (List ℕ))
    (assignments assignments' : List Assignment) (notes notes' : List Note) → HasRead lines section assignments notes
    → kind ≡ kind_of line.text → fault_in section (length assignments) line.number kind ≡ None
    → section' ≡ later (header_name kind) section → assignments' ≡ assignments ++ cons_option (assignment_in section line.number kind) []
    → notes' ≡ notes ++ cons_option (note_in section line.number kind) [] → HasRead (lines ++ line ∷ []) section' assignments' notes'
reads_more lines line kind section section' assignments assignments' notes notes' h e none s a n = record {
  faultless = ap (λ fs. slice_get fs 0) (given_more fault_at lines line)
      ∙ no_more (filter_map fault_at (with_before [] lines)) (fault_at (lines, line)) h.faultless
      (fault_known lines line kind section assignments notes h e ∙ none);
  in_section = s ∙ ap (λ o. later (header_name kind) o) h.in_section ∙ ap (λ k. later (header_name k) (section_of lines)) e
      ∙ sym (section_more lines line);
  assigned = a ∙ ap (λ x. x ++ cons_option (assignment_in section line.number kind) []) h.assigned
      ∙ ap (λ o. assignments_of lines ++ cons_option (assignment_in o line.number kind) []) h.in_section
      ∙ ap (λ k. assignments_of lines ++ cons_option (assignment_in (section_of lines) line.number k) []) e
      ∙ sym (given_more assignment_at lines line);
  noted = n ∙ ap (λ x. x ++ cons_option (note_in section line.number kind) []) h.noted
      ∙ ap (λ o. notes_of lines ++ cons_option (note_in o line.number kind) []) h.in_section
      ∙ ap (λ k. notes_of lines ++ cons_option (note_in (section_of lines) line.number k) []) e ∙ sym (given_more note_at lines line);
}

pub takes_note : (lines : List Line) (line : Line) (kind : Kind) (note : Note) (section section' : Option (List ℕ))
    (assignments assignments' : List Assignment) (notes notes' : List Note) (result : Result (Unit {0}) UnitError)
    → HasRead lines section assignments notes → kind ≡ kind_of line.text → header_name kind ≡ None
    → fault_in section (length assignments) line.number kind ≡ None → note_in section line.number kind ≡ Some note
    → assignment_in section line.number kind ≡ None → AddsNote notes note result notes' → section' ≡ section → assignments' ≡ assignments
    → Takes lines line result section' assignments' notes'
takes_note lines line kind note section section' assignments assignments' notes notes' (Ok done) h e none fault n a added s same =
    reads_more lines line kind section section' assignments assignments' notes notes' h e fault
    (s ∙ sym (ap (λ o. later o section) none))
    (same ∙ sym (append-nil assignments) ∙ sym (ap (λ o. assignments ++ cons_option o []) a))
    (added ∙ sym (ap (λ o. notes ++ cons_option o []) n))
takes_note lines line kind note section section' assignments assignments' notes notes' (Err Memory) h e none fault n a added s same = tt
takes_note lines line kind note section section' assignments assignments' notes notes' (Err NotText) h e none fault n a added s same =
    absurd added
takes_note lines line kind note section section' assignments assignments' notes notes' (Err TooMany) h e none fault n a added s same =
    absurd added
takes_note lines line kind note section section' assignments assignments' notes notes'
    (Err (BadHeader number)) h e none fault n a added s same = absurd added

pub takes_assignment : (lines : List Line) (line : Line) (name key value : List ℕ) (section section' : Option (List ℕ))
    (assignments assignments' : List Assignment) (notes notes' : List Note) (result : Result (Unit {0}) UnitError)
    → HasRead lines section assignments notes → section ≡ Some name → assigns key value ≡ kind_of line.text
    → AddsAssignment assignments (record { section = name; key = key; value = value; line = line.number }) result assignments'
    → section' ≡ section → notes' ≡ notes → Takes lines line result section' assignments' notes'
takes_assignment lines line name key value section section' assignments assignments' notes notes' (Ok done) h named e added s same =
    reads_more lines line (assigns key value) section section' assignments assignments' notes notes' h e
    (ap (λ o. fault_in o (length assignments) line.number (assigns key value)) named ∙ ap (λ b. cond b (Some TooMany) None) added.0)
    s
    (added.1 ∙ sym (ap (λ o. assignments ++ cons_option (assignment_in o line.number (assigns key value)) []) named))
    (same ∙ sym (append-nil notes) ∙ sym (ap (λ o. notes ++ cons_option (note_in o line.number (assigns key value)) []) named))
takes_assignment lines line name key value section section' assignments assignments' notes notes' (Err Memory) h named e added s same = tt
takes_assignment lines line name key value section section' assignments assignments' notes notes' (Err NotText) h named e added s same =
    absurd added
takes_assignment lines line name key value section section' assignments assignments' notes notes' (Err TooMany) h named e added s same =
    fault_known lines line (assigns key value) section assignments notes h e
    ∙ ap (λ o. fault_in o (length assignments) line.number (assigns key value)) named ∙ ap (λ b. cond b (Some TooMany) None) added
takes_assignment lines line name key value section section' assignments assignments' notes notes'
    (Err (BadHeader number)) h named e added s same = absurd added

first-append : (xs ys : List UnitError) → slice_get xs 0 ≡ None → slice_get (xs ++ ys) 0 ≡ slice_get ys 0
first-append [] ys e = refl
first-append (x ∷ xs) ys e = cc

-- the first line with a fault decides
first_fault : (front : List Line) (line : Line) (rest : List Line) (fault : UnitError) → fault_of front ≡ None
    → fault_at (front, line) ≡ Some fault → fault_of (front ++ line ∷ rest) ≡ Some fault
first_fault front line rest fault none e =
    ap (λ fs. slice_get fs 0) (given-append fault_at front (line ∷ rest))
    ∙ first-append (filter_map fault_at (with_before [] front)) (filter_map fault_at (with_before front (line ∷ rest))) none
    ∙ ap (λ o. slice_get (cons_option o (filter_map fault_at (with_before (front ++ line ∷ []) rest))) 0) e

refused : (lines front : List Line) (line : Line) (rest : List Line) (fault : UnitError) → lines ≡ front ++ line ∷ rest
    → fault_of front ≡ None → fault_at (front, line) ≡ Some fault → unit_of_lines lines ≡ Err fault
refused lines front line rest fault split none e =
    ap (λ o. unless_fault o (record { assignments = assignments_of lines; notes = notes_of lines }))
    (ap fault_of split ∙ first_fault front line rest fault none e)

pub stops : (lines front : List Line) (line : Line) (rest : List Line) (section section' : Option (List ℕ))
    (assignments assignments' : List Assignment) (notes notes' : List Note) (error : UnitError) → lines ≡ front ++ line ∷ rest
    → HasRead front section assignments notes → Takes front line (Err error) section' assignments' notes'
    → IsUnlessMemory (Err error) (unit_of_lines lines)
stops lines front line rest section section' assignments assignments' notes notes' Memory split h t = tt
stops lines front line rest section section' assignments assignments' notes notes' NotText split h t = absurd t
stops lines front line rest section section' assignments assignments' notes notes' TooMany split h t =
    refused lines front line rest TooMany split h.faultless t
stops lines front line rest section section' assignments assignments' notes notes' (BadHeader number) split h t =
    refused lines front line rest (BadHeader number) split h.faultless t
