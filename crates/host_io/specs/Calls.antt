-- A reader makes calls to a shelf, one after the other, and may stop before it has made all calls that it needs.
use Rattle.std.specs.Prelude.{◌≡◌, ℕ, IsTrue, IsFalse, Bool, true, false, List, [], ◌∷◌, ◌++◌, cond, map, Result, Ok, Err}
use Rattle.host_io.specs.Causes.{Rose}
use Rattle.host_io.specs.declared.reading.ShelfError.{ShelfError}
use Rattle.host_io.specs.declared.reading.ShelfError.TheVariants.{Missing, TooLarge, Failed, Memory}

-- a question to a shelf: the bytes of a file, at most this many, or the names in a folder
pub data Ask : Type 0 where
  FileAt : (path : List ℕ) (limit : ℕ) → Ask
  NamesIn : (folder : List ℕ) → Ask

-- a call that was made: its question, and whether the outside world failed
pub record ShelfCall : Type 0 where
  pub ask : Ask
  pub failed : Bool

abbrev pub is_failed : {T : Type 0} → Result T ShelfError → Bool
is_failed (Ok value) = false
is_failed (Err Missing) = false
is_failed (Err TooLarge) = false
is_failed (Err Failed) = true
is_failed (Err Memory) = false

-- the call with this question and this answer
abbrev pub call_of : {T : Type 0} → Ask → Result T ShelfError → ShelfCall
call_of ask result = record { ask = ask; failed = is_failed result }

-- a call changes a count of faults: the count rises if the call failed, and stays otherwise
abbrev pub AsksOutside : ℕ → ShelfCall → ℕ → Type 0
AsksOutside before call now = (IsTrue call.failed → Rose before now) × (IsFalse call.failed → now ≡ before)

-- exactly these calls, in this order, take a shelf from one state to another
abbrev pub Calls : {S : Type 0} → (S → ShelfCall → S → Type 0) → S → S → List ShelfCall → Type 0
Calls asks before now [] = now ≡ before
Calls {S} asks before now (call ∷ calls) = (next : S) × asks before call next × Calls asks next now calls

-- the end of a reader: it read everything or the last answer refused; a call failed; or memory ran out
pub data Course : Type 0 where
  Whole : Course
  Faulted : Course
  Cut : Course

-- the end of a reader after the answer of one call
abbrev pub course_of : {T : Type 0} → Result T ShelfError → Course
course_of (Ok value) = Whole
course_of (Err Missing) = Whole
course_of (Err TooLarge) = Whole
course_of (Err Failed) = Faulted
course_of (Err Memory) = Cut

abbrev pub answers : Ask → ShelfCall
answers ask = record { ask = ask; failed = false }

abbrev pub fails : Ask → ShelfCall
fails ask = record { ask = ask; failed = true }

-- none of these calls failed
abbrev pub answered : List Ask → List ShelfCall
answered asks = map answers asks

-- the reader made the calls that it needs, in their order: all of them, or all up to a failed one, or, if memory ran out, the
-- first of them
abbrev pub AsksExactly : {S : Type 0} → (S → ShelfCall → S → Type 0) → S → S → List Ask → Course → Type 0
AsksExactly asks before now wanted Whole = Calls asks before now (answered wanted)
AsksExactly asks before now wanted Faulted = (front rest : List Ask) × (ask : Ask) × (front ++ ask ∷ rest ≡ wanted) × Calls asks before now
    (answered front ++ fails ask ∷ [])
AsksExactly asks before now wanted Cut = (front rest : List Ask) × (front ++ rest ≡ wanted) × Calls asks before now (answered front)

-- a list up to and including its first element with this property
abbrev pub up_to : {X : Type 0} → (X → Bool) → List X → List X
up_to is_last [] = []
up_to is_last (x ∷ xs) = x ∷ cond (is_last x) [] (up_to is_last xs)

-- the questions after a reading; there are none if the reading is refused
abbrev pub unless_refused : {T E : Type 0} → Result T E → List Ask → List Ask
unless_refused (Ok value) asks = asks
unless_refused (Err refusal) asks = []
