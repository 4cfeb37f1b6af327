-- A writer makes puts to a sink, one after the other, and hands a piece to it by some of them.
use Rattle.std.specs.Prelude.{◌≡◌, ℕ, ◌<◌, ◌≤◌, List, [], ◌∷◌, ◌++◌, length, drop, Result, Ok, Err}
use Rattle.host_io.specs.Causes.{StaysUnless}
use Rattle.host_io.specs.Writing.{HasCause}
use Rattle.host_io.specs.declared.writing.SinkError.{SinkError}
use Rattle.host_io.specs.declared.writing.SinkError.TheVariants.{Failed}

-- a put that was made: its piece, and how many bytes the sink took, or why it took none
pub record Put : Type 0 where
  pub piece : List ℕ
  pub answer : Result ℕ SinkError

abbrev pub put_of : List ℕ → Result ℕ SinkError → Put
put_of piece answer = record { piece = piece; answer = answer }

-- a put changes a count of faults: the count rises if the put failed, and stays otherwise
pub record PutsOutside (before : ℕ) (put : Put) (now : ℕ) : Type 0 where
  pub fault_rose : HasCause before now put.answer
  pub no_other_fault : StaysUnless Failed before now put.answer

-- exactly these puts, in this order, take a sink from one state to another
abbrev pub Puts : {S : Type 0} → (S → Put → S → Type 0) → S → S → List Put → Type 0
Puts puts before now [] = now ≡ before
Puts {S} puts before now (put ∷ made) = (next : S) × puts before put next × Puts puts next now made

-- the puts of a piece that took so many bytes each: the first put gets the whole piece, each further put the rest of it
abbrev pub handed : List ℕ → List ℕ → List Put
handed piece [] = []
handed piece (count ∷ counts) = put_of piece (Ok count) ∷ handed (drop count piece) counts

-- each put took so many bytes, at least one and at most the rest, and then this much of the piece is left
abbrev pub Leaves : List ℕ → List ℕ → List ℕ → Type 0
Leaves piece [] left = left ≡ piece
Leaves piece (count ∷ counts) left = (0 < count) × (count ≤ length piece) × Leaves (drop count piece) counts left

-- a piece was handed as one, and the sink took all of it; an empty piece makes no put
pub record HandsWhole {S : Type 0} (puts : S → Put → S → Type 0) (before now : S) (piece : List ℕ) : Type 0 where
  pub counts : List ℕ
  pub takes_all : Leaves piece counts []
  pub made : Puts puts before now (handed piece counts)

-- a piece was handed as one, up to a put that failed
pub record HandsPart {S : Type 0} (puts : S → Put → S → Type 0) (before now : S) (piece : List ℕ) (error : SinkError) : Type 0 where
  pub counts : List ℕ
  pub left : List ℕ
  pub takes_part : Leaves piece counts left
  pub some_left : 0 < length left
  pub made : Puts puts before now (handed piece counts ++ put_of left (Err error) ∷ [])

-- a piece was handed as one, with this result
abbrev pub Hands : {S : Type 0} → (S → Put → S → Type 0) → S → S → List ℕ → Result (Unit {0}) SinkError → Type 0
Hands puts before now piece (Ok u) = HandsWhole puts before now piece
Hands puts before now piece (Err error) = HandsPart puts before now piece error
