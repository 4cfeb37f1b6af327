-- A sink takes bytes.
use Rattle.std.specs.Prelude.{◌≡◌, ◌<◌, ℕ, ◌≤◌, List, length, take, IsErrOf, Option, Result, Ok, Err}
use Rattle.std.specs.Io.KnownBytes.{append_known}
use Rattle.host_io.specs.declared.writing.SinkError.{SinkError}
use Rattle.host_io.specs.declared.writing.SinkError.TheVariants.{Failed}
use Rattle.host_io.specs.Causes.{Rose}

-- the bytes that the sink took have grown by these bytes, if the sink shows them
abbrev pub Grew : Option (List ℕ) → Option (List ℕ) → List ℕ → Type 0
Grew old new bytes = new ≡ append_known old bytes

-- a put of the piece adds a prefix of it to the bytes taken; the prefix is empty only if the piece is empty
abbrev pub Takes : Option (List ℕ) → Option (List ℕ) → List ℕ → Result ℕ SinkError → Type 0
Takes old new piece (Ok count) = Grew old new (take count piece) × (count ≤ length piece) × (0 < length piece → 0 < count)
Takes old new piece (Err error) = new ≡ old

-- the sink took the whole piece, or at an error a prefix of it that is not the whole
abbrev pub TakesWhole : Option (List ℕ) → Option (List ℕ) → List ℕ → Result (Unit {0}) SinkError → Type 0
TakesWhole old new piece (Ok u) = Grew old new piece
TakesWhole old new piece (Err error) = (count : ℕ) × (count < length piece) × Grew old new (take count piece)

-- the count of faults does not fall, and it rises if the answer is `Failed`
pub record HasCause {T : Type 0} (before now : ℕ) (result : Result T SinkError) : Type 0 where
  pub later : before ≤ now
  pub failed : IsErrOf result Failed → Rose before now
