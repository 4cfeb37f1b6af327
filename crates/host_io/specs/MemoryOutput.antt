-- A sink in memory.
use Rattle.std.specs.Prelude.{◌≡◌, ℕ, ◌++◌, List, take, min, length, IsTrue, ◌↔◌, IsErrOf, Result, Ok, Err}
use Rattle.host_io.specs.Puts.{Put}
use Rattle.host_io.specs.Turns.{TurnCounts, after_turn, fails_now}
use Rattle.host_io.specs.declared.writing.SinkError.{SinkError}
use Rattle.host_io.specs.declared.writing.SinkError.TheVariants.{Failed}

-- the most bytes that it takes at once, the bytes that it took, and its puts so far
pub record MemTaken : Type 0 where
  pub limit : ℕ
  pub bytes : List ℕ
  pub turns : TurnCounts

-- the bytes of the sink after a put of a piece with this answer
abbrev pub bytes_behind : List ℕ → List ℕ → Result ℕ SinkError → List ℕ
bytes_behind bytes piece (Ok count) = bytes ++ take count piece
bytes_behind bytes piece (Err error) = bytes

-- the put took as many bytes as fit at once
abbrev pub FitsAtOnce : ℕ → List ℕ → Result ℕ SinkError → Type 0
FitsAtOnce limit piece (Ok count) = count ≡ min (length piece) limit
FitsAtOnce limit piece (Err error) = Unit {0}

-- a put is counted; it fails if its number is one of the failing numbers, and otherwise takes as many bytes as fit, or none
pub record PutsMemory (before : MemTaken) (put : Put) (now : MemTaken) : Type 0 where
  pub fails_as_told : IsErrOf put.answer Failed ↔ IsTrue (fails_now before.turns)
  pub takes_what_fits : FitsAtOnce before.limit put.piece put.answer
  pub counts_the_put : now ≡ record before { bytes = bytes_behind before.bytes put.piece put.answer; turns = after_turn before.turns }
