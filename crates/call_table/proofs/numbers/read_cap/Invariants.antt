use Rattle.std.proofs.Common.{◌≡◌, ℕ, ◌<◌, false}
use Rattle.std.specs.Str.{bytes_eq}
use Rattle.cap_sets.specs.Names.{name_of}
use Rattle.call_table.proofs.numbers.read_cap.Given as goal

abbrev pub invariant-loop-cap : goal.invariant-loop-cap
invariant-loop-cap l = (k : ℕ) → k < l.cap → bytes_eq (name_of k) l.word ≡ false
