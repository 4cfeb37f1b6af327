use Rattle.std.proofs.Common.{◌≡◌, ◌<◌, ℕ, true, false, length, get_or}
use Rattle.filter_check.specs.Representing.{IsRepresented}
use Rattle.filter_check.proofs.leaving.left_out.Given as goal

abbrev pub invariant-loop-at : goal.invariant-loop-at
invariant-loop-at l = record {
  count : length l.marks.items ≡ l.at;
  each : (k : ℕ) → k < l.at → get_or l.marks.items k false ≡ true → IsRepresented l.loaded l.ends l.chosen.items k;
}
