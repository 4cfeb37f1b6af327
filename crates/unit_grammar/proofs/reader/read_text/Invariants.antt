use Rattle.std.proofs.Common.{eqb, ◌+◌, ◌≤◌, length}
use Rattle.std.specs.List.{slice_split}
use denote.Text.{Utf8}
use denote.Shadow.{shadow}
use Rattle.unit_grammar.specs.Lines.{parts_from}
use Rattle.unit_grammar.specs.Joining.{joined}
use Rattle.unit_grammar.specs.Progress.{StandsBefore}
use Rattle.unit_grammar.proofs.reader.read_text.Given as goal

abbrev pub invariant-loop-line : goal.invariant-loop-line
invariant-loop-line l =
    shadow (Utf8 l.rest)
    × StandsBefore (joined (parts_from 1 (slice_split (λ byte. eqb byte 10) l.text))) l.reader.begun
    (parts_from l.number (slice_split (λ byte. eqb byte 10) l.rest)) l.reader.section l.reader.assignments l.reader.notes
    × (l.number + length l.rest ≤ length l.text + 1)

abbrev pub decreases-loop-line : goal.decreases-loop-line
decreases-loop-line l = length l.rest
