use Rattle.std.proofs.Common.{◌≡◌, ◌-◌, ◌≤◌, length, take}
use Rattle.host_io.specs.Writing.{Grew}
use Rattle.host_io.proofs.Putting.{Going}
use Rattle.host_io.proofs.writing.write_whole.Given as goal

abbrev pub invariant-loop-at : goal.invariant-loop-at
invariant-loop-at g l =
    (l.at ≤ length l.piece)
    × Grew (g.K.Sink.taken l.fn.out) (g.K.Sink.taken l.out) (take l.at l.piece)
    × (g.K.Sink.faults l.out ≡ g.K.Sink.faults l.fn.out)
    × Going g.K.Sink.puts l.fn.out l.out l.piece l.at

abbrev pub decreases-loop-at : goal.decreases-loop-at
decreases-loop-at g l = length l.piece - l.at
