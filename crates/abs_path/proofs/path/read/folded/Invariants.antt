use Rattle.std.proofs.Common.{◌≡◌, ◌++◌, not, filter, map, drop, string_bytes}
use Rattle.abs_path.specs.Paths.{tail_of, is_idle}
use Rattle.abs_path.proofs.path.read.folded.Given as goal

abbrev pub invariant-loop-piece : goal.invariant-loop-piece
invariant-loop-piece l = string_bytes l.tail ++ tail_of
    (filter (λ piece. not (is_idle piece)) (map (λ piece. piece.now) (drop l.piece-index l.pieces)))
    ≡ tail_of (filter (λ piece. not (is_idle piece)) (map (λ piece. piece.now) l.pieces))
