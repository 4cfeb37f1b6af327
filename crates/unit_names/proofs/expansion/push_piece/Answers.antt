use Rattle.std.proofs.Common.{arith}
use Rattle.unit_names.proofs.Taken.{literal_taken}
use Rattle.unit_names.proofs.expansion.push_piece.Goals as goal

pub returns-in_ok-extend_from_slice : goal.returns-in_ok-extend_from_slice
returns-in_ok-extend_from_slice c =
    (literal_taken c.args.systemd c.args.name.now c.args.bytes.now.items c.extend_from_slice.new.self.items c.args.behind.now c.args.first c.if-first-eq37.false c.in_ok-extend_from_slice.ensures.items, omega arith)
