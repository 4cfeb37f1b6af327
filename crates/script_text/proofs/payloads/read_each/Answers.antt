use Rattle.std.proofs.Common.{ℕ, List, [], sym, refl}
use Rattle.kernel_model.specs.call_table.Numbers.{number_of}
use Rattle.script_text.proofs.AllRead.{stops_at, goes_on}
use Rattle.script_text.proofs.payloads.read_each.Goals as goal
use denote.Ref.{Bor}

abbrev no_text : Bor (List ℕ)
no_text = record { ref_ptr = (0, 0); now = [] }

pub returns-in_default : goal.returns-in_default
returns-in_default c =
    (stops_at number_of (λ (piece : Bor (List ℕ)). piece.now) c.args.pieces.now c.loop-piece.piece-index no_text c.loop-piece-test.true (sym c.in_default.ensures), refl)

pub loop-piece-preserved : goal.loop-piece-preserved
loop-piece-preserved c =
    goes_on number_of (λ (piece : Bor (List ℕ)). piece.now) c.args.pieces.now c.loop-piece.piece-index no_text c.loop-piece.ids.items
    c.push.new.self.items c.in-Some.id c.loop-piece-test.true c.loop-piece.invariant (sym c.in-Some.ensures) c.in_ok-push.ensures.items
