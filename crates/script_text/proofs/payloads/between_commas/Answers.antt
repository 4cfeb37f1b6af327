use Rattle.std.proofs.Common.{◌≡◌, ℕ, List, map, subst}
use Rattle.std.specs.Result.{IfOk}
use Rattle.script_text.proofs.MarksFound.{commas_of}
use Rattle.script_text.proofs.payloads.between_commas.Goals as goal

pub returns : goal.returns
returns c =
    subst (λ (wanted : List (List ℕ)). IfOk c.pieces_of.result (λ pieces. map (λ piece. piece.now) pieces.items ≡ wanted))
    (commas_of c.args.text.now c.if-is_empty.ensures) c.pieces_of.ensures
