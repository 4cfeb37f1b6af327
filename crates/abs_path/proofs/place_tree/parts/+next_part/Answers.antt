use Rattle.std.proofs.Common.{◌∙◌, ◌∷◌, [], cond, ap, sym, lit<, Some, None}
use Rattle.std.specs.Prelude.{not}
use Rattle.std.proofs.lemmas.Str.Pattern.{split_parts}
use Rattle.abs_path.specs.Paths.{parts_of}
use Rattle.abs_path.proofs.Pieces.{one_piece, first_piece}
use Rattle.abs_path.proofs.place_tree.parts.+next_part.Goals as goal

pub returns-else-is_idle-clause-first_and_rest : goal.returns-else-is_idle-clause-first_and_rest
returns-else-is_idle-clause-first_and_rest t c =
    let parts = split_parts 47 c.args.text.now (Some (c.in-Some.piece, c.in-Some.rest)) c.in-Some.ensures.cases (lit< tt) in
    first_piece c.args.text.now c.in-Some.piece.now c.in-Some.rest.now parts.0 parts.1
    ∙ ap (λ b. cond (not b) (c.in-Some.piece.now ∷ parts_of c.in-Some.rest.now) (parts_of c.in-Some.rest.now)) (sym c.if-is_idle.ensures)

pub returns-else-is_idle-2-clause-first_and_rest : goal.returns-else-is_idle-2-clause-first_and_rest
returns-else-is_idle-2-clause-first_and_rest t c =
    one_piece c.args.text.now (split_parts 47 c.args.text.now None c.in-None.ensures.cases (lit< tt))
    ∙ ap (λ b. cond (not b) (c.args.text.now ∷ []) []) (sym c.if-is_idle-2.ensures)
