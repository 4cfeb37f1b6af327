-- Lines that are joined one by one are the groups of parts.
use Rattle.std.proofs.Common.{◌≡◌, ℕ, true, false, cond, List, [], ◌∷◌, ◌++◌, map, refl, sym, ap, ◌∙◌, append-nil}
use Rattle.std.specs.Prelude.{not, flat_map}
use Rattle.std.specs.List.{onto_first}
use Rattle.unit_grammar.specs.Spaces.{continues, without_last}
use Rattle.unit_grammar.specs.declared.joined.Line.{Line}
use Rattle.unit_grammar.specs.Lines.{split_after, piece_of, line_of}
use Rattle.unit_grammar.specs.Joining.{opened, attached, joined}

opened_piece : (part : Line) (more : List ℕ) → continues part.text ≡ true → piece_of part ++ more ≡ (opened part).text ++ more
opened_piece part more e = ap (λ b. cond b (without_last part.text ++ 32 ∷ []) part.text ++ more) e

attached-line_of : (part : Line) (groups : List (List Line)) → continues part.text ≡ true
    → map line_of (onto_first part groups) ≡ attached (opened part) (map line_of groups)
attached-line_of part [] e = ap (λ text. record { number = part.number; text = text } ∷ [])
    (opened_piece part [] e ∙ append-nil (opened part).text)
attached-line_of part ([] ∷ groups) e = ap (λ text. record { number = part.number; text = text } ∷ map line_of groups)
    (opened_piece part [] e)
attached-line_of part ((next ∷ group) ∷ groups) e = ap (λ text. record { number = part.number; text = text } ∷ map line_of groups)
    (opened_piece part (flat_map piece_of (next ∷ group)) e)

whole_line : (part : Line) → continues part.text ≡ false → line_of (part ∷ []) ≡ part
whole_line part e = ap (λ text. record { number = part.number; text = text })
    (append-nil (piece_of part) ∙ ap (λ b. cond b (without_last part.text ++ 32 ∷ []) part.text) e)

pub joined_groups : (parts : List Line) → joined parts ≡ map line_of (split_after (λ part. not (continues part.text)) parts)
joined_groups [] = refl
joined_groups (part ∷ parts) =
    elim (continues part.text) as (λ b. continues part.text ≡ b
    → cond b (attached (opened part) (joined parts)) (part ∷ joined parts)
    ≡ map line_of (cond (not b) ((part ∷ []) ∷ split_after (λ part. not (continues part.text)) parts)
    (onto_first part (split_after (λ part. not (continues part.text)) parts)))) [
      | true ↦ λ e. ap (attached (opened part)) (joined_groups parts)
          ∙ sym (attached-line_of part (split_after (λ part. not (continues part.text)) parts) e)
      | false ↦ λ e. ap (λ ls. part ∷ ls) (joined_groups parts)
          ∙ sym (ap (λ l. l ∷ map line_of (split_after (λ part. not (continues part.text)) parts)) (whole_line part e))
    ]
    refl
