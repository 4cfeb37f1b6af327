-- A loop that adds to a list what is asked of one thing after another: what stands in it and what is left make the whole.
use Rattle.std.proofs.Common.{◌≡◌, ◌<◌, ℕ, zero, suc, List, [], ◌∷◌, ◌++◌, ◌+◌, ◌-◌, length, drop, map, refl, ap, ◌∙◌, sym, append_assoc}
use Rattle.std.proofs.Common.{arith}
use Rattle.kernel_laws.specs.call_table.declared.listed.CallLine.{CallLine}
use Rattle.kernel_laws.specs.Questions.{of_families, count_from}
use Rattle.kernel_laws.specs.declared.question_types.question.Question.{Question}
use Rattle.kernel_laws.specs.declared.question_types.question.Question.TheVariants.{Socket, Cap}

-- one piece more
pub piece_more : {X : Type 0} (old new piece rest next whole : List X) → old ++ rest ≡ whole → new ≡ old ++ piece → rest ≡ piece ++ next
    → new ++ next ≡ whole
piece_more old new piece rest next whole h n r = ap (λ l. l ++ next) n ∙ append_assoc old piece next ∙ ap (λ l. old ++ l) (sym r) ∙ h

-- ---- what is left, one thing further
pub families_left : (lines : List CallLine) (at : ℕ) → at < length lines
    → of_families at (drop at lines) ≡ Socket at ∷ of_families (at + 1) (drop (at + 1) lines)
families_left [] at h = absurd (omega arith)
families_left (line ∷ lines) zero h = refl
families_left (line ∷ lines) (suc at) h = let m = some_left lines at (omega arith) in ap (of_families (suc at)) m.1 ∙ ap (λ n. Socket (suc at) ∷ of_families (suc at + 1) (drop n (line ∷ lines))) (let n : suc (at + 1) ≡ suc at + 1 = omega arith in n)
  where
    some_left : (lines : List CallLine) (at : ℕ) → at < length lines → (line : CallLine) × (drop at lines ≡ line ∷ drop (at + 1) lines)
    some_left [] at h = absurd (omega arith)
    some_left (line ∷ lines) zero h = (line, refl)
    some_left (line ∷ lines) (suc at) h =
        let m = some_left lines at (omega arith) in
        (m.0, m.1 ∙ ap (λ n. m.0 ∷ drop n (line ∷ lines)) (let n : suc (at + 1) ≡ suc at + 1 = omega arith in n))

pub caps_left : (at : ℕ) → at < 41 → map Cap (count_from at (41 - at)) ≡ Cap at ∷ map Cap (count_from (at + 1) (41 - (at + 1)))
caps_left at h = let n : 41 - at ≡ suc (41 - (at + 1)) = omega arith in ap (λ k. map Cap (count_from at k)) n

-- seven parts, one after the other
pub seven_parts : (none rows calls families others caps uids gids a b c d e f g : List Question) → none ≡ [] → rows ≡ none ++ a
    → calls ≡ rows ++ b → families ≡ calls ++ c → others ≡ families ++ d
    → caps ≡ others ++ e → uids ≡ caps ++ f → gids ≡ uids ++ g → gids ≡ a ++ b ++ c ++ d ++ e ++ f ++ g
seven_parts none rows calls families others caps uids gids a b c d e f g h0 h1 h2 h3 h4 h5 h6 h7 =
    h7
    ∙ ap (λ l. l ++ g) (h6 ∙ ap (λ l. l ++ f)
    (h5 ∙ ap (λ l. l ++ e) (h4 ∙ ap (λ l. l ++ d) (h3 ∙ ap (λ l. l ++ c) (h2 ∙ ap (λ l. l ++ b) (h1 ∙ ap (λ l. l ++ a) h0))))))
