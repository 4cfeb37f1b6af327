-- Words that are joined.
use Rattle.std.proofs.Common.{◌≡◌, ◌∙◌, ℕ, List, [], ◌∷◌, ◌++◌, Result, Ok, Err, Vec, Global, refl, sym, ap, subst}
use Rattle.std.specs.Prelude.{IfOk, flat_map, map}
use Rattle.why_command.specs.Asking.{joined_words, spaced}
use denote.Ref.{Bor}

lent : (words : List (Bor (List ℕ))) → flat_map spaced (map (λ word. word.now) words) ≡ flat_map (λ word. spaced word.now) words
lent [] = refl
lent (word ∷ words) = ap (λ rest. spaced word.now ++ rest) (lent words)

pub joined : (all rest : List (Bor (List ℕ))) (first : Bor (List ℕ)) (one text : List ℕ) → all ≡ first ∷ rest → one ≡ first.now
    → text ≡ one ++ flat_map (λ word. spaced word.now) rest → text ≡ joined_words (map (λ word. word.now) all)
joined all rest first one text is same says =
    says ∙ ap (λ own. own ++ flat_map (λ word. spaced word.now) rest) same ∙ ap (λ own. first.now ++ own) (sym (lent rest))
    ∙ ap (λ these. joined_words (map (λ word. word.now) these)) (sym is)
