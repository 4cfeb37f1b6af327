-- Words with a space between them, split again.
use Rattle.std.proofs.Common.{◌≡◌, ℕ, false, cond, List, [], ◌∷◌, ◌++◌, length, refl, ap, ◌∙◌, append-nil}
use Rattle.std.specs.Prelude.{◌==◌, not, codes, filter}
use Rattle.std.specs.List.{AllByRecursion, slice_split}
use Rattle.std.proofs.lemmas.List.Elements.{All-from_recursion}
use Rattle.std.proofs.lemmas.List.Splits.{slice_split_none, slice_split_at}
use Rattle.kernel_model.specs.text_forms.line_text.Lines.{words_of}
use Rattle.script_text.specs.Printed.{each_behind}
use Rattle.script_text.specs.PrintedAgain.{IsWord}

-- no byte of the word is this one
abbrev pub HasNo : ℕ → List ℕ → Type 0
HasNo mark word = AllByRecursion (λ byte. (byte == mark) ≡ false) word

pub all_append : {X : Type 0} (P : X → Type 0) (xs ys : List X) → AllByRecursion P xs → AllByRecursion P ys → AllByRecursion P (xs ++ ys)
all_append P [] ys h g = g
all_append P (x ∷ xs) ys h g = (h.0, all_append P xs ys h.1 g)

pieces : (first : List ℕ) (words : List (List ℕ)) → HasNo 32 first → AllByRecursion IsWord words
    → slice_split (λ byte. byte == 32) (first ++ each_behind (codes " ") words) ≡ first ∷ words
pieces first [] h all = ap (slice_split (λ byte. byte == 32)) (append-nil first)
    ∙ slice_split_none (λ byte. byte == 32) first (All-from_recursion (λ byte. (byte == 32) ≡ false) first h)
pieces first (word ∷ words) h all =
    slice_split_at (λ byte. byte == 32) first 32 (word ++ each_behind (codes " ") words)
    (All-from_recursion (λ byte. (byte == 32) ≡ false) first h) refl
    ∙ ap (λ ps. first ∷ ps) (pieces word words all.0.plain all.1)

all_stay : (words : List (List ℕ)) → AllByRecursion IsWord words → filter (λ word. not (length word == 0)) words ≡ words
all_stay [] h = refl
all_stay (word ∷ words) h =
    ap (λ b. cond (not b) (word ∷ filter (λ word. not (length word == 0)) words) (filter (λ word. not (length word == 0)) words)) h.0.some
    ∙ ap (λ ws. word ∷ ws) (all_stay words h.1)

pub split_again : (first : List ℕ) (words : List (List ℕ)) → IsWord first → AllByRecursion IsWord words
    → words_of (first ++ each_behind (codes " ") words) ≡ first ∷ words
split_again first words f all = ap (filter (λ word. not (length word == 0))) (pieces first words f.plain all)
    ∙ all_stay (first ∷ words) (f, all)
