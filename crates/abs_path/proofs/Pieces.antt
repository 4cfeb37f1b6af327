-- The parts of a text begin at its first slash.
use Rattle.std.proofs.Common.{◌≡◌, ◌≢◌, ◌<◌, ℕ, Bool, true, false, cond, filter, List, [], ◌∷◌, ◌++◌, length, get_or, refl, ap, ◌∙◌}
use Rattle.std.specs.Prelude.{◌==◌, not}
use Rattle.std.specs.List.{All}
use Rattle.std.proofs.lemmas.Bool.{eqb-true}
use Rattle.std.proofs.lemmas.List.{get_or_default}
use Rattle.std.proofs.lemmas.List.Splits.{slice_split_none, slice_split_at}
use Rattle.abs_path.specs.Paths.{parts_of, is_idle}

no_slash : (byte : ℕ) → byte ≢ 47 → (byte == 47) ≡ false
no_slash byte ne = by (byte == 47) (eqb-true byte 47)
  where
    by : (b : Bool) → (b ≡ true → byte ≡ 47) → b ≡ false
    by true is = absurd (ne (is refl))
    by false is = refl

without_slash : (text : List ℕ) → ((i : ℕ) → i < length text → get_or text i 0 ≢ 47) → All (λ byte. (byte == 47) ≡ false) text
without_slash text none k d lt = no_slash (get_or text k d) (λ e. none k lt (get_or_default text k 0 d lt ∙ e))

pub one_piece : (text : List ℕ) → ((i : ℕ) → i < length text → get_or text i 0 ≢ 47)
    → parts_of text ≡ cond (not (is_idle text)) (text ∷ []) []
one_piece text none = ap (filter (λ part. not (is_idle part))) (slice_split_none (λ byte. byte == 47) text (without_slash text none))

pub first_piece : (text piece rest : List ℕ) → text ≡ piece ++ 47 ∷ rest → ((i : ℕ) → i < length piece → get_or piece i 0 ≢ 47)
    → parts_of text ≡ cond (not (is_idle piece)) (piece ∷ parts_of rest) (parts_of rest)
first_piece text piece rest e none = ap parts_of e ∙ ap (filter (λ part. not (is_idle part)))
    (slice_split_at (λ byte. byte == 47) piece 47 rest (without_slash piece none) refl)
