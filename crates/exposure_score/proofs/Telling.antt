-- What facts tell, one more at a time.
use Rattle.std.proofs.Common.{◌≡◌, ◌+◌, ℕ, List, [], ◌∷◌, ◌++◌, map, sym, ap, ◌∙◌, append_assoc, arith}
use Rattle.std.specs.List.{range_with_len}
use Rattle.std.proofs.lemmas.List.{map-append}
use Rattle.std.proofs.lemmas.List.FromFn.{map-range_with_len_more}
use Rattle.exposure_score.specs.service_facts.Each.{End}
use Rattle.exposure_score.specs.service_facts.Facts.{Told, behind}

-- behind what was told at first, an end for each element so far
pub record Tells {X : Type 0} (start : List Told) (front : List ℕ) (end : X → End) (done : List X) (now : List Told) : Type 0 where
  pub so_far : now ≡ start ++ map (behind front) (map end done)

-- one more number
pub one_more_number : (start : List Told) (front : List ℕ) (end : ℕ → End) (n : ℕ) (now next : List Told)
    → Tells start front end (range_with_len 0 n) now
    → next ≡ now ++ behind front (end n) ∷ [] → Tells start front end (range_with_len 0 (n + 1)) next
one_more_number start front end n now next tells is = record {
  so_far = is ∙ ap (λ told. told ++ behind front (end n) ∷ []) tells.so_far
      ∙ append_assoc start (map (behind front) (map end (range_with_len 0 n))) (behind front (end n) ∷ [])
      ∙ ap (λ more. start ++ more) (sym (map-append (behind front) (map end (range_with_len 0 n)) (end n ∷ []))
      ∙ ap (map (behind front)) (sym (map-range_with_len_more end 0 n n (omega arith))));
}

pub all_numbers : (start : List Told) (front : List ℕ) (end : ℕ → End) (n count : ℕ) (now : List Told) → n ≡ count
    → Tells start front end (range_with_len 0 n) now
    → now ≡ start ++ map (behind front) (map end (range_with_len 0 count))
all_numbers start front end n count now e tells = tells.so_far ∙ ap (λ n. start ++ map (behind front) (map end (range_with_len 0 n))) e
