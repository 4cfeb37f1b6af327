-- Lines by their numbers.
use Rattle.std.proofs.Common.{◌≡◌, ℕ, ◌+◌, ◌<◌, ◌≤◌, Bool, true, false, eqb, List, [], ◌∷◌, length, map, get_or, Some, refl, sym, ap, ◌∙◌}
use Rattle.std.proofs.Common.{subst, arith}
use Rattle.std.specs.List.{enumerate_from, IsDistinct}
use Rattle.std.specs.List.Sorted.{IsPermutation, IsNonDecreasing, IsNonDecreasingBy}
use Rattle.std.proofs.lemmas.Bool.{eqb-true}
use Rattle.std.proofs.lemmas.Bool.Decides.{nat_tests}
use Rattle.std.proofs.lemmas.List.{length-map, get_or-map}
use Rattle.std.proofs.lemmas.List.Sorted.{IsPermutation-map}
use Rattle.std.proofs.lemmas.Map.Keys.{IsStrictlyIncreasing-from_distinct, IsDistinct-from_apart, IsDistinct-IsPermutation}
use Rattle.std.proofs.lemmas.Option.{slice_get-get_or}
use Rattle.call_table.specs.declared.listed.CallLine.{CallLine}
use Rattle.call_table.specs.declared.by_number.Numbered.{Numbered}
use Rattle.call_table.specs.Lookups.{place_numbered, AreOnce}
use Rattle.call_table.specs.ByNumber.{numbered_at, numbered_lines, AscendsByNumber}

abbrev number_of : Numbered → ℕ
number_of numbered = numbered.number

abbrev line_number : CallLine → ℕ
line_number line = line.number

numbers_of_pairs : (n : ℕ) (lines : List CallLine) → map number_of (map numbered_at (enumerate_from n lines)) ≡ map line_number lines
numbers_of_pairs n [] = refl
numbers_of_pairs n (line ∷ lines) = ap (λ ns. line.number ∷ ns) (numbers_of_pairs (n + 1) lines)

differ : (lines : List CallLine) → AreOnce lines → (i j d : ℕ) → i < j → j < length (map line_number lines)
    → eqb (get_or (map line_number lines) i d) (get_or (map line_number lines) j d) ≡ false
differ [] once i j d lt h = absurd (omega arith)
differ (first ∷ rest) once i j d lt h = by (eqb (get_or (map line_number lines) i d) (get_or (map line_number lines) j d)) refl
  where
    lines : List CallLine
    lines = first ∷ rest

    by : (b : Bool) → eqb (get_or (map line_number (first ∷ rest)) i d) (get_or (map line_number (first ∷ rest)) j d) ≡ b → b ≡ false
    by false e = refl
    by true e =
        let many = length-map lines line_number in
        let low : i < length lines = omega arith in
        let high : j < length lines = omega arith in
        let one : CallLine = get_or lines i first in
        let other : CallLine = get_or lines j first in
        let same : one.number ≡ other.number = sym (get_or-map line_number lines i first d low) ∙ eqb-true _ _ e ∙ get_or-map line_number lines j first d high in
        let places : Some i ≡ Some j =
        sym (once.by_number i one (slice_get-get_or lines i first low)) ∙ ap (λ n. place_numbered n lines) same ∙ once.by_number j other (slice_get-get_or lines j first high) in
        let equal : i ≡ j = cc in
        absurd (omega arith)

pub ascends : (lines : List CallLine) (numbers : List Numbered) → AreOnce lines → IsPermutation (numbered_lines lines) numbers
    → IsNonDecreasingBy (λ numbered. numbered.number) numbers → AscendsByNumber lines numbers
ascends lines numbers once moved up = record {
  each_once = moved;
  ascending = IsStrictlyIncreasing-from_distinct (map number_of numbers) rises apart;
}
  where
    rises : IsNonDecreasing (map number_of numbers)
    rises i j d le lt =
        let many = length-map numbers number_of in
        let high : j < length numbers = omega arith in
        let none : Numbered = record { number = d; position = 0 } in
        let below : (get_or numbers i none).number ≤ (get_or numbers j none).number = up i j none le high in
        let one = get_or-map number_of numbers i none d (omega arith) in
        let other = get_or-map number_of numbers j none d high in
        omega (arith, below, one, other)

    apart : IsDistinct eqb (map number_of numbers)
    apart = IsDistinct-IsPermutation eqb (λ x y. flips x y) (map number_of (numbered_lines lines)) (map number_of numbers)
        (IsPermutation-map number_of (numbered_lines lines) numbers moved)
        (subst (IsDistinct eqb) (sym (numbers_of_pairs 0 lines)) (IsDistinct-from_apart eqb (map line_number lines) (differ lines once)))
      where
        flips : (x y : ℕ) → eqb x y ≡ eqb y x
        flips x y = grind (arith, nat_tests)
