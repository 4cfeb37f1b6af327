-- The calls of a table at their positions in ascending order of numbers are its calls in that order.
use Rattle.std.proofs.Common.{◌≡◌, ℕ, ◌+◌, ◌<◌, List, [], ◌∷◌, ◌++◌, length, map, get_or, refl, sym, ap, ◌∙◌, subst, arith, append_assoc}
use Rattle.std.proofs.Common.{length-append, None}
use Rattle.std.specs.List.{All, AllByRecursion, enumerate_from}
use Rattle.std.specs.List.Sorted.{IsPermutation, IsStrictlyIncreasing}
use Rattle.std.proofs.Math.Seq.{get_or-append_seam}
use Rattle.std.proofs.lemmas.List.Elements.{All-from_recursion, recursion_from_All}
use Rattle.std.proofs.lemmas.List.Sorted.{All-permutation, IsPermutation-map}
use Rattle.call_table.specs.declared.call_names.kernel.Kernel.TheVariants.{Base}
use Rattle.call_table.specs.declared.listed.CallLine.{CallLine}
use Rattle.call_table.specs.declared.by_number.Numbered.{Numbered}
use Rattle.call_table.specs.ByNumber.{numbered_at, numbered_lines, AscendsByNumber}
use Rattle.filter_settings.specs.filter_rules.Order.{Ascends}

-- a stand-in for a call after the last one
abbrev pub no_line : ℕ → CallLine
no_line number = record { name = []; number = number; cap = None; abi = 0; kernel = Base }

-- the call at the position of a number
abbrev pub line_at : List CallLine → Numbered → CallLine
line_at calls numbered = get_or calls numbered.position (no_line numbered.number)

abbrev pub numbered_from : ℕ → List CallLine → List Numbered
numbered_from n lines = map numbered_at (enumerate_from n lines)

-- the position is the position of the line after the lines before it
at_seam : (before lines : List CallLine) (line : CallLine) (n : ℕ) (other : CallLine) → n ≡ length before
    → get_or (before ++ line ∷ lines) n other ≡ line
at_seam before lines line n other e = ap (λ k. get_or (before ++ line ∷ lines) k other) e ∙ get_or-append_seam before line lines other

one_longer : (before : List CallLine) (line : CallLine) (n : ℕ) → n ≡ length before → n + 1 ≡ length (before ++ line ∷ [])
one_longer before line n e = simp length-append (omega arith)

-- the lines at the positions of all numbers are the lines
lines_at : (calls before lines : List CallLine) (n : ℕ) → calls ≡ before ++ lines → n ≡ length before
    → map (line_at calls) (numbered_from n lines) ≡ lines
lines_at calls before [] n e m = refl
lines_at calls before (line ∷ lines) n e m =
    let head : line_at calls (numbered_at (n, line)) ≡ line = ap (λ ls. get_or ls n (no_line line.number)) e ∙ at_seam before lines line n (no_line line.number) m in
    let rest : map (line_at calls) (numbered_from (n + 1) lines) ≡ lines = lines_at calls (before ++ line ∷ []) lines (n + 1) (e ∙ sym (append_assoc before (line ∷ []) lines)) (one_longer before line n m) in
    ap (λ l. l ∷ map (line_at calls) (numbered_from (n + 1) lines)) head ∙ ap (λ ls. line ∷ ls) rest

-- each number is the number of the line at its position
abbrev pub IsPlaced : List CallLine → Numbered → Type 0
IsPlaced calls numbered = (line_at calls numbered).number ≡ numbered.number

numbers_at : (calls before lines : List CallLine) (n : ℕ) → calls ≡ before ++ lines → n ≡ length before
    → AllByRecursion (IsPlaced calls) (numbered_from n lines)
numbers_at calls before [] n e m = tt
numbers_at calls before (line ∷ lines) n e m = (
  ap (λ l. l.number) (ap (λ ls. get_or ls n (no_line line.number)) e ∙ at_seam before lines line n (no_line line.number) m),
  numbers_at calls (before ++ line ∷ []) lines (n + 1) (e ∙ sym (append_assoc before (line ∷ []) lines)) (one_longer before line n m),
)

placed : (calls : List CallLine) (order : List Numbered) → AscendsByNumber calls order → AllByRecursion (IsPlaced calls) order
placed calls order h =
    recursion_from_All (IsPlaced calls) order
    (All-permutation (IsPlaced calls) (numbered_lines calls) order h.each_once
    (All-from_recursion (IsPlaced calls) (numbered_lines calls) (numbers_at calls [] calls 0 refl refl)))

same_numbers : (calls : List CallLine) (order : List Numbered) → AllByRecursion (IsPlaced calls) order
    → map (λ call. call.number) (map (line_at calls) order) ≡ map (λ numbered. numbered.number) order
same_numbers calls [] h = refl
same_numbers calls (numbered ∷ order) h =
    ap (λ n. n ∷ map (λ call. call.number) (map (line_at calls) order)) h.0 ∙ ap (λ ns. numbered.number ∷ ns) (same_numbers calls order h.1)

pub ascends : (calls : List CallLine) (order : List Numbered) → AscendsByNumber calls order → Ascends calls (map (line_at calls) order)
ascends calls order h = record {
  each_once =
      subst (λ ls. IsPermutation ls (map (line_at calls) order)) (lines_at calls [] calls 0 refl refl)
      (IsPermutation-map (line_at calls) (numbered_lines calls) order h.each_once);
  ascending = subst IsStrictlyIncreasing (sym (same_numbers calls order (placed calls order h))) h.ascending;
}

-- positions are within the lines
within_from : (n count : ℕ) (lines : List CallLine) → n + length lines ≡ count
    → AllByRecursion (λ numbered. numbered.position < count) (numbered_from n lines)
within_from n count [] e = tt
within_from n count (line ∷ lines) e = (omega arith, within_from (n + 1) count lines (omega arith))

pub within : (calls : List CallLine) (order : List Numbered) → AscendsByNumber calls order
    → All (λ numbered. numbered.position < length calls) order
within calls order h =
    All-permutation (λ numbered. numbered.position < length calls) (numbered_lines calls) order h.each_once
    (All-from_recursion (λ numbered. numbered.position < length calls) (numbered_lines calls)
    (within_from 0 (length calls) calls (omega arith)))
