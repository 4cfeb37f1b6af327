-- A search by text finds a row among rows in byte order.
use Rattle.std.proofs.Common.{◌≡◌, ℕ, zero, suc, ◌+◌, ◌-◌, ◌<◌, ◌≤◌, inl, inr, Bool, true, false, cond, ltb, List, [], ◌∷◌, ◌++◌, map}
use Rattle.std.proofs.Common.{length, get_or, insert, Option, Some, None, Result, Ok, Err, nat_cmp, Ordering, Less, Equal, Greater, refl}
use Rattle.std.proofs.Common.{sym, ap, ◌∙◌, subst, append-nil, arith}
use Rattle.std.specs.Prelude.{MatchOption, not, slice_get}
use Rattle.std.specs.Cmp.Lexicographic.{slice_cmp}
use Rattle.std.specs.List.{AllByRecursion, position_or_len, prefix_len}
use Rattle.std.specs.List.Sorted.{IsBinarySearchResult, IsSearchInRange, IsSortedBy}
use Rattle.std.specs.Option.{option_map_or}
use Rattle.std.specs.Ordering.{is_lt, ordering_reverse}
use Rattle.std.specs.Result.{result_ok, result_err}
use Rattle.std.specs.Str.{bytes_eq}
use Rattle.std.proofs.lemmas.Bool.{false≢true, false_from_ne_true, lt-ltb, le-ltb, cases_lt, and_parts, and_from}
use Rattle.std.proofs.lemmas.Cmp.{nat_list_cmp_total, tied_itself}
use Rattle.std.proofs.lemmas.List.Folds.{list_any_none, list_any_at}
use Rattle.std.proofs.lemmas.List.Sorted.{searchable_from_sorted}
use Rattle.std.proofs.lemmas.List.Sums.{position_or_len_is}
use Rattle.std.proofs.lemmas.Map.Lookups.{exact_bytes}
use Rattle.std.proofs.lemmas.Option.{slice_get-get_or, get_or_from_slice_get}
use Rattle.abs_path.specs.Paths.{Path, tail_of, parts_of, is_part, is_normal}
use Rattle.abs_path.specs.Prefix.{is_same, IsRest}
use Rattle.abs_path.specs.ByteOrder.{is_before, AreAscending}
use Rattle.abs_path.proofs.Prefixes.{same_part, part_itself, same_path, same_itself}
use Rattle.abs_path.proofs.Placed.{placed_ascending}
use Rattle.abs_path.proofs.Texts.{same_tail}
use Rattle.abs_path.proofs.ByteOrder.{tail-append, before_trans, not_before_itself}
use Rattle.site_table.specs.declared.row.Row.{Row}
use Rattle.site_table.specs.Order.{has_row, row_placed, plain_dir, AreOrdered, IsAt, IsGap, Searches, GoesAt}
use Rattle.site_table.specs.Paths.{root}
use Rattle.site_table.specs.Table.{place_of, place_of_text, IsRowOf, AreNormal}
use Rattle.site_table.proofs.Ordered.{same_texts_of}
use Rattle.site_table.proofs.Placed.{paths-placed}
use Rattle.site_table.proofs.Placing.{all_placed}

abbrev paths_of : List Row → List Path
paths_of rows = map (λ row. row.path) rows

later_at : (path : Path) (rows : List Row) (j : ℕ) (d : Row) → AllByRecursion (λ later. is_before path later ≡ true) (paths_of rows)
    → j < length rows → is_before path (get_or rows j d).path ≡ true
later_at path [] j d all lt = absurd (omega arith)
later_at path (row ∷ rows) zero d all lt = all.0
later_at path (row ∷ rows) (suc j) d all lt = later_at path rows j d all.1 (omega arith)

-- of two rows, the one with the smaller number precedes the other
ascending_at : (rows : List Row) (i j : ℕ) (d : Row) → AreAscending (paths_of rows) → i < j → j < length rows
    → is_before (get_or rows i d).path (get_or rows j d).path ≡ true
ascending_at [] i j d up lt within = absurd (omega arith)
ascending_at (row ∷ rows) i zero d up lt within = absurd (omega arith)
ascending_at (row ∷ rows) zero (suc j) d up lt within = later_at row.path rows j d up.0 (omega arith)
ascending_at (row ∷ rows) (suc i) (suc j) d up lt within = ascending_at rows i j d up.1 (omega arith) (omega arith)

not_after : (one other : Path) → is_before one other ≡ true → is_before other one ≡ false
not_after one other h = false_from_ne_true (is_before other one)
    (λ t. false≢true (sym (not_before_itself one) ∙ before_trans one other one h t))

normal_at : (rows : List Row) (i : ℕ) (d : Row) → AreNormal rows → i < length rows → is_normal (get_or rows i d).path ≡ true
normal_at [] i d all lt = absurd (omega arith)
normal_at (row ∷ rows) zero d all lt = all.0
normal_at (row ∷ rows) (suc i) d all lt = normal_at rows i d all.1 (omega arith)

lt_Less : (o : Ordering) → is_lt o ≡ true → o ≡ Less
lt_Less Less h = refl
lt_Less Equal h = absurd (false≢true h)
lt_Less Greater h = absurd (false≢true h)

abbrev order_to : List ℕ → Row → Ordering
order_to text row = slice_cmp nat_cmp (tail_of row.path) text

abbrev has_tail : List ℕ → Row → Bool
has_tail text row = bytes_eq (tail_of row.path) text

-- ---- the text of a row

pub found_place : (rows : List Row) (text : List ℕ) (at : ℕ) → AreAscending (paths_of rows) → IsAt rows text at
    → place_of_text rows text ≡ Some at
found_place rows text at up here =
    let d : Row = plain_dir root in
    let within : at < length rows = here.within in
    let place : position_or_len (has_tail text) rows ≡ at =
    position_or_len_is (has_tail text) rows at d (omega arith)
    (λ k lt. false_from_ne_true (has_tail text (get_or rows k d)) (λ t.
    false≢true (sym (not_before_itself (get_or rows at d).path)
    ∙ subst (λ (xs : List ℕ). is_lt (slice_cmp nat_cmp xs (tail_of (get_or rows at d).path)) ≡ true)
    (same_part (tail_of (get_or rows k d).path) text t ∙ sym (here.here d)) (ascending_at rows k at d up lt within))))
    (λ lt. part_itself (tail_of (get_or rows at d).path) text (here.here d)) in
    ap (λ n. cond (ltb n (length rows)) (Some n) None) place ∙ ap (λ b. cond b (Some at) None) (lt-ltb at (length rows) within)

pub has_found : (rows : List Row) (path : Path) (at : ℕ) → AreNormal rows → is_normal path ≡ true → IsAt rows (tail_of path) at
    → has_row rows path ≡ true
has_found rows path at normal clean here =
    let d : Row = plain_dir root in
    let own : Path = (get_or rows at d).path in
    list_any_at (λ row. is_same row.path path) rows at d here.within
    (subst (λ (p : Path). is_same own p ≡ true) (same_tail own path (normal_at rows at d normal here.within) clean (here.here d))
    (same_itself own))

-- ---- a text without a row

apart : (rows : List Row) (text : List ℕ) (at k : ℕ) (d : Row) → IsGap rows text at → k < length rows
    → has_tail text (get_or rows k d) ≡ false
apart rows text at k d gap lt = false_from_ne_true (has_tail text (get_or rows k d)) (λ t.
    let tied : order_to text (get_or rows k d) ≡ Equal = ap (λ xs. slice_cmp nat_cmp xs text) (same_part (tail_of (get_or rows k d).path) text t) ∙ tied_itself nat_list_cmp_total text in
    elim (cases_lt k at) [
      | inl before ↦ let less : order_to text (get_or rows k d) ≡ Less = gap.before k d before in cc
      | inr behind ↦ let more : order_to text (get_or rows k d) ≡ Greater = gap.behind k d behind lt in cc
    ])

pub gap_place : (rows : List Row) (text : List ℕ) (at : ℕ) → IsGap rows text at → place_of_text rows text ≡ None
gap_place rows text at gap =
    let d : Row = plain_dir root in
    let place : position_or_len (has_tail text) rows ≡ length rows =
    position_or_len_is (has_tail text) rows (length rows) d (omega arith) (λ k lt. apart rows text at k d gap lt) (λ lt. absurd (omega arith)) in
    ap (λ n. cond (ltb n (length rows)) (Some n) None) place
    ∙ ap (λ b. cond b (Some (length rows)) None) (le-ltb (length rows) (length rows) (omega arith))

pub gap_absent : (rows : List Row) (path : Path) (at : ℕ) → IsGap rows (tail_of path) at → has_row rows path ≡ false
gap_absent rows path at gap = list_any_none (λ row. is_same row.path path) rows (λ k d lt.
    false_from_ne_true (is_same (get_or rows k d).path path) (λ t.
    false≢true (sym (apart rows (tail_of path) at k d gap lt)
    ∙ part_itself (tail_of (get_or rows k d).path) (tail_of path) (ap tail_of (same_path (get_or rows k d).path path t)))))

gap_later : (first : Row) (rows : List Row) (text : List ℕ) (at : ℕ) → IsGap (first ∷ rows) text (suc at) → IsGap rows text at
gap_later first rows text at gap = record {
  within = let le : suc at ≤ length (first ∷ rows) = gap.within in omega arith;
  before = λ k d lt. gap.before (suc k) d (omega arith);
  behind = λ k d le lt. gap.behind (suc k) d (omega arith) (omega arith);
}

-- a row is put into the gap
pub gap_placed : (rows : List Row) (row : Row) (at : ℕ) → IsGap rows (tail_of row.path) at → row_placed row rows ≡ insert rows at row
gap_placed [] row zero gap = refl
gap_placed [] row (suc at) gap = let le : suc at ≤ 0 = gap.within in absurd (omega arith)
gap_placed (first ∷ rows) row zero gap =
    let first_comes : slice_cmp nat_cmp (tail_of row.path) (tail_of first.path) ≡ Less =
    nat_list_cmp_total.antisymm (tail_of row.path) (tail_of first.path) ∙ ap ordering_reverse (gap.behind 0 first (omega arith) (omega arith)) in
    ap (λ b. cond b (row ∷ first ∷ rows) (cond (is_before first.path row.path) (first ∷ row_placed row rows) (first ∷ rows)))
    (ap is_lt first_comes)
gap_placed (first ∷ rows) row (suc at) gap =
    let comes : is_before first.path row.path ≡ true = ap is_lt (gap.before 0 first (omega arith)) in
    ap (λ b. cond b (row ∷ first ∷ rows) (cond (is_before first.path row.path) (first ∷ row_placed row rows) (first ∷ rows)))
    (not_after first.path row.path comes)
    ∙ ap (λ b. cond b (first ∷ row_placed row rows) (first ∷ rows)) comes
    ∙ ap (λ rs. first ∷ rs) (gap_placed rows row at (gap_later first rows (tail_of row.path) at gap))

-- ---- the searches

-- if the last row precedes a text, the gap is at the end
pub ends_gap : (rows : List Row) (text : List ℕ) (last : Option Row) → AreAscending (paths_of rows)
    → last ≡ slice_get rows (length rows - 1) → option_map_or (λ row. is_lt (order_to text row)) last true ≡ true
    → IsGap rows text (length rows)
ends_gap [] text last up e h =
    record { within = omega arith; before = λ k d lt. absurd (omega arith); behind = λ k d le lt. absurd (omega arith) }
ends_gap (first ∷ rest) text None up e h = let some = slice_get-get_or (first ∷ rest) (length (first ∷ rest) - 1) first (omega arith) in cc
ends_gap (first ∷ rest) text (Some last) up e h = record {
  within = omega arith;
  before = λ k d lt.
      let end : ℕ = length (first ∷ rest) - 1 in
      let there : get_or (first ∷ rest) end d ≡ last = get_or_from_slice_get (first ∷ rest) end last d (sym e) in
      elim (cases_lt k end) [
        | inl low ↦ nat_list_cmp_total.trans (tail_of (get_or (first ∷ rest) k d).path) (tail_of last.path) text
            (lt_Less _ (subst (λ (r : Row). is_before (get_or (first ∷ rest) k d).path r.path ≡ true) there
            (ascending_at (first ∷ rest) k end d up low (omega arith))))
            (lt_Less _ h)
        | inr high ↦
            let same : k ≡ end = omega arith in
            ap (λ n. order_to text (get_or (first ∷ rest) n d)) same ∙ ap (order_to text) there ∙ lt_Less _ h
      ];
  behind = λ k d le lt. absurd (omega arith);
}

pub searched : (rows : List Row) (text : List ℕ) (found : Result ℕ ℕ) → AreAscending (paths_of rows) → IsSearchInRange found (length rows)
    → IsBinarySearchResult (order_to text) rows found → Searches rows text found
searched rows text (Ok at) up within is = record { within = within; here = λ d. exact_bytes (tail_of (get_or rows at d).path) text (is d) }
searched rows text (Err at) up within is =
    let sorted : IsSortedBy (λ (a b : Row). is_lt (slice_cmp nat_cmp (tail_of a.path) (tail_of b.path))) rows =
    λ k e low high. not_after (get_or rows k e).path (get_or rows (k + 1) e).path (ascending_at rows k (k + 1) e up (omega arith) high) in
    let sides = is (searchable_from_sorted nat_list_cmp_total (λ (row : Row). tail_of row.path) rows text sorted) in
    record { within = within; before = λ k d lt. sides.0 k d (omega arith) lt; behind = λ k d le lt. sides.1 k d le lt }

-- the found place is the place of the text
pub text_place : (rows : List Row) (text : List ℕ) (found : Result ℕ ℕ) → AreAscending (paths_of rows) → Searches rows text found
    → result_ok found ≡ place_of_text rows text
text_place rows text (Ok at) up h = sym (found_place rows text at up h)
text_place rows text (Err at) up h = sym (gap_place rows text at h)

pub goes_at : (rows : List Row) (path : Path) (at : ℕ) → AreOrdered rows → is_normal path ≡ true → IsGap rows (tail_of path) at
    → GoesAt rows path at
goes_at rows path at ordered clean gap = record {
  ordered = ordered;
  within = gap.within;
  absent = gap_absent rows path at gap;
  normal = clean;
  placed = λ row same. gap_placed rows row at (subst (λ (p : Path). IsGap rows (tail_of p) at) (sym same) gap);
}

-- the place for a path, by the search for its text
pub place_searched : (rows : List Row) (path : Path) (found : Result ℕ ℕ) → AreOrdered rows → is_normal path ≡ true
    → Searches rows (tail_of path ++ []) found → MatchOption (result_err found) (has_row rows path ≡ true) (GoesAt rows path)
place_searched rows path (Ok at) ordered clean here = has_found rows path at ordered.normal clean
    (subst (λ (text : List ℕ). IsAt rows text at) (append-nil (tail_of path)) here)
place_searched rows path (Err at) ordered clean gap = goes_at rows path at ordered clean
    (subst (λ (text : List ℕ). IsGap rows text at) (append-nil (tail_of path)) gap)

-- rows with one more in its place are in order too
pub ordered_more : (rows : List Row) (row : Row) (at : ℕ) → GoesAt rows row.path at → AreOrdered (insert rows at row)
ordered_more rows row at goes = subst AreOrdered (goes.placed row refl) (record {
  ascending = subst AreAscending (sym (paths-placed row rows)) (placed_ascending row.path (paths_of rows) goes.ordered.ascending);
  normal = all_placed (λ r. is_normal r.path ≡ true) row rows goes.normal goes.ordered.normal;
})

-- ---- paths and their texts

prefix_same : (p q : Row → Bool) (rows : List Row) → AllByRecursion (λ row. p row ≡ q row) rows
    → prefix_len (λ row. not (p row)) rows ≡ prefix_len (λ row. not (q row)) rows
prefix_same p q [] all = refl
prefix_same p q (row ∷ rows) all =
    ap (λ b. cond (not b) (1 + prefix_len (λ r. not (p r)) rows) 0) all.0
    ∙ ap (λ n. cond (not (q row)) (1 + n) 0) (prefix_same p q rows all.1)

tests_same : (rows : List Row) (path : Path) → AreNormal rows → is_normal path ≡ true
    → AllByRecursion (λ row. has_tail (tail_of path) row ≡ is_same row.path path) rows
tests_same [] path all clean = tt
tests_same (row ∷ rows) path all clean = (same_texts_of row.path path all.0 clean, tests_same rows path all.1 clean)

place_by_text : (rows : List Row) (path : Path) → AreNormal rows → is_normal path ≡ true
    → place_of_text rows (tail_of path) ≡ place_of rows path
place_by_text rows path all clean = ap (λ n. cond (ltb n (length rows)) (Some n) None)
    (prefix_same (has_tail (tail_of path)) (λ row. is_same row.path path) rows (tests_same rows path all clean))

joined_normal : (front rest : Path) → is_normal front ≡ true → is_normal rest ≡ true → is_normal (front ++ rest) ≡ true
joined_normal [] rest h g = g
joined_normal (part ∷ front) rest h g = let both = and_parts (is_part part) (is_normal front) h in and_from (is_part part) (is_normal (front ++ rest)) both.0 (joined_normal front rest both.1 g)

-- the place of the text of a front and a rest is the place of the joined path
pub joined_place : (rows : List Row) (front : Path) (rest : List ℕ) → AreNormal rows → is_normal front ≡ true → IsRest rest
    → place_of_text rows (tail_of front ++ rest) ≡ place_of rows (front ++ parts_of rest)
joined_place rows front rest all clean h =
    ap (place_of_text rows) (ap (λ text. tail_of front ++ text) (sym h.whole) ∙ sym (tail-append front (parts_of rest)))
    ∙ place_by_text rows (front ++ parts_of rest) all (joined_normal front (parts_of rest) clean h.parts)

pub normal_rows : (all rows : List Row) → AllByRecursion (IsRowOf all) rows → AreNormal rows
normal_rows all [] h = tt
normal_rows all (row ∷ rows) h = (h.0.normal, normal_rows all rows h.1)
