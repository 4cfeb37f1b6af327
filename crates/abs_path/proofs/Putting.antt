-- A path is put into a list in byte order.
use Rattle.std.proofs.Common.{◌≡◌, ℕ, suc, add-one, ◌+◌, ◌<◌, cond, List, [], ◌∷◌, ◌++◌, length, take, drop, get_or, sym, ap, ◌∙◌}
use Rattle.std.proofs.Common.{append_assoc, Ordering, Equal, Greater}
use Rattle.std.specs.Ordering.{is_lt, nat_cmp, ordering_reverse}
use Rattle.std.specs.Cmp.Lexicographic.{slice_cmp}
use Rattle.std.proofs.lemmas.Cmp.{nat_list_cmp_total}
use Rattle.std.proofs.lemmas.List.{take_more, take-append-drop}
use Rattle.std.proofs.Math.Seq.{drop-cons}
use Rattle.abs_path.specs.Paths.{Path, tail_of}
use Rattle.abs_path.specs.ByteOrder.{is_before, placed}

drop_item : (paths : List Path) (i : ℕ) (path : Path) → i < length paths → path ≡ get_or paths i path
    → drop i paths ≡ path ∷ drop (i + 1) paths
drop_item paths i path lt e = drop-cons paths i path lt ∙ ap (λ p. p ∷ drop (suc i) paths) (sym e)
    ∙ ap (λ n. path ∷ drop n paths) (sym (add-one i))

before_back : (path other : Path) (o : Ordering) → o ≡ slice_cmp nat_cmp (tail_of path) (tail_of other)
    → is_before other path ≡ is_lt (ordering_reverse o)
before_back path other o e = ap is_lt (nat_list_cmp_total.antisymm (tail_of other) (tail_of path) ∙ ap ordering_reverse (sym e))

placed_equal : (path other : Path) (rest : List Path) → Equal ≡ slice_cmp nat_cmp (tail_of path) (tail_of other)
    → placed path (other ∷ rest) ≡ other ∷ rest
placed_equal path other rest e =
    ap (λ o. cond (is_lt o) (path ∷ other ∷ rest) (cond (is_before other path) (other ∷ placed path rest) (other ∷ rest))) (sym e)
    ∙ ap (λ b. cond b (other ∷ placed path rest) (other ∷ rest)) (before_back path other Equal e)

placed_greater : (path other : Path) (rest : List Path) → Greater ≡ slice_cmp nat_cmp (tail_of path) (tail_of other)
    → placed path (other ∷ rest) ≡ other ∷ placed path rest
placed_greater path other rest e =
    ap (λ o. cond (is_lt o) (path ∷ other ∷ rest) (cond (is_before other path) (other ∷ placed path rest) (other ∷ rest))) (sym e)
    ∙ ap (λ b. cond b (other ∷ placed path rest) (other ∷ rest)) (before_back path other Greater e)

pub stands_there : (paths : List Path) (i : ℕ) (path other : Path) → i < length paths → other ≡ get_or paths i other
    → Equal ≡ slice_cmp nat_cmp (tail_of path) (tail_of other) →
    placed path paths ≡ take i paths ++ placed path (drop i paths) → placed path paths ≡ paths
stands_there paths i path other lt at e so_far =
    let next = drop_item paths i other lt at in
    so_far ∙ ap (λ rest. take i paths ++ placed path rest) next
    ∙ ap (λ rest. take i paths ++ rest) (placed_equal path other (drop (i + 1) paths) e ∙ sym next) ∙ take-append-drop i paths

pub goes_behind : (paths : List Path) (i : ℕ) (path other : Path) → i < length paths → other ≡ get_or paths i other
    → Greater ≡ slice_cmp nat_cmp (tail_of path) (tail_of other) →
    placed path paths ≡ take i paths ++ placed path (drop i paths)
    → placed path paths ≡ take (i + 1) paths ++ placed path (drop (i + 1) paths)
goes_behind paths i path other lt at e so_far =
    let next = drop_item paths i other lt at in
    so_far ∙ ap (λ rest. take i paths ++ placed path rest) next
    ∙ ap (λ rest. take i paths ++ rest) (placed_greater path other (drop (i + 1) paths) e)
    ∙ sym (append_assoc (take i paths) (other ∷ []) (placed path (drop (i + 1) paths)))
    ∙ ap (λ front. front ++ placed path (drop (i + 1) paths)) (ap (λ x. take i paths ++ x ∷ []) at ∙ sym (take_more paths i other lt))
