-- Unions of sets of capabilities, and the union over the rows of a site.
use Rattle.std.proofs.Common.{◌≡◌, ◌<◌, ◌≤◌, ℕ, suc, Bool, true, false, List, ◌+◌, refl, ap, ◌∙◌, sym, length, drop, get_or, drop-cons}
use Rattle.std.proofs.Common.{add-one}
use Rattle.std.specs.Prelude.{◌||◌}
use Rattle.std.proofs.lemmas.List.{drop_all}
use mathlib.Core.Bool.{or_assoc, or-false}
use Rattle.kernel_ways.specs.cap_sets.Sets.{has, none, union}
use Rattle.kernel_ways.proofs.OfCapSets.Members.{has_none, has_union, same_sets}
use Rattle.kernel_ways.specs.site_table.declared.row.Row.{Row}
use Rattle.kernel_ways.specs.kernel_laws.Bound.{gathered, when}

pub union_assoc : (a b c : ℕ) → union (union a b) c ≡ union a (union b c)
union_assoc a b c = same_sets _ _ (λ n.
    has_union (union a b) c n ∙ ap (λ w. w || has c n) (has_union a b n) ∙ or_assoc (has a n) (has b n) (has c n)
    ∙ sym (has_union a (union b c) n ∙ ap (λ w. has a n || w) (has_union b c n)))

pub union_none : (a : ℕ) → union a none ≡ a
union_none a = same_sets _ _ (λ n. has_union a none n ∙ ap (λ w. has a n || w) (has_none n) ∙ or-false (has a n))

-- what is gathered from here on is this row's and what is gathered behind it
pub gathered_here : (f : Row → ℕ) (rows : List Row) (at : ℕ) (row : Row) → at < length rows → row ≡ get_or rows at row
    → gathered f (drop at rows) ≡ union (f row) (gathered f (drop (at + 1) rows))
gathered_here f rows at row h e =
    ap (gathered f) (drop-cons rows at row h)
    ∙ ap (λ (r : Row). union (f r) (gathered f (drop (suc at) rows))) (sym e)
    ∙ ap (λ n. union (f row) (gathered f (drop n rows))) (sym (add-one at))

-- one row's more
pub gathered_more : (f : Row → ℕ) (caps all : ℕ) (rows : List Row) (at : ℕ) (row : Row) → at < length rows → row ≡ get_or rows at row
    → union caps (gathered f (drop at rows)) ≡ all → union (union caps (f row)) (gathered f (drop (at + 1) rows)) ≡ all
gathered_more f caps all rows at row h e so = union_assoc caps (f row) (gathered f (drop (at + 1) rows))
    ∙ ap (union caps) (sym (gathered_here f rows at row h e)) ∙ so

-- nothing is nothing, if so or not
pub when_none : (b : Bool) (set : ℕ) → set ≡ none → none ≡ when b set
when_none true set e = sym e
when_none false set e = refl

-- all is gathered
pub gathered_all : (f : Row → ℕ) (caps all : ℕ) (rows : List Row) (at : ℕ) → length rows ≤ at
    → union caps (gathered f (drop at rows)) ≡ all → caps ≡ all
gathered_all f caps all rows at h so = sym (ap (λ (rest : List Row). union caps (gathered f rest)) (drop_all at rows h) ∙ union_none caps)
    ∙ so

pub nothing_is_none : 0 ≡ none
unfolding none
nothing_is_none = refl
