-- A list of paths in byte order, each once.
use Rattle.std.proofs.Common.{◌≡◌, Bool, true, false, cond, List, [], ◌∷◌, refl, sym, ap, ◌∙◌, subst, ◌⊎◌, inl, inr, Ordering, Less, Equal}
use Rattle.std.proofs.Common.{Greater}
use Rattle.std.specs.List.{AllByRecursion}
use Rattle.std.specs.Ordering.{is_lt, nat_cmp, ordering_reverse}
use Rattle.std.specs.Cmp.Lexicographic.{slice_cmp}
use Rattle.std.proofs.lemmas.Bool.{false≢true}
use Rattle.std.proofs.lemmas.Cmp.{nat_list_cmp_total}
use Rattle.std.proofs.lemmas.Map.Lookups.{exact_bytes}
use Rattle.abs_path.specs.Paths.{Path, tail_of, is_normal}
use Rattle.abs_path.specs.ByteOrder.{is_before, placed, with_placed, in_byte_order, AreAscending}
use Rattle.abs_path.proofs.ByteOrder.{before_trans}
use Rattle.abs_path.proofs.Texts.{same_tail}

-- a property of a path and of each path of a list holds of each after the path is placed there
placed_is : (P : Path → Type 0) (path : Path) (paths : List Path) → P path → AllByRecursion P paths → AllByRecursion P (placed path paths)
placed_is P path [] here h = (here, tt)
placed_is P path (first ∷ paths) here h = by (is_before path first) (is_before first path) (placed_is P path paths here h.1)
  where
    by : (b c : Bool) → AllByRecursion P (placed path paths)
        → AllByRecursion P (cond b (path ∷ first ∷ paths) (cond c (first ∷ placed path paths) (first ∷ paths)))
    by true c more = (here, (h.0, h.1))
    by false true more = (h.0, more)
    by false false more = h

with_placed_is : (P : Path → Type 0) (sorted paths : List Path) → AllByRecursion P sorted → AllByRecursion P paths
    → AllByRecursion P (with_placed sorted paths)
with_placed_is P sorted [] so_far h = so_far
with_placed_is P sorted (path ∷ paths) so_far h = with_placed_is P (placed path sorted) paths (placed_is P path sorted h.0 so_far) h.1

pub in_byte_order_is : (P : Path → Type 0) (paths : List Path) → AllByRecursion P paths → AllByRecursion P (in_byte_order paths)
in_byte_order_is P paths h = with_placed_is P [] paths tt h

all_later : (path first : Path) (paths : List Path) → is_before path first ≡ true
    → AllByRecursion (λ later. is_before first later ≡ true) paths → AllByRecursion (λ later. is_before path later ≡ true) paths
all_later path first [] h up = tt
all_later path first (next ∷ paths) h up = (before_trans path first next h up.0, all_later path first paths h up.1)

pub placed_ascending : (path : Path) (paths : List Path) → AreAscending paths → AreAscending (placed path paths)
placed_ascending path [] up = (tt, tt)
placed_ascending path (first ∷ paths) up = by (is_before path first) (is_before first path) refl refl (placed_ascending path paths up.1)
  where
    by : (b c : Bool) → is_before path first ≡ b → is_before first path ≡ c → AreAscending (placed path paths)
        → AreAscending (cond b (path ∷ first ∷ paths) (cond c (first ∷ placed path paths) (first ∷ paths)))
    by true c h g more = ((h, all_later path first paths h up.0), up)
    by false true h g more = (placed_is (λ later. is_before first later ≡ true) path paths g up.0, more)
    by false false h g more = up

with_placed_ascending : (sorted paths : List Path) → AreAscending sorted → AreAscending (with_placed sorted paths)
with_placed_ascending sorted [] up = up
with_placed_ascending sorted (path ∷ paths) up = with_placed_ascending (placed path sorted) paths (placed_ascending path sorted up)

pub in_byte_order_ascending : (paths : List Path) → AreAscending (in_byte_order paths)
in_byte_order_ascending paths = with_placed_ascending [] paths tt

-- normal paths of which neither precedes the other are equal
pub neither_before : (one other : Path) → is_normal one ≡ true → is_normal other ≡ true → is_before one other ≡ false
    → is_before other one ≡ false → one ≡ other
neither_before one other h g e f =
    same_tail one other h g
    (exact_bytes (tail_of one) (tail_of other)
    (by (slice_cmp nat_cmp (tail_of one) (tail_of other)) e (sym (ap is_lt (nat_list_cmp_total.antisymm (tail_of other) (tail_of one)))
    ∙ f)))
  where
    by : (o : Ordering) → is_lt o ≡ false → is_lt (ordering_reverse o) ≡ false → o ≡ Equal
    by Less e f = absurd (false≢true (sym e))
    by Equal e f = refl
    by Greater e f = absurd (false≢true (sym f))

-- a property of each path of the ordered list holds of each given path
placed_was : (P : Path → Type 0) (path : Path) (paths : List Path) → is_normal path ≡ true
    → AllByRecursion (λ other. is_normal other ≡ true) paths → AllByRecursion P (placed path paths) → P path × AllByRecursion P paths
placed_was P path [] clean normal h = (h.0, tt)
placed_was P path (first ∷ paths) clean normal h = by (is_before path first) (is_before first path) refl refl
    (placed_was P path paths clean normal.1) h
  where
    by : (b c : Bool) → is_before path first ≡ b → is_before first path ≡ c
        → (AllByRecursion P (placed path paths) → P path × AllByRecursion P paths) →
        AllByRecursion P (cond b (path ∷ first ∷ paths) (cond c (first ∷ placed path paths) (first ∷ paths)))
        → P path × AllByRecursion P (first ∷ paths)
    by true c e f more h = (h.0, h.1)
    by false true e f more h = let rest = more h.1 in (rest.0, (h.0, rest.1))
    by false false e f more h = (subst P (sym (neither_before path first clean normal.0 e f)) h.0, h)

with_placed_was : (P : Path → Type 0) (sorted paths : List Path) → AllByRecursion (λ path. is_normal path ≡ true) sorted
    → AllByRecursion (λ path. is_normal path ≡ true) paths →
    AllByRecursion P (with_placed sorted paths) → AllByRecursion P sorted × AllByRecursion P paths
with_placed_was P sorted [] clean normal h = (h, tt)
with_placed_was P sorted (path ∷ paths) clean normal h =
    let more = with_placed_was P (placed path sorted) paths (placed_is (λ path. is_normal path ≡ true) path sorted normal.0 clean) normal.1 h in
    let both = placed_was P path sorted normal.0 clean more.0 in
    (both.1, (both.0, more.1))

pub in_byte_order_was : (P : Path → Type 0) (paths : List Path) → AllByRecursion (λ path. is_normal path ≡ true) paths
    → AllByRecursion P (in_byte_order paths) → AllByRecursion P paths
in_byte_order_was P paths normal h = (with_placed_was P [] paths tt normal h).1

-- if the root is among the paths, it is the first
root_stays : (rest paths : List Path) → (more : List Path) × (with_placed ([] ∷ rest) paths ≡ [] ∷ more)
root_stays rest [] = (rest, refl)
root_stays rest ([] ∷ paths) = root_stays rest paths
root_stays rest ((part ∷ path) ∷ paths) = root_stays (placed (part ∷ path) rest) paths

pub root_first : (paths : List Path) → (rest : List Path) × (in_byte_order ([] ∷ paths) ≡ [] ∷ rest)
root_first paths = root_stays [] paths

-- of two different normal paths, one precedes the other
pub one_first : (one other : Path) → is_normal one ≡ true → is_normal other ≡ true
    → (one ≡ other) ⊎ ((is_before one other ≡ true) ⊎ (is_before other one ≡ true))
one_first one other h g = by (is_before one other) (is_before other one) refl refl
  where
    by : (b c : Bool) → is_before one other ≡ b → is_before other one ≡ c
        → (one ≡ other) ⊎ ((is_before one other ≡ true) ⊎ (is_before other one ≡ true))
    by true c e f = inr (inl e)
    by false true e f = inr (inr f)
    by false false e f = inl (neither_before one other h g e f)
