-- The order of the names is total, and a name comes before none that is itself.
use Rattle.std.proofs.Common.{◌≡◌, ℕ, true, false, List, Ordering, Less, Equal, Greater, refl, sym, ap, ◌∙◌, true≢false}
use Rattle.std.specs.Ordering.{is_lt, is_eq, nat_cmp, ordering_reverse}
use Rattle.std.specs.Cmp.Lexicographic.{slice_cmp}
use Rattle.std.specs.Str.{bytes_eq}
use Rattle.std.proofs.lemmas.Cmp.{nat_list_cmp_total, nat_list_eq_equiv, tied_itself}
use Rattle.std.proofs.lemmas.Map.Text.{is_eq-slice_cmp}
use Rattle.std.proofs.lemmas.Slice.Eq.{bytes_eq-Decides}
use Rattle.name_table.specs.Before.{is_before}

less_of : (o : Ordering) → is_lt o ≡ true → o ≡ Less
less_of Less e = refl
less_of Equal e = absurd (true≢false (sym e))
less_of Greater e = absurd (true≢false (sym e))

pub before_next : (a b c : List ℕ) → is_before a b ≡ true → is_before b c ≡ true → is_before a c ≡ true
before_next a b c first second = ap is_lt (nat_list_cmp_total.trans a b c (less_of _ first) (less_of _ second))

pub not_before_itself : (a : List ℕ) → is_before a a ≡ false
not_before_itself a = ap is_lt (tied_itself nat_list_cmp_total a)

pub same_from_ties : (a b : List ℕ) → bytes_eq a b ≡ true → a ≡ b
same_from_ties a b = (bytes_eq-Decides a b).0

reversed : (o : Ordering) → is_lt o ≡ false → is_eq o ≡ false → is_lt (ordering_reverse o) ≡ true
reversed Less e f = absurd (true≢false e)
reversed Equal e f = absurd (true≢false f)
reversed Greater e f = refl

pub before_other : (a b : List ℕ) → is_before a b ≡ false → bytes_eq a b ≡ false → is_before b a ≡ true
before_other a b e f = ap is_lt (nat_list_cmp_total.antisymm b a) ∙ reversed (slice_cmp nat_cmp a b) e (is_eq-slice_cmp a b ∙ f)

pub ties_from_same : (a b : List ℕ) → a ≡ b → bytes_eq a b ≡ true
ties_from_same a b = (bytes_eq-Decides a b).1

pub ties_back : (a b : List ℕ) → bytes_eq a b ≡ bytes_eq b a
ties_back = nat_list_eq_equiv.symm
