-- Sets of items, and the numbers that stand in them.
use Rattle.std.proofs.Common.{◌≡◌, ℕ, zero, suc, ◌+◌, ◌-◌, ◌<◌, ◌≤◌, Bool, true, false, cond, List, [], ◌∷◌, length, filter, Result, Ok}
use Rattle.std.proofs.Common.{Err, get_or, map, ◌++◌, refl, ap, ◌∙◌, sym, subst, arith, eq-eqb, ne_eqb}
use Rattle.std.specs.Prelude.{IfOk, not, ◌||◌, ◌==◌}
use Rattle.std.specs.declared.alloc.AllocError.{AllocError}
use Rattle.std.specs.List.{All, range_with_len}
use Rattle.std.specs.List.Sorted.{IsStrictlyIncreasing}
use Rattle.std.proofs.lemmas.List.{map-id}
use Rattle.std.proofs.lemmas.Bool.{eqb-true}
use Rattle.std.proofs.lemmas.List.FromFn.{filter_of_map_range_with_len_more, get_or-range_with_len, length-range_with_len}
use Rattle.std.proofs.lemmas.List.Elements.{All-filter}
use Rattle.std.proofs.lemmas.List.Kept.{IsStrictlyIncreasing-filter}
use Rattle.asked_service.specs.dropin_merge.declared.resolved.Resolved.{Resolved}
use Rattle.asked_service.specs.launching.Longer.{with_file}
use Rattle.tighten_command.specs.tightening.Items.{drop_in_text, has, in_order, tightened, with_items}
use Rattle.tighten_command.specs.tightening.Searching.{outside}

-- tests that agree on some numbers pass the same ones of them
filter_same : (p q : ℕ → Bool) (a n : ℕ) → ((x : ℕ) → a ≤ x → x < a + n → p x ≡ q x)
    → filter p (range_with_len a n) ≡ filter q (range_with_len a n)
filter_same p q a zero same = refl
filter_same p q a (suc n) same =
    ap (λ b. cond b (a ∷ filter p (range_with_len (a + 1) n)) (filter p (range_with_len (a + 1) n))) (same a (omega arith) (omega arith))
    ∙ ap (λ (these : List ℕ). cond (q a) (a ∷ these) these)
    (filter_same p q (a + 1) n (λ x lo hi. same x (omega (arith, lo)) (omega (arith, hi))))

pub in_order_same : (one other : List ℕ) → ((item : ℕ) → 1 ≤ item → item ≤ 17 → has one item ≡ has other item)
    → in_order one ≡ in_order other
in_order_same one other same = filter_same (has one) (has other) 1 17 (λ x lo hi. same x lo (omega (arith, hi)))

-- those that pass of one number more
pub range_more : (p : ℕ → Bool) (n : ℕ) → filter p (range_with_len 1 (n + 1))
    ≡ filter p (range_with_len 1 n) ++ cond (p (n + 1)) ((n + 1) ∷ []) []
range_more p n =
    ap (filter p) (sym (map-id (range_with_len 1 (n + 1))))
    ∙ filter_of_map_range_with_len_more p (λ (k : ℕ). k) 1 n (n + 1) (omega arith)
    ∙ ap (λ (these : List ℕ). filter p these ++ cond (p (n + 1)) ((n + 1) ∷ []) []) (map-id (range_with_len 1 n))

-- no number is below the first
below : (p : ℕ → Bool) (a n item : ℕ) → item < a → has (filter p (range_with_len a n)) item ≡ false
below p a zero item lt = refl
below p a (suc n) item lt = by (p a) (below p (a + 1) n item (omega (arith, lt))) where
  by : (b : Bool) → has (filter p (range_with_len (a + 1) n)) item ≡ false
      → has (cond b (a ∷ filter p (range_with_len (a + 1) n)) (filter p (range_with_len (a + 1) n))) item ≡ false
  by false rest = rest
  by true rest = ap (λ b. b || has (filter p (range_with_len (a + 1) n)) item) (ne_eqb a item (λ e. absurd (omega (arith, e, lt)))) ∙ rest

-- those that pass are those of which the test says so
has_passed : (p : ℕ → Bool) (a n item : ℕ) → a ≤ item → item < a + n → has (filter p (range_with_len a n)) item ≡ p item
has_passed p a zero item lo hi = absurd (omega (arith, lo, hi))
has_passed p a (suc n) item lo hi = by (λ other. has_passed p (a + 1) n item (omega (arith, other)) (omega (arith, hi))) (a == item) refl where
  rest : List ℕ
  rest = filter p (range_with_len (a + 1) n)

  here : (b : Bool) → p a ≡ b → a ≡ item → has rest item ≡ false → has (cond b (a ∷ rest) rest) item ≡ p item
  here true e is none = ap (λ c. c || has rest item) (eq-eqb a item is) ∙ sym (ap p (sym is) ∙ e)
  here false e is none = none ∙ sym (ap p (sym is) ∙ e)

  later : (b : Bool) → (a == item) ≡ false → has rest item ≡ p item → has (cond b (a ∷ rest) rest) item ≡ p item
  later true other known = ap (λ c. c || has rest item) other ∙ known
  later false other known = known

  by : (a < item → has rest item ≡ p item) → (b : Bool) → (a == item) ≡ b → has (cond (p a) (a ∷ rest) rest) item ≡ p item
  by known true e = let is : a ≡ item = eqb-true a item e in here (p a) refl is (below p (a + 1) n item (omega (arith, is)))
  by known false e =
      let apart : a ≡ item → ⊥ = λ same. (let both : true ≡ false = sym (eq-eqb a item same) ∙ e in cc) in
      later (p a) e (known (omega (arith, lo, apart)))

pub has_in_order : (set : List ℕ) (item : ℕ) → 1 ≤ item → item ≤ 17 → has (in_order set) item ≡ has set item
has_in_order set item lo hi = has_passed (has set) 1 17 item lo (omega (arith, hi))

-- the set in its order is the same set
pub ordered_set : (unit : Resolved) (set : List ℕ) → tightened unit (in_order set) ≡ tightened unit set
ordered_set unit set = ap (with_items unit) (in_order_same (in_order set) set (has_in_order set))

-- and so it is with one more item
pub ordered_with : (unit : Resolved) (set : List ℕ) (item : ℕ) → tightened unit (item ∷ in_order set) ≡ tightened unit (item ∷ set)
ordered_with unit set item =
    ap (with_items unit) (in_order_same (item ∷ in_order set) (item ∷ set)
    (λ other lo hi. ap (λ b. (item == other) || b) (has_in_order set other lo hi)))

-- a set with an item of the list is not empty
some_item : (items : List ℕ) (item : ℕ) → has items item ≡ true → 0 < length items
some_item [] item e = (let both : false ≡ true = e in cc)
some_item (one ∷ items) item e = omega arith

pub with_some : (set : List ℕ) (item : ℕ) → 1 ≤ item → item ≤ 17 → 0 < length (in_order (item ∷ set))
with_some set item lo hi = some_item (in_order (item ∷ set)) item
    (has_in_order (item ∷ set) item lo hi ∙ ap (λ b. b || has set item) (eq-eqb item item refl))

-- a unit with some items
pub with_items_some : (unit : Resolved) (items : List ℕ) → 0 < length items → with_items unit items ≡ with_file unit (drop_in_text items)
with_items_some unit [] some = absurd (omega arith)
with_items_some unit (item ∷ items) some = refl

-- the unit is the tightened one
pub tightened_is : (unit : Resolved) (set items lent text lent_text : List ℕ) (result : Result Resolved AllocError) → items ≡ in_order set
    → lent ≡ items → text ≡ drop_in_text lent → lent_text ≡ text → 0 < length (in_order set)
    → IfOk result (λ longer. longer ≡ with_file unit lent_text) → IfOk result (λ tight. tight ≡ tightened unit set)
tightened_is unit set items lent text lent_text (Err error) ordered lends said lends_text some is = tt
tightened_is unit set items lent text lent_text (Ok longer) ordered lends said lends_text some is =
    is ∙ ap (with_file unit) (lends_text ∙ said ∙ ap drop_in_text (lends ∙ ordered)) ∙ sym (with_items_some unit (in_order set) some)

-- the items of a set in order stand in it
range_ascends : (a n : ℕ) → IsStrictlyIncreasing (range_with_len a n)
range_ascends a n k within =
    let long = length-range_with_len a n in
    let here = get_or-range_with_len a n k 0 (omega (arith, long)) in
    let next = get_or-range_with_len a n (k + 1) 0 (omega (arith, long)) in
    omega (arith, here, next)

pub in_order_ascends : (set : List ℕ) → IsStrictlyIncreasing (in_order set)
in_order_ascends set = IsStrictlyIncreasing-filter (has set) (range_with_len 1 17) (range_ascends 1 17)

range_within : (n : ℕ) → n ≤ 17 → All (λ item. (1 ≤ item) × (item ≤ 17)) (range_with_len 1 n)
range_within n most k d lt =
    let long = length-range_with_len 1 n in
    let here = get_or-range_with_len 1 n k d (omega (arith, lt, long)) in
    (omega (arith, here), omega (arith, here, lt, long, most))

pub some_within : (p : ℕ → Bool) (n : ℕ) → n ≤ 17 → All (λ item. (1 ≤ item) × (item ≤ 17)) (filter p (range_with_len 1 n))
some_within p n most = All-filter p (λ item. (1 ≤ item) × (item ≤ 17)) (range_with_len 1 n) (range_within n most)

pub in_order_within : (set : List ℕ) → All (λ item. (1 ≤ item) × (item ≤ 17)) (in_order set)
in_order_within set = some_within (has set) 17 (omega arith)

-- a test that fails wherever another does passes gone more
few : (p q : ℕ → Bool) → ((x : ℕ) → q x ≡ true → p x ≡ true) → (xs : List ℕ) → length (filter q xs) ≤ length (filter p xs)
few p q sub [] = omega arith
few p q sub (x ∷ xs) = by (p x) (q x) refl refl (few p q sub xs) where
  by : (b c : Bool) → p x ≡ b → q x ≡ c → length (filter q xs) ≤ length (filter p xs)
      → length (cond c (x ∷ filter q xs) (filter q xs)) ≤ length (cond b (x ∷ filter p xs) (filter p xs))
  by true true here one rest = omega (arith, rest)
  by true false here one rest = omega (arith, rest)
  by false false here one rest = rest
  by false true here one rest = (let both : true ≡ false = sym (sub x one) ∙ here in cc)

-- and fewer where it alone fails at one
fewer : (p q : ℕ → Bool) → ((x : ℕ) → q x ≡ true → p x ≡ true) → (xs : List ℕ) (i d : ℕ) → i < length xs → p (get_or xs i d) ≡ true
    → q (get_or xs i d) ≡ false → length (filter q xs) < length (filter p xs)
fewer p q sub [] i d lt here gone = absurd (omega arith)
fewer p q sub (x ∷ xs) zero d lt here gone =
    let rest = few p q sub xs in
    subst (λ c. length (cond c (x ∷ filter q xs) (filter q xs)) < length (filter p (x ∷ xs))) (sym gone)
    (subst (λ b. length (filter q xs) < length (cond b (x ∷ filter p xs) (filter p xs))) (sym here) (omega (arith, rest)))
fewer p q sub (x ∷ xs) (suc i) d lt here gone = by (p x) (q x) refl refl (fewer p q sub xs i d (omega (arith, lt)) here gone) where
  by : (b c : Bool) → p x ≡ b → q x ≡ c → length (filter q xs) < length (filter p xs)
      → length (cond c (x ∷ filter q xs) (filter q xs)) < length (cond b (x ∷ filter p xs) (filter p xs))
  by true true one two rest = omega (arith, rest)
  by true false one two rest = omega (arith, rest)
  by false false one two rest = rest
  by false true one two rest = (let both : true ≡ false = sym (sub x two) ∙ one in cc)

-- with an item more there are fewer outside
pub fewer_outside : (set : List ℕ) (item : ℕ) → 1 ≤ item → item ≤ 17 → has set item ≡ false → outside (item ∷ set) < outside set
fewer_outside set item lo hi new =
    let place = item - 1 in
    let back : 1 + place ≡ item = omega (arith, lo) in
    let there : get_or (range_with_len 1 17) place 0 ≡ item = get_or-range_with_len 1 17 place 0 (omega (arith, lo, hi)) ∙ back in
    fewer (λ one. not (has set one)) (λ one. not (has (item ∷ set) one)) sub (range_with_len 1 17) place 0
    (omega (arith, lo, hi, length-range_with_len 1 17))
    (subst (λ one. not (has set one) ≡ true) (sym there) (ap not new))
    (subst (λ one. not (has (item ∷ set) one) ≡ false) (sym there) (ap (λ b. not (b || has set item)) (eq-eqb item item refl)))
  where
    by : (x : ℕ) (b : Bool) → not (b || has set x) ≡ true → not (has set x) ≡ true
    by x true e = (let both : false ≡ true = e in cc)
    by x false e = e

    sub : (x : ℕ) → not (has (item ∷ set) x) ≡ true → not (has set x) ≡ true
    sub x e = by x (item == x) e

-- the text at a place of a table of texts
pub text_at : {X Y : Type 0} (f : X → Y) (xs : List X) (k : ℕ) (d : X) → f (get_or xs k d) ≡ get_or (map f xs) k (f d)
text_at f [] k d = refl
text_at f (x ∷ xs) zero d = refl
text_at f (x ∷ xs) (suc k) d = text_at f xs k d
