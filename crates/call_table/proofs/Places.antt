-- The first place of a list at which a test passes.
use Rattle.std.proofs.Common.{subst, ◌≡◌, ℕ, zero, suc, ◌+◌, ◌-◌, ◌<◌, ◌≤◌, Bool, true, false, cond, ltb, List, [], ◌∷◌, ◌++◌, length}
use Rattle.std.proofs.Common.{get_or, Some, None, ◌⊎◌, ⊎_elim, inl, inr, refl, ap, ◌∙◌, arith, length-append}
use Rattle.std.specs.Prelude.{◌||◌, find, slice_get}
use Rattle.call_table.specs.declared.call_names.kernel.Kernel.TheVariants.{Base}
use Rattle.call_table.specs.declared.listed.CallLine.{CallLine}
use Rattle.std.specs.List.{position, position_or_len, list_any, All}
use Rattle.std.proofs.lemmas.Bool.{cases_lt}
use Rattle.std.proofs.lemmas.Bool.Decides.{nat_tests}
use Rattle.std.proofs.lemmas.List.{get_or_append_left, get_or-append_right, get_or_push}
use Rattle.std.proofs.lemmas.List.Sums.{position_or_len_is, fails_before_first}
use Rattle.std.proofs.lemmas.List.Folds.{list_any_none, list_any-append}
use Rattle.std.proofs.lemmas.List.Quantifiers.{position-Some}

pub place_found : {X : Type 0} (p : X → Bool) (xs : List X) (i : ℕ) (d : X) → i < length xs
    → ((k : ℕ) → k < i → p (get_or xs k d) ≡ false) → p (get_or xs i d) ≡ true → position p xs ≡ Some i
place_found p xs i d h before here =
    let there = position_or_len_is p xs i d (omega arith) before (λ _. here) in
    let below : ltb i (length xs) ≡ true = grind (arith, nat_tests) in
    ap (λ n. cond (ltb n (length xs)) (Some n) None) there ∙ ap (λ b. cond b (Some i) None) below

pub place_nowhere : {X : Type 0} (p : X → Bool) (xs : List X) (d : X) → ((k : ℕ) → k < length xs → p (get_or xs k d) ≡ false)
    → position p xs ≡ None
place_nowhere p xs d none =
    let n = length xs in
    let there = position_or_len_is p xs n d (omega arith) none (λ h. absurd (omega arith)) in
    let past : ltb n n ≡ false = grind (arith, nat_tests) in
    ap (λ m. cond (ltb m n) (Some m) None) there ∙ ap (λ b. cond b (Some n) None) past

pub place_is : {X : Type 0} (p : X → Bool) (xs : List X) (i : ℕ) → position p xs ≡ Some i → (position_or_len p xs ≡ i) × (i < length xs)
place_is p xs i = by (ltb (position_or_len p xs) (length xs)) refl
  where
    by : (b : Bool) → ltb (position_or_len p xs) (length xs) ≡ b → cond b (Some (position_or_len p xs)) None ≡ Some i
        → (position_or_len p xs ≡ i) × (i < length xs)
    by true h e =
        let same : position_or_len p xs ≡ i = cc in
        let below : position_or_len p xs < length xs = grind (arith, nat_tests) in
        (same, omega arith)
    by false h e = cc

pub no_place : {X : Type 0} (p : X → Bool) (xs : List X) → position p xs ≡ None → length xs ≤ position_or_len p xs
no_place p xs = by (ltb (position_or_len p xs) (length xs)) refl
  where
    by : (b : Bool) → ltb (position_or_len p xs) (length xs) ≡ b → cond b (Some (position_or_len p xs)) None ≡ None
        → length xs ≤ position_or_len p xs
    by true h e = cc
    by false h e = grind (arith, nat_tests)

pub any_nowhere : {X : Type 0} (p : X → Bool) (xs : List X) → position p xs ≡ None → list_any p xs ≡ false
any_nowhere p xs e =
    let past = no_place p xs e in
    list_any_none p xs (λ k d h. fails_before_first p xs k d (omega arith))

pub or_false : (a b : Bool) → (a || b) ≡ false → (a ≡ false) × (b ≡ false)
or_false true b h = cc
or_false false b h = (refl, h)

pub fails : {X : Type 0} (p : X → Bool) (xs : List X) (k : ℕ) (d : X) → list_any p xs ≡ false → k < length xs → p (get_or xs k d) ≡ false
fails p [] k d h lt = absurd (omega arith)
fails p (x ∷ xs) zero d h lt = (or_false (p x) (list_any p xs) h).0
fails p (x ∷ xs) (suc k) d h lt = fails p xs k d (or_false (p x) (list_any p xs) h).1 (omega arith)

pub nowhere_any : {X : Type 0} (p : X → Bool) (xs : List X) → list_any p xs ≡ false → position p xs ≡ None
nowhere_any p [] h = refl
nowhere_any p (x ∷ xs) h = place_nowhere p (x ∷ xs) x (λ k lt. fails p (x ∷ xs) k x h lt)

pub some_place : {X : Type 0} (p : X → Bool) (xs : List X) (i : ℕ) → position p xs ≡ Some i → list_any p xs ≡ true
some_place p [] i e = cc
some_place p (x ∷ xs) i e = by (list_any p (x ∷ xs)) refl
  where
    by : (b : Bool) → list_any p (x ∷ xs) ≡ b → list_any p (x ∷ xs) ≡ true
    by true h = h
    by false h = let none = nowhere_any p (x ∷ xs) h in cc

-- a place stays if more elements follow, and an element at the end has the first place if no other passes
pub place_stays : {X : Type 0} (p : X → Bool) (xs ys : List X) (i : ℕ) (d : X) → position p xs ≡ Some i → position p (xs ++ ys) ≡ Some i
place_stays p xs ys i d e =
    let at = position-Some p xs i d e in
    let long = length-append xs ys in
    let lt : i < length xs = at.0 in
    place_found p (xs ++ ys) i d (omega (arith, long)) (λ k h. ap p (get_or_append_left xs ys d k (omega arith)) ∙ at.2 k h)
    (ap p (get_or_append_left xs ys d i lt) ∙ at.1)

pub place_at_end : {X : Type 0} (p : X → Bool) (xs : List X) (y : X) → list_any p xs ≡ false → p y ≡ true
    → position p (xs ++ y ∷ []) ≡ Some (length xs)
place_at_end p xs y none here =
    let long = length-append xs (y ∷ []) in
    place_found p (xs ++ y ∷ []) (length xs) y (omega (arith, long))
    (λ k h. ap p (get_or_append_left xs (y ∷ []) y k h) ∙ fails p xs k y none h) (ap p (get_or_push xs y y (length xs) refl) ∙ here)

-- a place is further on if no place precedes it
pub place_behind : {X : Type 0} (p : X → Bool) (xs ys : List X) (j : ℕ) (d : X) → position p xs ≡ None → position p ys ≡ Some j
    → position p (xs ++ ys) ≡ Some (length xs + j)
place_behind p xs ys j d none e =
    let at = position-Some p ys j d e in
    let long = length-append xs ys in
    let lt : j < length ys = at.0 in
    let absent = any_nowhere p xs none in
    place_found p (xs ++ ys) (length xs + j) d (omega (arith, long))
    (λ k h. ⊎_elim
    (λ (low : k < length xs). ap p (get_or_append_left xs ys d k low) ∙ fails p xs k d absent low)
    (λ (high : length xs ≤ k). ap p (behind k high) ∙ at.2 (k - length xs) (omega arith))
    (cases_lt k (length xs)))
    (ap p (behind (length xs + j) (omega arith) ∙ ap (λ n. get_or ys n d) (omega arith)) ∙ at.1)
  where
    behind : (k : ℕ) → length xs ≤ k → get_or (xs ++ ys) k d ≡ get_or ys (k - length xs) d
    behind k le = get_or-append_right xs ys (length xs) k d refl le

pub place_nowhere_more : {X : Type 0} (p : X → Bool) (xs ys : List X) → position p xs ≡ None → position p ys ≡ None
    → position p (xs ++ ys) ≡ None
place_nowhere_more p xs ys none further =
    nowhere_any p (xs ++ ys) (list_any-append p xs ys ∙ ap (λ b. b || list_any p ys) (any_nowhere p xs none) ∙ any_nowhere p ys further)

-- an element of a longer list is in the list or at its end
pub get_push_cases : {X : Type 0} (xs : List X) (y z : X) (i : ℕ) → slice_get (xs ++ y ∷ []) i ≡ Some z
    → (slice_get xs i ≡ Some z) ⊎ ((i ≡ length xs) × (y ≡ z))
get_push_cases [] y z zero e = inr (refl, cc)
get_push_cases [] y z (suc i) e = cc
get_push_cases (x ∷ xs) y z zero e = inl e
get_push_cases (x ∷ xs) y z (suc i) e = ⊎_elim (λ h. inl h) (λ h. inr (ap suc h.0, h.1)) (get_push_cases xs y z i e)

-- a found element is in the list
pub found_any : {X : Type 0} (p : X → Bool) (xs : List X) (x : X) → find p xs ≡ Some x → list_any p xs ≡ true
found_any p [] x e = cc
found_any {X} p (y ∷ xs) x e = by (p y) (found_any p xs x) e
  where
    by : (b : Bool) → (find p xs ≡ Some x → list_any p xs ≡ true) → cond b (Some y) (find p xs) ≡ Some x → (b || list_any p xs) ≡ true
    by true later e = refl
    by false later e = later e

pub missing_any : {X : Type 0} (p : X → Bool) (xs : List X) → find p xs ≡ None → list_any p xs ≡ false
missing_any p [] e = refl
missing_any p (y ∷ xs) e = by (p y) (missing_any p xs) e
  where
    by : (b : Bool) → (find p xs ≡ None → list_any p xs ≡ false) → cond b (Some y) (find p xs) ≡ None → (b || list_any p xs) ≡ false
    by true later e = cc
    by false later e = later e

pub found_holds : {X : Type 0} (P : X → Type 0) (p : X → Bool) (xs : List X) (x : X) → All P xs → find p xs ≡ Some x → P x
found_holds P p [] x all e = cc
found_holds P p (y ∷ xs) x all e = by (p y) (found_holds P p xs x (λ k d lt. all (suc k) d (omega arith))) e
  where
    by : (b : Bool) → (find p xs ≡ Some x → P x) → cond b (Some y) (find p xs) ≡ Some x → P x
    by true later e = let same : y ≡ x = cc in subst P same (all 0 y (omega arith))
    by false later e = later e

pub some_line : CallLine
some_line = record { name = []; number = 0; cap = None; abi = 0; kernel = Base }
