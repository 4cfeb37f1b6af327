-- Lists that are made part by part.
use Rattle.std.proofs.Common.{◌≡◌, ℕ, ◌+◌, ◌<◌, ◌≤◌, Bool, Option, List, [], ◌∷◌, ◌++◌, length, take, get_or, map, Bor, sym, ap, ◌∙◌, arith}
use Rattle.std.proofs.Common.{append_assoc, append-nil, length-append}
use Rattle.std.specs.Prelude.{filter, Result, Ok, Err, OnOk}
use Rattle.std.specs.declared.alloc.AllocError.{AllocError}
use Rattle.std.specs.List.{filter_map, cons_option}
use Rattle.std.proofs.lemmas.List.{map-append, get_or_default}
use Rattle.std.proofs.lemmas.List.Elements.{filter-append, filter_map-append}
use Rattle.dropin_merge.proofs.OneMore.{take_item}
use Rattle.path_settings.specs.declared.keys.PathKey.{PathKey}
use Rattle.path_settings.specs.declared.mentions.Mention.{Mention}
use Rattle.mount_settings.specs.declared.written.WrittenPath.{WrittenPath}
use Rattle.mount_settings.specs.Assigned.{is_key}
use Rattle.mount_settings.specs.Written.{of_key}
use Rattle.mount_settings.specs.Implied.{joined}

-- one more part of the result
pub part_more : {X Y : Type 0} (g : List X → List Y) (adds : (xs ys : List X) → g (xs ++ ys) ≡ g xs ++ g ys) (xs : List X) (i : ℕ) (x : X)
    (old now next : List Y) → i < length xs → x ≡ get_or xs i x → now ≡ old ++ g (take i xs) → next ≡ now ++ g (x ∷ [])
    → next ≡ old ++ g (take (i + 1) xs)
part_more g adds xs i x old now next lt is before step =
    step
    ∙ ap (λ ys. ys ++ g (x ∷ [])) before
    ∙ append_assoc old (g (take i xs)) (g (x ∷ []))
    ∙ ap (λ ys. old ++ ys) (sym (ap g (take_item xs i x lt is) ∙ adds (take i xs) (x ∷ [])))

pub brought_adds : {X Y : Type 0} (p : Y → Bool) (f : X → Option Y) (xs ys : List X)
    → filter p (filter_map f (xs ++ ys)) ≡ filter p (filter_map f xs) ++ filter p (filter_map f ys)
brought_adds p f xs ys = ap (filter p) (filter_map-append f xs ys) ∙ filter-append p (filter_map f xs) (filter_map f ys)

pub of_key_adds : (key : PathKey) (xs ys : List WrittenPath) → of_key key (xs ++ ys) ≡ of_key key xs ++ of_key key ys
of_key_adds key xs ys =
    ap (map (λ path. path.mention)) (filter-append (λ path. is_key path.key key) xs ys)
    ∙ map-append (λ path. path.mention) (filter (λ path. is_key path.key key) xs) (filter (λ path. is_key path.key key) ys)

-- two parts one after the other
pub two_brought : (p : Mention → Bool) (xs ys old now next : List Mention) → now ≡ old ++ filter p xs → next ≡ now ++ filter p ys
    → next ≡ old ++ filter p (xs ++ ys)
two_brought p xs ys old now next first second =
    second
    ∙ ap (λ zs. zs ++ filter p ys) first
    ∙ append_assoc old (filter p xs) (filter p ys)
    ∙ ap (λ zs. old ++ zs) (sym (filter-append p xs ys))

-- four groups one after the other
pub four_brought : (p : Mention → Bool) (q r s t old a b c d : List Mention) → a ≡ old ++ filter p q → b ≡ a ++ filter p r
    → c ≡ b ++ filter p s → d ≡ c ++ filter p t → d ≡ old ++ filter p (joined (q ∷ r ∷ s ∷ t ∷ []))
four_brought p q r s t old a b c d to_a to_b to_c to_d =
    two_brought p q (r ++ (s ++ (t ++ []))) old a d to_a
    (two_brought p r (s ++ (t ++ [])) a b d to_b
    (two_brought p s (t ++ []) b c d to_c (to_d ∙ ap (λ zs. c ++ filter p zs) (sym (append-nil t)))))

pub three_joined : (q r s t : List Mention) → q ++ (r ++ (s ++ t)) ≡ (q ++ (r ++ s)) ++ t
three_joined q r s t = ap (λ xs. q ++ xs) (sym (append_assoc r s t)) ∙ sym (append_assoc q (r ++ s) t)

-- a list of 192 has no room left
pub no_room : {X : Type 0} (list rest left all : List X) (mention : X) → length list ≡ 192 → rest ≡ mention ∷ left → list ++ rest ≡ all
    → length all ≤ 192 → ⊥
no_room list rest left all mention full first whole few = omega
    (arith, full, few, length-append list rest, ap length first, ap length whole)

texts_add : {Y : Type 0} (p : Y → Bool) (f : List ℕ → Option Y) (xs ys : List (Bor (List ℕ)))
    → filter p (filter_map f (map (λ text. text.now) (xs ++ ys)))
    ≡ filter p (filter_map f (map (λ text. text.now) xs)) ++ filter p (filter_map f (map (λ text. text.now) ys))
texts_add p f xs ys =
    ap (λ texts. filter p (filter_map f texts)) (map-append (λ (text : Bor (List ℕ)). text.now) xs ys)
    ∙ brought_adds p f (map (λ text. text.now) xs) (map (λ text. text.now) ys)

-- one more text
pub text_more : {Y : Type 0} (p : Y → Bool) (f : List ℕ → Option Y) (xs : List (Bor (List ℕ))) (i : ℕ) (d : Bor (List ℕ))
    (old now next : List Y) → i < length xs → now ≡ old ++ filter p (filter_map f (map (λ text. text.now) (take i xs)))
    → next ≡ now ++ filter p (cons_option (f (get_or xs i d).now) [])
    → next ≡ old ++ filter p (filter_map f (map (λ text. text.now) (take (i + 1) xs)))
text_more p f xs i d old now next lt before step =
    part_more (λ (texts : List (Bor (List ℕ))). filter p (filter_map f (map (λ text. text.now) texts))) (texts_add p f) xs i
    (get_or xs i d) old now next lt
    (get_or_default xs i d (get_or xs i d) lt) before step

-- two parts, where the second may fail
pub then_brought : (p : Mention → Bool) (xs ys old now next : List Mention) (result : Result (Unit {0}) AllocError)
    → now ≡ old ++ filter p xs → OnOk result (next ≡ now ++ filter p ys) → OnOk result (next ≡ old ++ filter p (xs ++ ys))
then_brought p xs ys old now next (Ok u) first second = two_brought p xs ys old now next first second
then_brought p xs ys old now next (Err e) first second = second

-- four groups, where the last may fail
pub then_four : (p : Mention → Bool) (q r s t old a b c d : List Mention) (result : Result (Unit {0}) AllocError) → a ≡ old ++ filter p q
    → b ≡ a ++ filter p r → c ≡ b ++ filter p s → OnOk result (d ≡ c ++ filter p t)
    → OnOk result (d ≡ old ++ filter p (joined (q ∷ r ∷ s ∷ t ∷ [])))
then_four p q r s t old a b c d (Ok u) to_a to_b to_c to_d = four_brought p q r s t old a b c d to_a to_b to_c to_d
then_four p q r s t old a b c d (Err e) to_a to_b to_c to_d = to_d
