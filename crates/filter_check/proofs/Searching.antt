-- The least word that meets all conditions, by the halves of a cube.
use Rattle.std.proofs.Common.{◌≡◌, ℕ, ◌^◌, ◌<◌, ◌≤◌, Bool, true, false, not, ◌&&◌, List, [], ◌∷◌, ◌++◌, Some, None, refl, sym, ap, ◌∙◌, subst, arith, ◌⊎◌, inl, inr}
use Rattle.std.specs.Prelude.{Option, IfSome, bit_and}
use Rattle.std.proofs.lemmas.Bool.{eqb-true, eq-eqb, and_parts, and_from}
use Rattle.std.proofs.lemmas.Nat.{and_le_l, and_le_r}
use Rattle.filter_check.specs.declared.word_sets.known.Cube.{Cube}
use Rattle.filter_check.specs.declared.word_sets.condition.Condition.{Condition}
use Rattle.filter_check.specs.word_sets.Conditions.{meets, meets_all}
use Rattle.filter_check.specs.word_sets.Words.{is_in, is_set, same, IsUpTo, IsWanted, IsLeastOf, IsLeastWord}
use Rattle.filter_check.proofs.Bits.{false_unless}
use Rattle.filter_check.proofs.Conditions.{all_append}

up_to_self : (told : Option ℕ) → IfSome told (λ word. IsUpTo told word)
up_to_self None = tt
up_to_self (Some word) = omega arith

up_to_then : (mid new : Option ℕ) (word : ℕ) → IfSome mid (λ one. IsUpTo new one) → IsUpTo mid word → IsUpTo new word
up_to_then None new word h g = absurd g
up_to_then (Some one) None word h g = absurd h
up_to_then (Some one) (Some other) word h g = omega (arith, h, g)

kept_then : (old mid new : Option ℕ) → IfSome old (λ one. IsUpTo mid one) → IfSome mid (λ one. IsUpTo new one)
    → IfSome old (λ one. IsUpTo new one)
kept_then None mid new h g = tt
kept_then (Some one) mid new h g = up_to_then mid new one g h

-- if no wanted word is below the earlier one, the earlier one stays
pub keeps_told : (conditions : List Condition) (cube : Cube) (told : Option ℕ)
    → ((word : ℕ) → IsWanted conditions cube word → IsUpTo told word) → IsLeastOf conditions cube told told
keeps_told conditions cube told h = record { comes_of = inl refl; kept = up_to_self told; no_later = h }

-- a cube whose words are all below the bound has no wanted word
pub all_below : (conditions : List Condition) (cube : Cube) (greatest from : ℕ) (told : Option ℕ) → greatest < from
    → ((word : ℕ) → word < 2 ^ 32 → is_in cube word ≡ true → bit_and word greatest ≡ word)
    → ((word : ℕ) → IsWanted conditions cube word → from ≤ word) → IsLeastOf conditions cube told told
all_below conditions cube greatest from told lt covers bound = keeps_told conditions cube told (λ word wanted.
    let le : word ≤ greatest = subst (λ n. n ≤ greatest) (covers word wanted.0 wanted.1) (and_le_r word greatest) in
    let from_le = bound word wanted in
    absurd (omega (arith, lt, le, from_le)))

bits_le : (cube : Cube) (word : ℕ) → is_in cube word ≡ true → cube.bits ≤ word
bits_le cube word within =
    let e = eqb-true (bit_and word cube.known) cube.bits within in subst (λ n. n ≤ word) e (and_le_l word cube.known)

-- the earlier word is at most the least word of the cube
pub told_before : (conditions : List Condition) (cube : Cube) (least : ℕ) (told : Option ℕ) → least ≡ cube.bits → IsUpTo told least
    → IsLeastOf conditions cube told told
told_before conditions cube least None e h = absurd h
told_before conditions cube least (Some word) e h = keeps_told conditions cube (Some word) (λ other wanted.
    let le = bits_le cube other wanted.1 in omega (arith, e, h, le))

-- the least word of the cube meets all conditions
pub least_meets : (conditions : List Condition) (cube : Cube) (least : ℕ) (told : Option ℕ) → least ≡ cube.bits → least < 2 ^ 32
    → bit_and cube.bits cube.known ≡ cube.bits → IfSome told (λ one. least < one) → meets_all conditions cube.bits ≡ true
    → IsLeastOf conditions cube told (Some least)
least_meets conditions cube least told e small clear above met = record {
  comes_of = inr (least, refl, (small, in_it, subst (λ n. meets_all conditions n ≡ true) (sym e) met));
  kept = kept told above;
  no_later = λ word wanted. let le = bits_le cube word wanted.1 in omega (arith, e, le);
}
  where
    in_it : is_in cube least ≡ true
    in_it = eq-eqb (bit_and least cube.known) cube.bits (ap (λ n. bit_and n cube.known) e ∙ clear)

    kept : (told : Option ℕ) → IfSome told (λ one. least < one) → IfSome told (λ one. IsUpTo (Some least) one)
    kept None h = tt
    kept (Some one) h = omega (arith, h)

pub none_meets : (conditions : List Condition) (cube : Cube) (told : Option ℕ)
    → ((word : ℕ) → word < 2 ^ 32 → is_in cube word ≡ true → meets_all conditions word ≡ false) → IsLeastOf conditions cube told told
none_meets conditions cube told none = keeps_told conditions cube told (λ word wanted.
    absurd (true_or_false (sym wanted.2 ∙ none word wanted.0 wanted.1)))
  where
    true_or_false : true ≡ false → ⊥
    true_or_false e = cc

-- the words of a cube with this bit at a place
abbrev pub HalfIs : Cube → Cube → ℕ → Bool → Type 0
HalfIs cube half place set = (word : ℕ) → is_in half word ≡ (is_in cube word && same (is_set word place) set)

-- a wanted word of a half is a wanted word of the whole
pub of_whole : (conditions : List Condition) (cube half : Cube) (place : ℕ) (set : Bool) (word : ℕ) → HalfIs cube half place set
    → IsWanted conditions half word → IsWanted conditions cube word
of_whole conditions cube half place set word is wanted =
    let p = and_parts (is_in cube word) (same (is_set word place) set) (sym (is word) ∙ wanted.1) in (wanted.0, p.0, wanted.2)

of_half : (conditions : List Condition) (cube half : Cube) (place : ℕ) (set : Bool) (word : ℕ) → HalfIs cube half place set
    → same (is_set word place) set ≡ true → IsWanted conditions cube word → IsWanted conditions half word
of_half conditions cube half place set word is here wanted =
    (wanted.0, is word ∙ and_from (is_in cube word) (same (is_set word place) set) wanted.1 here, wanted.2)

pub both_halves : (conditions : List Condition) (cube low high : Cube) (place : ℕ) (old mid new : Option ℕ)
    → HalfIs cube low place false → HalfIs cube high place true → IsLeastOf conditions low old mid → IsLeastOf conditions high mid new
    → IsLeastOf conditions cube old new
both_halves conditions cube low high place old mid new low_is high_is one other = record {
  comes_of = from other.comes_of one.comes_of;
  kept = kept_then old mid new one.kept other.kept;
  no_later = λ word wanted. by word wanted (is_set word place) refl;
}
  where
    from : ((new ≡ mid) ⊎ ((word : ℕ) × (new ≡ Some word) × IsWanted conditions high word))
        → ((mid ≡ old) ⊎ ((word : ℕ) × (mid ≡ Some word) × IsWanted conditions low word))
        → (new ≡ old) ⊎ ((word : ℕ) × (new ≡ Some word) × IsWanted conditions cube word)
    from (inl e) (inl f) = inl (e ∙ f)
    from (inl e) (inr (word, f, wanted)) = inr (word, e ∙ f, of_whole conditions cube low place false word low_is wanted)
    from (inr (word, e, wanted)) rest = inr (word, e, of_whole conditions cube high place true word high_is wanted)

    by : (word : ℕ) → IsWanted conditions cube word → (b : Bool) → is_set word place ≡ b → IsUpTo new word
    by word wanted true h = other.no_later word
        (of_half conditions cube high place true word high_is (ap (λ t. same t true) h) wanted)
    by word wanted false h = up_to_then mid new word other.kept
        (one.no_later word (of_half conditions cube low place false word low_is (ap (λ t. same t false) h) wanted))

-- the word that is found among all words is the least of them
pub least_word : (conditions : List Condition) (cube : Cube) (found : Option ℕ) → ((word : ℕ) → is_in cube word ≡ true)
    → IsLeastOf conditions cube None found → IsLeastWord conditions found
least_word conditions cube None all h = λ word lt. false_unless (meets_all conditions word) (λ met. h.no_later word (lt, all word, met))
least_word conditions cube (Some least) all h = (is_one h.comes_of, λ word lt met. h.no_later word (lt, all word, met))
  where
    inner : (a b : ℕ) → ◌≡◌ {A = Option ℕ} (Some a) (Some b) → a ≡ b
    inner a b e = cc

    is_one : (◌≡◌ {A = Option ℕ} (Some least) None) ⊎ ((word : ℕ) × (◌≡◌ {A = Option ℕ} (Some least) (Some word)) × IsWanted conditions cube word)
        → meets_all conditions least ≡ true
    is_one (inl e) = cc
    is_one (inr (word, e, wanted)) = subst (λ n. meets_all conditions n ≡ true) (sym (inner least word e)) wanted.2

pub of_old : (conditions old : List Condition) (condition : Condition) (word : ℕ) → conditions ≡ old ++ condition ∷ []
    → meets_all conditions word ≡ true → meets_all old word ≡ true
of_old conditions old condition word e h =
    (and_parts (meets_all old word) (meets condition word)
    (sym (ap (λ all. meets_all all word) e ∙ all_append old condition word) ∙ h)).0

-- if the least word of a set meets one more condition, it is the least of the narrower set
pub same_least : (conditions old : List Condition) (condition : Condition) (least : ℕ) → conditions ≡ old ++ condition ∷ []
    → meets_all old least ≡ true → ((word : ℕ) → word < 2 ^ 32 → meets_all old word ≡ true → least ≤ word)
    → meets condition least ≡ true → IsLeastWord conditions (Some least)
same_least conditions old condition least e one no_later met = (
  ap (λ all. meets_all all least) e ∙ all_append old condition least ∙ and_from _ _ one met,
  λ word lt h. no_later word lt (of_old conditions old condition word e h),
)

-- the words of a set with one more condition
pub more_is : (conditions old : List Condition) (condition : Condition) (word : ℕ) → conditions ≡ old ++ condition ∷ []
    → meets_all conditions word ≡ (meets_all old word && meets condition word)
more_is conditions old condition word e = ap (λ all. meets_all all word) e ∙ all_append old condition word
