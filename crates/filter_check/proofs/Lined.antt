-- Lines of hex digits.
use Rattle.std.proofs.Common.{◌≡◌, ℕ, zero, suc, ◌+◌, ◌-◌, ◌*◌, ◌^◌, ◌<◌, List, [], ◌∷◌, ◌++◌, length, get_or, take, map, Some, refl, sym}
use Rattle.std.proofs.Common.{ap, ◌∙◌, subst, arith, append_assoc, length-append}
use Rattle.std.specs.Prelude.{flat_map, slice_get, true, false}
use Rattle.std.specs.List.{All}
use Rattle.std.proofs.lemmas.List.{take_more, take-map}
use Rattle.std.proofs.lemmas.List.Elements.{All-push, All-nil}
use Rattle.filter_check.specs.filter_lines.Digits.{hex_byte}
use Rattle.filter_check.specs.filter_lines.Lines.{AreLines, IsFirstOther, IsLine}
use Rattle.filter_check.specs.filter_lines.Adding.{AddsLine}

-- two digits for each byte
length_digits : (bytes : List ℕ) → length (flat_map hex_byte bytes) ≡ 2 * length bytes
length_digits [] = refl
length_digits (byte ∷ bytes) = let e = length_digits bytes in omega (arith, e)

pub not_sixteen : (line bytes : List ℕ) → (length line ≡ 16 → ⊥) → IsLine line bytes → ⊥
not_sixteen line bytes ne is = let l = length_digits bytes in let e = is.eight in let f = ap length is.digits in ne (omega (arith, l, e, f))

-- the digits of the byte at a place
digits_at : (bytes : List ℕ) (k : ℕ) → k < length bytes → hex_byte (get_or bytes k 0)
    ≡ get_or (flat_map hex_byte bytes) (2 * k) 0 ∷ get_or (flat_map hex_byte bytes) (2 * k + 1) 0 ∷ []
digits_at [] k lt = absurd (omega (arith, lt))
digits_at (byte ∷ bytes) zero lt = refl
digits_at (byte ∷ bytes) (suc k) lt =
    let more = digits_at bytes k (omega (arith, lt)) in
    let one : 2 * suc k ≡ suc (suc (2 * k)) = omega arith in
    let two : 2 * suc k + 1 ≡ suc (suc (2 * k + 1)) = omega arith in
    more
    ∙ ap (λ n. get_or (flat_map hex_byte (byte ∷ bytes)) n 0 ∷ get_or (flat_map hex_byte bytes) (2 * k + 1) 0 ∷ []) (sym one)
    ∙ ap (λ n. get_or (flat_map hex_byte (byte ∷ bytes)) (2 * suc k) 0 ∷ get_or (flat_map hex_byte (byte ∷ bytes)) n 0 ∷ []) (sym two)

small_at : (bytes : List ℕ) (k : ℕ) → All (λ byte. byte < 2 ^ 8) bytes → k < length bytes → get_or bytes k 0 < 2 ^ 8
small_at bytes k small lt = small k 0 lt

pub not_digits : (line bytes : List ℕ) (k : ℕ) → k < 8
    → ((n : ℕ) → n < 2 ^ 8 → hex_byte n ≡ get_or line (2 * k) 0 ∷ get_or line (2 * k + 1) 0 ∷ [] → ⊥) → IsLine line bytes → ⊥
not_digits line bytes k lt none is =
    let inside : k < length bytes = omega (arith, lt, is.eight) in
    none (get_or bytes k 0) (small_at bytes k is.small inside)
    (subst (λ digits. hex_byte (get_or bytes k 0) ≡ get_or digits (2 * k) 0 ∷ get_or digits (2 * k + 1) 0 ∷ []) is.digits
    (digits_at bytes k inside))

-- the bytes of the digits so far
pub record AddsSome (line old new : List ℕ) (count : ℕ) : Type 0 where
  pub own : List ℕ
  pub are : new ≡ old ++ own
  pub counted : length own ≡ count
  pub small : All (λ byte. byte < 2 ^ 8) own
  pub digits : flat_map hex_byte own ≡ take (2 * count) line

append_nil : (xs : List ℕ) → xs ≡ xs ++ []
append_nil [] = refl
append_nil (x ∷ xs) = ap (λ ys. x ∷ ys) (append_nil xs)

pub adds_none : (line old : List ℕ) → AddsSome line old old 0
adds_none line old = record { own = []; are = append_nil old; counted = refl; small = All-nil _; digits = refl }

digits_more : (bytes : List ℕ) (byte : ℕ) → flat_map hex_byte (bytes ++ byte ∷ []) ≡ flat_map hex_byte bytes ++ hex_byte byte
digits_more [] byte = refl
digits_more (one ∷ bytes) byte = ap (λ ds. hex_byte one ++ ds) (digits_more bytes byte)

take_two : (xs : List ℕ) (k : ℕ) → 2 * k + 1 < length xs → take (2 * (k + 1)) xs
    ≡ take (2 * k) xs ++ (get_or xs (2 * k) 0 ∷ get_or xs (2 * k + 1) 0 ∷ [])
take_two xs k lt =
    let up : 2 * (k + 1) ≡ 2 * k + 1 + 1 = omega arith in
    ap (λ n. take n xs) up ∙ take_more xs (2 * k + 1) 0 lt
    ∙ ap (λ ys. ys ++ get_or xs (2 * k + 1) 0 ∷ []) (take_more xs (2 * k) 0 (omega (arith, lt)))
    ∙ append_assoc (take (2 * k) xs) (get_or xs (2 * k) 0 ∷ []) (get_or xs (2 * k + 1) 0 ∷ [])

pub adds_next : (line old mid new : List ℕ) (k byte : ℕ) → 2 * k + 1 < length line → byte < 2 ^ 8
    → hex_byte byte ≡ get_or line (2 * k) 0 ∷ get_or line (2 * k + 1) 0 ∷ [] → new ≡ mid ++ byte ∷ [] → AddsSome line old mid k
    → AddsSome line old new (k + 1)
adds_next line old mid new k byte lt fits is items so_far = record {
  own = so_far.own ++ byte ∷ [];
  are = items ∙ ap (λ xs. xs ++ byte ∷ []) so_far.are ∙ append_assoc old so_far.own (byte ∷ []);
  counted = (let l = length-append so_far.own (byte ∷ []) in let c = so_far.counted in omega (arith, l, c));
  small = All-push (λ byte. byte < 2 ^ 8) so_far.own byte so_far.small fits;
  digits = digits_more so_far.own byte ∙ ap (λ ds. ds ++ hex_byte byte) so_far.digits ∙ ap (λ ds. take (2 * k) line ++ ds) is
      ∙ sym (take_two line k lt);
}

take_all : (xs : List ℕ) (n : ℕ) → length xs ≡ n → take n xs ≡ xs
take_all [] zero e = refl
take_all [] (suc n) e = refl
take_all (x ∷ xs) zero e = absurd (omega (arith, e))
take_all (x ∷ xs) (suc n) e = ap (λ ys. x ∷ ys) (take_all xs n (omega (arith, e)))

pub adds_all : (line old new : List ℕ) → length line ≡ 16 → AddsSome line old new 8 → AddsLine line old new true
adds_all line old new long so_far =
    (so_far.own, record { eight = so_far.counted; small = so_far.small; digits = so_far.digits ∙ take_all line 16 long }, so_far.are)

-- one more line
lines_more : (lines : List (List ℕ)) (code line own : List ℕ) → AreLines lines code → IsLine line own
    → AreLines (lines ++ line ∷ []) (code ++ own)
lines_more [] code line own are is = (own, [], is, refl, ap (λ xs. xs ++ own) are ∙ append_nil own)
lines_more (one ∷ lines) code line own (first, rest, is_one, are, e) is =
    (first, rest ++ own, is_one, lines_more lines rest line own are is, ap (λ xs. xs ++ own) e ∙ append_assoc first rest own)

take_text : {X : Type 0} (text : X → List ℕ) (lines : List X) (i : ℕ) (d : X) → i < length lines
    → take (i + 1) (map text lines) ≡ take i (map text lines) ++ text (get_or lines i d) ∷ []
take_text text [] i d lt = absurd (omega (arith, lt))
take_text text (one ∷ lines) zero d lt = refl
take_text text (one ∷ lines) (suc i) d lt =
    let next : suc i + 1 ≡ suc (i + 1) = omega arith in
    ap (λ n. take n (text one ∷ map text lines)) next ∙ ap (λ xs. text one ∷ xs) (take_text text lines i d (omega (arith, lt)))

found_text : {X : Type 0} (text : X → List ℕ) (lines : List X) (i : ℕ) (d : X) → i < length lines
    → slice_get (map text lines) i ≡ Some (text (get_or lines i d))
found_text text [] i d lt = absurd (omega (arith, lt))
found_text text (one ∷ lines) zero d lt = refl
found_text text (one ∷ lines) (suc i) d lt = found_text text lines i d (omega (arith, lt))

pub lines_next : {X : Type 0} (text : X → List ℕ) (lines : List X) (i : ℕ) (d : X) (code new : List ℕ) → i < length lines
    → AreLines (take i (map text lines)) code → AddsLine (text (get_or lines i d)) code new true
    → AreLines (take (i + 1) (map text lines)) new
lines_next text lines i d code new lt are (own, is, e) =
    subst (AreLines (take (i + 1) (map text lines))) (sym e)
    (subst (λ some. AreLines some (code ++ own)) (sym (take_text text lines i d lt))
    (lines_more (take i (map text lines)) code (text (get_or lines i d)) own are is))

pub first_other : {X : Type 0} (text : X → List ℕ) (lines : List X) (i : ℕ) (d : X) (code new : List ℕ) → i < length lines
    → AreLines (take i (map text lines)) code → AddsLine (text (get_or lines i d)) code new false → IsFirstOther (map text lines) (i + 1)
first_other text lines i d code new lt are none = record {
  place = i;
  counted = refl;
  line = text (get_or lines i d);
  found = found_text text lines i d lt;
  is_none = none;
  bytes_before = code;
  before = are;
}

length_map : {X : Type 0} (text : X → List ℕ) (lines : List X) → length (map text lines) ≡ length lines
length_map text [] = refl
length_map text (line ∷ lines) = ap suc (length_map text lines)

-- the lines without the last piece
pub lines_cut : {X : Type 0} (text : X → List ℕ) (xs : List X) (pieces : List (List ℕ)) (n : ℕ) → n ≡ length xs → map text xs ≡ pieces
    → map text (take (n - 1) xs) ≡ take (length pieces - 1) pieces
lines_cut text xs pieces n e same =
    sym (take-map text (n - 1) xs) ∙ ap (take (n - 1)) same
    ∙ ap (λ k. take (k - 1) pieces) (e ∙ sym (length_map text xs) ∙ ap length same)
