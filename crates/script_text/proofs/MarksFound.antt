-- What stands behind a mark at the front of a word, and before a mark at its end.
use Rattle.std.proofs.Common.{◌≡◌, ◌≢◌, ℕ, true, false, cond, eqb, Option, Some, None, List, [], ◌∷◌, ◌++◌, refl, sym, ap, ◌∙◌, arith}
use Rattle.std.specs.Prelude.{◌==◌, length}
use Rattle.std.specs.List.{slice_split}
use Rattle.std.specs.Option.{option_map, MatchOption}
use Rattle.std.proofs.lemmas.Bool.{false≢true}
use Rattle.std.proofs.lemmas.Bool.Decides.{nat_tests}
use Rattle.script_text.specs.Marks.{behind, before, with_byte, between_commas}
use denote.Ref.{Bor}

same_number : (x y : ℕ) → eqb x y ≡ true → x ≡ y
same_number x y e = grind (arith, nat_tests)

same_itself : (x : ℕ) → eqb x x ≡ true
same_itself x = grind (arith, nat_tests)

none_behind : (mark : ℕ) (word : List ℕ) → ((rest : List ℕ) → word ≢ mark ∷ rest) → behind mark word ≡ None
none_behind mark [] h = refl
none_behind mark (byte ∷ rest) h =
    elim (eqb byte mark) as (λ v. eqb byte mark ≡ v → cond v (Some rest) None ≡ None)
    [ true ↦ λ e. absurd (h rest (ap (λ b. b ∷ rest) (same_number byte mark e))) | false ↦ λ e. refl ] refl

pub behind_mark : (mark : ℕ) (rest : List ℕ) → behind mark (mark ∷ rest) ≡ Some rest
behind_mark mark rest = ap (λ b. cond b (Some rest) None) (same_itself mark)

pub behind_known : (mark : ℕ) (word : List ℕ) (r : Option (Bor (List ℕ)))
    → MatchOption r ((rest : List ℕ) → word ≢ mark ∷ rest) (λ x. word ≡ mark ∷ x.now) → option_map (λ x. x.now) r ≡ behind mark word
behind_known mark word None h = sym (none_behind mark word h)
behind_known mark word (Some x) h = sym (ap (behind mark) h ∙ behind_mark mark x.now)

pub before_mark : (mark : ℕ) (front : List ℕ) → before mark (front ++ mark ∷ []) ≡ Some front
before_mark mark [] = ap (λ b. cond b (Some []) None) (same_itself mark)
before_mark mark (byte ∷ []) = ap (with_byte byte) (before_mark mark [])
before_mark mark (byte ∷ other ∷ front) = ap (with_byte byte) (before_mark mark (other ∷ front))

none_before : (mark : ℕ) (word : List ℕ) → ((front : List ℕ) → word ≢ front ++ mark ∷ []) → before mark word ≡ None
none_before mark [] h = refl
none_before mark (byte ∷ []) h =
    elim (eqb byte mark) as (λ v. eqb byte mark ≡ v → cond {A = Option (List ℕ)} v (Some []) None ≡ None)
    [ true ↦ λ e. absurd (h [] (ap (λ b. b ∷ []) (same_number byte mark e))) | false ↦ λ e. refl ] refl
none_before mark (byte ∷ other ∷ rest) h = ap (with_byte byte)
    (none_before mark (other ∷ rest) (λ front e. h (byte ∷ front) (ap (λ bs. byte ∷ bs) e)))

pub before_known : (mark : ℕ) (word : List ℕ) (r : Option (Bor (List ℕ)))
    → MatchOption r ((front : List ℕ) → word ≢ front ++ mark ∷ []) (λ x. word ≡ x.now ++ mark ∷ [])
    → option_map (λ x. x.now) r ≡ before mark word
before_known mark word None h = sym (none_before mark word h)
before_known mark word (Some x) h = sym (ap (before mark) h ∙ before_mark mark x.now)

pub commas_of : (text : List ℕ) → false ≡ (length text == 0) → slice_split (λ byte. byte == 44) text ≡ between_commas text
commas_of [] h = absurd (false≢true h)
commas_of (byte ∷ text) h = refl
