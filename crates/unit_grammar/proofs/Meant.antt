-- The kind of a joined line is its meaning.
use Rattle.std.proofs.Common.{◌≡◌, ◌≢◌, ℕ, suc, ◌+◌, Bool, true, false, cond, eqb, ltb, Option, Some, None, List, [], ◌∷◌, ◌++◌, length}
use Rattle.std.proofs.Common.{take, drop, reverse, refl, sym, ap, ◌∙◌, subst, arith}
use Rattle.std.proofs.Math.Seq.{take-append_seam, drop-append-add}
use Rattle.std.specs.Prelude.{◌↔◌, not}
use Rattle.std.specs.Option.{option_map}
use Rattle.std.specs.List.{list_all, position_or_len, before_first, after_first}
use Rattle.std.proofs.lemmas.Bool.{and_parts, and_from, ltb-true, lt-ltb, eqb-true, eq-eqb, false≢true}
use Rattle.std.proofs.lemmas.Option.{none-some, same_Some, cond_some}
use Rattle.std.proofs.lemmas.List.{length-append, reverse-append, reverse-reverse}
use Rattle.std.proofs.lemmas.List.Sums.{split_at_first, passes_at_first}
use Rattle.unit_grammar.specs.Spaces.{trim}
use Rattle.unit_grammar.specs.Kinds.{Kind, skipped, header, bad_header, no_equals, assigns, behind, before, cut_at, named_header, keyed}
use Rattle.unit_grammar.specs.Kinds.{assigned, filled, trimmed_kind, kind_of}
use Rattle.unit_grammar.specs.Meaning.{opening, closing, equals, BeginsHeader, Assigns, Means}
use Rattle.unit_grammar.proofs.Ends.{behind_some, behind_none}

-- the text before a last byte
before_some : (byte : ℕ) (text front : List ℕ) → text ≡ front ++ byte ∷ [] → before byte text ≡ Some front
before_some byte text front e =
    ap (option_map reverse) (behind_some byte (reverse text) (reverse front) (ap reverse e ∙ reverse-append front (byte ∷ [])))
    ∙ ap Some (reverse-reverse front)

behind_whole : (byte : ℕ) (text rest : List ℕ) → behind byte text ≡ Some rest → text ≡ byte ∷ rest
behind_whole byte [] rest e = absurd (none-some rest e)
behind_whole byte (first ∷ text) rest e =
    let both = cond_some (eqb first byte) text rest e in
    ap (λ b. b ∷ text) (eqb-true first byte both.0) ∙ ap (λ t. byte ∷ t) both.1

before_whole : (byte : ℕ) (text front : List ℕ) (turned : Option (List ℕ)) → behind byte (reverse text) ≡ turned
    → option_map reverse turned ≡ Some front → text ≡ front ++ byte ∷ []
before_whole byte text front None h e = absurd (none-some front e)
before_whole byte text front (Some rest) h e =
    sym (reverse-reverse text)
    ∙ ap reverse (behind_whole byte (reverse text) rest h)
    ∙ reverse-append (byte ∷ []) rest
    ∙ ap (λ f. f ++ byte ∷ []) (same_Some (reverse rest) front e)

-- the texts before and after the first `=`
abbrev is_equals : ℕ → Bool
is_equals byte = eqb byte equals

abbrev others : List ℕ → Bool
others text = list_all (λ byte. not (eqb byte equals)) text

cut_whole : (text : List ℕ) (sides : List ℕ × List ℕ) → cut_at equals text ≡ Some sides → text ≡ sides.0 ++ equals ∷ sides.1
cut_whole text sides e =
    let both = cond_some (ltb (position_or_len is_equals text) (length text)) (before_first is_equals text, after_first is_equals text) sides e in
    let inside = ltb-true (position_or_len is_equals text) (length text) both.0 in
    split_at_first is_equals text 0 inside
    ∙ ap (λ b. before_first is_equals text ++ b ∷ after_first is_equals text) (eqb-true _ equals (passes_at_first is_equals text 0 inside))
    ∙ ap (λ (s : List ℕ × List ℕ). s.0 ++ equals ∷ s.1) both.1

free_before : (text : List ℕ) → others (before_first is_equals text) ≡ true
free_before [] = refl
free_before (byte ∷ text) =
    elim (not (is_equals byte)) as (λ v. not (is_equals byte) ≡ v
    → others (take (cond v (1 + position_or_len is_equals text) 0) (byte ∷ text)) ≡ true) [
      | true ↦ λ e.
          let more : 1 + position_or_len is_equals text ≡ suc (position_or_len is_equals text) = omega arith in
          ap (λ n. others (take n (byte ∷ text))) more
          ∙ and_from (not (is_equals byte)) (others (take (position_or_len is_equals text) text)) e (free_before text)
      | false ↦ λ e. refl
    ]
    refl

cut_first : (text : List ℕ) (sides : List ℕ × List ℕ) → cut_at equals text ≡ Some sides → others sides.0 ≡ true
cut_first text sides e =
    let both = cond_some (ltb (position_or_len is_equals text) (length text)) (before_first is_equals text, after_first is_equals text) sides e in
    ap (λ (s : List ℕ × List ℕ). others s.0) (sym both.1) ∙ free_before text

first_place : (left right : List ℕ) → others left ≡ true → position_or_len is_equals (left ++ equals ∷ right) ≡ length left
first_place [] right h = refl
first_place (byte ∷ left) right h =
    let both = and_parts (not (eqb byte equals)) (others left) h in
    ap (λ b. cond b (1 + position_or_len is_equals (left ++ equals ∷ right)) 0) both.0
    ∙ omega (arith, first_place left right both.1)

cut_known : (text left right : List ℕ) → text ≡ left ++ equals ∷ right → others left ≡ true → cut_at equals text ≡ Some (left, right)
cut_known text left right e h =
    let whole = left ++ equals ∷ right in
    let place = first_place left right h in
    ap (cut_at equals) e
    ∙ ap (λ b. cond b (Some (before_first is_equals whole, after_first is_equals whole)) None)
    (lt-ltb (position_or_len is_equals whole) (length whole) (omega (arith, place, length-append left (equals ∷ right))))
    ∙ ap (λ n. Some (take n whole, drop (n + 1) whole)) place
    ∙ ap (λ x. Some (x, drop (length left + 1) whole)) (take-append_seam left (equals ∷ right))
    ∙ ap (λ x. Some (left, x)) (drop-append-add left (equals ∷ right) 1)

cut_of : (text key value : List ℕ) (a : Assigns text key value) → cut_at equals text ≡ Some (a.left, a.right)
cut_of text key value a = cut_known text a.left a.right a.cut a.first

not_empty : (byte : ℕ) (text : List ℕ) → byte ∷ text ≡ [] → ⊥
not_empty byte text e = cc

keyed_means : (text left right key value : List ℕ) → cut_at equals text ≡ Some (left, right) → text ≢ [] → ¬ (BeginsHeader text)
    → key ≡ trim left → value ≡ trim right → Means text (keyed key value)
keyed_means text left right [] value e some plain k v =
    (some, plain, λ key value a. a.filled (a.key_is ∙ ap trim (ap (λ (s : List ℕ × List ℕ). s.0) (same_Some (a.left, a.right) (left, right) (sym (cut_of text key value a) ∙ e))) ∙ sym k))
keyed_means text left right (byte ∷ key) value e some plain k v = record {
  left = left;
  right = right;
  cut = cut_whole text (left, right) e;
  first = cut_first text (left, right) e;
  no_header = plain;
  key_is = k;
  value_is = v;
  filled = not_empty byte key;
}

assigned_means : (text : List ℕ) (sides : Option (List ℕ × List ℕ)) → cut_at equals text ≡ sides → text ≢ [] → ¬ (BeginsHeader text)
    → Means text (assigned sides)
assigned_means text None e some plain = (some, plain, λ key value a. none-some (a.left, a.right) (sym e ∙ cut_of text key value a))
assigned_means text (Some sides) e some plain = keyed_means text sides.0 sides.1 (trim sides.0) (trim sides.1) e some plain refl refl

same_rest : (a b : List ℕ) → opening ∷ a ≡ opening ∷ b → a ≡ b
same_rest a b e = cc

same_first : (x y : ℕ) (a b : List ℕ) → x ∷ a ≡ y ∷ b → x ≡ y
same_first x y a b e = cc

named_means : (text : List ℕ) (name : Option (List ℕ)) → before closing text ≡ name → Means (opening ∷ text) (named_header name)
named_means text None e =
    ((text, refl), λ section f. none-some section (sym e ∙ before_some closing text section (same_rest text (section ++ closing ∷ []) f)))
named_means text (Some section) e = ap (λ t. opening ∷ t) (before_whole closing text section (behind closing (reverse text)) refl e)

starts_other : (byte : ℕ) (text rest : List ℕ) → eqb byte opening ≡ false → byte ∷ text ≡ opening ∷ rest → ⊥
starts_other byte text rest e f = false≢true (sym e ∙ eq-eqb byte opening (same_first byte opening text rest f))

means_so : (text : List ℕ) → Means text (trimmed_kind text)
means_so [] = refl
means_so (byte ∷ text) =
    elim (eqb byte opening) as (λ v. eqb byte opening ≡ v → Means (byte ∷ text) (filled (byte ∷ text) (cond v (Some text) None))) [
      | true ↦ λ e. subst (λ b. Means (b ∷ text) (named_header (before closing text))) (sym (eqb-true byte opening e))
          (named_means text (before closing text) refl)
      | false ↦ λ e. assigned_means (byte ∷ text) (cut_at equals (byte ∷ text)) refl (not_empty byte text)
          (λ b. starts_other byte text b.0 e b.1)
    ]
    refl

-- conversely: a meaning belongs to one kind
before_nothing : (byte : ℕ) (text : List ℕ) (front : Option (List ℕ)) → before byte text ≡ front
    → ((front : List ℕ) → text ≢ front ++ byte ∷ []) → before byte text ≡ None
before_nothing byte text None e never = e
before_nothing byte text (Some front) e never = absurd (never front (before_whole byte text front (behind byte (reverse text)) refl e))

plain_kind : (text : List ℕ) → text ≢ [] → ¬ (BeginsHeader text) → trimmed_kind text ≡ assigned (cut_at equals text)
plain_kind [] some plain = absurd (some refl)
plain_kind (byte ∷ text) some plain = ap (filled (byte ∷ text)) (behind_none opening (byte ∷ text) (λ rest e. plain (rest, e)))

lacks_key : (text left right key : List ℕ) → cut_at equals text ≡ Some (left, right) → ¬ (BeginsHeader text) → key ≡ trim left
    → ((key value : List ℕ) → ¬ (Assigns text key value)) → keyed key (trim right) ≡ no_equals
lacks_key text left right [] e plain k never = refl
lacks_key text left right (byte ∷ key) e plain k never =
    absurd (never (byte ∷ key) (trim right) (record {
      left = left;
      right = right;
      cut = cut_whole text (left, right) e;
      first = cut_first text (left, right) e;
      no_header = plain;
      key_is = k;
      value_is = refl;
      filled = not_empty byte key;
    }))

lacks_equals : (text : List ℕ) (sides : Option (List ℕ × List ℕ)) → cut_at equals text ≡ sides → ¬ (BeginsHeader text)
    → ((key value : List ℕ) → ¬ (Assigns text key value)) → assigned sides ≡ no_equals
lacks_equals text None e plain never = refl
lacks_equals text (Some sides) e plain never = lacks_key text sides.0 sides.1 (trim sides.0) e plain refl never

has_key : (key value : List ℕ) → key ≢ [] → keyed key value ≡ assigns key value
has_key [] value some = absurd (some refl)
has_key (byte ∷ key) value some = refl

no_cut : (left right : List ℕ) → [] ≡ left ++ equals ∷ right → ⊥
no_cut [] right e = cc
no_cut (byte ∷ left) right e = cc

assigns_some : (text key value : List ℕ) → Assigns text key value → text ≢ []
assigns_some text key value a e = no_cut a.left a.right (sym e ∙ a.cut)

kind_from : (text : List ℕ) (kind : Kind) → Means text kind → trimmed_kind text ≡ kind
kind_from text skipped m = ap trimmed_kind m
kind_from text (header section) m =
    ap trimmed_kind m ∙ ap named_header (before_some closing (section ++ closing ∷ []) section refl)
kind_from text bad_header m =
    ap trimmed_kind m.0.1
    ∙ ap named_header (before_nothing closing m.0.0 (before closing m.0.0) refl
    (λ section e. m.1 section (m.0.1 ∙ ap (λ rest. opening ∷ rest) e)))
kind_from text no_equals m = plain_kind text m.0 m.1 ∙ lacks_equals text (cut_at equals text) refl m.1 m.2
kind_from text (assigns key value) a =
    plain_kind text (assigns_some text key value a) a.no_header
    ∙ ap assigned (cut_of text key value a)
    ∙ ap (λ k. keyed k (trim a.right)) (sym a.key_is)
    ∙ ap (keyed key) (sym a.value_is)
    ∙ has_key key value a.filled

-- the kind of a line is the meaning of the text between the white space at its ends
pub meaning : (line : List ℕ) (kind : Kind) → (kind_of line ≡ kind) ↔ Means (trim line) kind
meaning line kind =
    (λ e. subst (Means (trim line)) e (means_so (trim line)), kind_from (trim line) kind)
