-- Lines are handed to a sink one after the other, each as one piece.
use Rattle.std.proofs.Common.{◌≡◌, ℕ, zero, suc, ◌+◌, ◌<◌, ◌≤◌, ◌==◌, Bool, true, false, cond, List, [], ◌∷◌, ◌++◌, length, get_or, take}
use Rattle.std.proofs.Common.{Some, None, refl, sym, ap, ◌∙◌, subst, append_assoc, append-nil, arith, inl, inr}
use Rattle.std.specs.List.{list_any, position, position_or_len}
use Rattle.std.specs.Prelude.{flat_map, nat_lt, ◌||◌, ◌⊎◌}
use Rattle.std.proofs.lemmas.Bool.Decides.{nat_tests}
use Rattle.std.proofs.lemmas.List.{take_more, take_all}
use Rattle.std.proofs.lemmas.List.Folds.{list_any-append}
use Rattle.std.proofs.lemmas.List.Quantifiers.{position-Some}
use Rattle.std.proofs.lemmas.List.Sums.{fails_before_first}
use Rattle.exec_settings.specs.host_io.Puts.{HandsPart, HandsWhole, Leaves, Put, Puts, handed}
use Rattle.exec_settings.specs.host_io.declared.writing.SinkError.{SinkError}
use Rattle.exec_settings.specs.host_io.declared.writing.SinkError.TheVariants.{Memory}
use Rattle.unit_inputs.specs.command_answers.Lines.{EndsLine, HandsEach, HandsLast, HandsLines, HandsSome, HandsText, IsOfLines}
use Rattle.unit_inputs.specs.command_answers.Lines.{IsLine, StopsAt, has_feed, joined}

-- Texts that end in a line feed.
pub ends_feed : EndsLine (10 ∷ [])
ends_feed = record { front = []; ends_so = refl }

pub ends_behind : (x y : List ℕ) → EndsLine y → EndsLine (x ++ y)
ends_behind x y ends = record {
  front = x ++ ends.front;
  ends_so = append_assoc x ends.front (10 ∷ []) ∙ ap (λ l. x ++ l) ends.ends_so;
}

-- Texts of whole lines, one after the other.
pub of_lines_then : (x y : List ℕ) → IsOfLines x → IsOfLines y → IsOfLines (x ++ y)
of_lines_then x y first (inl empty) = subst IsOfLines (sym (ap (λ l. x ++ l) empty ∙ append-nil x)) first
of_lines_then x y first (inr ends) = inr (ends_behind x y ends)

pub of_lines_all : {X : Type 0} (text : X → List ℕ) (xs : List X) → ((x : X) → IsOfLines (text x)) → IsOfLines (flat_map text xs)
of_lines_all text [] each = inl refl
of_lines_all text (x ∷ xs) each = of_lines_then (text x) (flat_map text xs) (each x) (of_lines_all text xs each)

-- Where the first line of a text ends.
none_below : (p : ℕ → Bool) (xs : List ℕ) (i d : ℕ) → ((k : ℕ) → k < i → p (get_or xs k d) ≡ false) → i ≤ length xs
    → list_any p (take i xs) ≡ false
none_below p xs zero d other within = refl
none_below p [] (suc i) d other within = absurd (omega arith)
none_below p (x ∷ xs) (suc i) d other within =
    let first : p x ≡ false = other 0 (omega arith) in
    let rest : list_any p (take i xs) ≡ false = none_below p xs i d (λ k lt. other (suc k) (omega arith)) (omega arith) in
    rw (first, rest) refl

pub first_is_line : (text : List ℕ) (at : ℕ) → position (λ byte. byte == 10) text ≡ Some at → IsLine (take (at + 1) text)
first_is_line text at found =
    let is = position-Some (λ byte. byte == 10) text at 0 found in
    let feed : get_or text at 0 ≡ 10 = grind (arith, nat_tests, is.1) in
    record {
      words = take at text;
      ends_so = ap (λ byte. take at text ++ byte ∷ []) (sym feed) ∙ sym (take_more text at 0 is.0);
      no_other = none_below (λ byte. byte == 10) text at 0 is.2 (omega (arith, is.0));
    }

pub none_is_line : (text : List ℕ) → position (λ byte. byte == 10) text ≡ None → has_feed text ≡ false
none_is_line text none =
    let past : length text ≤ position_or_len (λ byte. byte == 10) text =
    past_it (nat_lt (position_or_len (λ byte. byte == 10) text) (length text)) refl none in
    let below : list_any (λ byte. byte == 10) (take (length text) text) ≡ false =
    none_below (λ byte. byte == 10) text (length text) 0
    (λ k lt. fails_before_first (λ byte. byte == 10) text k 0 (omega (arith, past, lt))) (omega arith) in
    subst (λ l. list_any (λ byte. byte == 10) l ≡ false) (take_all (length text) text (omega arith)) below
  where
    past_it : (b : Bool) → nat_lt (position_or_len (λ byte. byte == 10) text) (length text) ≡ b
        → cond b (Some (position_or_len (λ byte. byte == 10) text)) None ≡ None
        → length text ≤ position_or_len (λ byte. byte == 10) text
    past_it true e none = cc
    past_it false e none = grind (arith, nat_tests, e)

-- Nothing follows the last line feed of a text that ends in one.
not_in_it : (words : List ℕ) → has_feed (words ++ 10 ∷ []) ≡ false → ⊥
not_in_it words none =
    let e : has_feed (words ++ 10 ∷ []) ≡ true = list_any-append (λ byte. byte == 10) words (10 ∷ []) ∙ or_true (has_feed words) in
    cc
  where
    or_true : (b : Bool) → (b || true) ≡ true
    or_true true = refl
    or_true false = refl

no_more : (front last : List ℕ) → front ++ last ≡ [] → last ≡ []
no_more [] last is = is
no_more (x ∷ front) last is = cc

nothing_behind : (front last words : List ℕ) → front ++ last ≡ words ++ 10 ∷ [] → has_feed last ≡ false → last ≡ []
nothing_behind [] last words is none = absurd (not_in_it words (subst (λ l. has_feed l ≡ false) is none))
nothing_behind (x ∷ front) last [] is none = no_more front last cc
nothing_behind (x ∷ front) last (y ∷ words) is none =
    let e : front ++ last ≡ words ++ 10 ∷ [] = cc in
    nothing_behind front last words e none

no_tail : (x front last : List ℕ) → IsOfLines x → front ++ last ≡ x → has_feed last ≡ false → last ≡ []
no_tail x front last (inl empty) is none = no_more front last (is ∙ empty)
no_tail x front last (inr ends) is none = nothing_behind front last ends.front (is ∙ sym ends.ends_so) none

pub joined-append : (x y : List (List ℕ)) → joined (x ++ y) ≡ joined x ++ joined y
joined-append [] y = refl
joined-append (line ∷ x) y = ap (λ l. line ++ l) (joined-append x y) ∙ sym (append_assoc line (joined x) (joined y))

module _ {S : Type 0} (puts : S → Put → S → Type 0) where
  each_behind : (a b c : S) (x y : List (List ℕ)) → HandsEach puts a b x → HandsEach puts b c y → HandsEach puts a c (x ++ y)
  each_behind a b c [] y same behind = subst (λ s. HandsEach puts s c y) same behind
  each_behind a b c (line ∷ x) y (next, is, one, rest) behind = (next, is, one, each_behind next b c x y rest behind)

  -- a text follows whole lines
  pub lines_behind : (a b c : S) (x y : List ℕ) → HandsLines puts a b x → HandsLines puts b c y → HandsLines puts a c (x ++ y)
  lines_behind a b c x y first second = record {
    lines = first.lines ++ second.lines;
    are_the_text =
        joined-append first.lines second.lines ∙ ap (λ l. l ++ joined second.lines) first.are_the_text
        ∙ ap (λ l. x ++ l) second.are_the_text;
    each = each_behind a b c first.lines second.lines first.each second.each;
  }

  pub some_behind : (a b c : S) (x y : List ℕ) (error : SinkError) → HandsLines puts a b x → HandsSome puts b c y error
      → HandsSome puts a c (x ++ y) error
  some_behind a b c x y error first second = record {
    lines = first.lines ++ second.lines;
    left = second.left;
    are_the_text =
        ap (λ l. l ++ second.left)
        (joined-append first.lines second.lines ∙ ap (λ l. l ++ joined second.lines) first.are_the_text)
        ∙ append_assoc x (joined second.lines) second.left
        ∙ ap (λ l. x ++ l) second.are_the_text;
    between = second.between;
    each = each_behind a b second.between first.lines second.lines first.each second.each;
    stops = second.stops;
  }

  stops_before : (a b : S) (left more : List ℕ) (error : SinkError) → StopsAt puts a b left error → StopsAt puts a b (left ++ more) error
  stops_before a b left more error (inl none) = inl none
  stops_before a b left more error (inr next) = inr (record {
    line = next.line;
    rest = next.rest ++ more;
    are_left = sym (append_assoc next.line next.rest more) ∙ ap (λ l. l ++ more) next.are_left;
    is_line = next.is_line;
    part = next.part;
  })

  pub some_before : (a b : S) (x y : List ℕ) (error : SinkError) → HandsSome puts a b x error → HandsSome puts a b (x ++ y) error
  some_before a b x y error it = record {
    lines = it.lines;
    left = it.left ++ y;
    are_the_text = sym (append_assoc (joined it.lines) it.left y) ∙ ap (λ l. l ++ y) it.are_the_text;
    between = it.between;
    each = it.each;
    stops = stops_before it.between b it.left y error it.stops;
  }

  pub no_lines : (a : S) → HandsLines puts a a []
  no_lines a = record { lines = []; are_the_text = refl; each = refl }

  pub not_begun : (a : S) (x : List ℕ) → HandsSome puts a a x Memory
  not_begun a x = record { lines = []; left = x; are_the_text = refl; between = a; each = refl; stops = inl (refl, refl) }

  -- one line
  pub one_line : (a b : S) (line : List ℕ) → IsLine line → HandsWhole puts a b line → HandsLines puts a b line
  one_line a b line is whole = record { lines = line ∷ []; are_the_text = append-nil line; each = (b, is, whole, refl) }

  pub part_of_line : (a b : S) (line : List ℕ) (error : SinkError) → IsLine line → HandsPart puts a b line error
      → HandsSome puts a b line error
  part_of_line a b line error is part = record {
    lines = [];
    left = line;
    are_the_text = refl;
    between = a;
    each = refl;
    stops = inr (record { line = line; rest = []; are_left = append-nil line; is_line = is; part = part });
  }

  -- a text of whole lines has no unended last line
  pub as_text : (a b : S) (x : List ℕ) → HandsLines puts a b x → HandsText puts a b x
  as_text a b x lines = record {
    front = x;
    last = [];
    are_the_text = append-nil x;
    no_line = refl;
    between = b;
    lines = lines;
    behind = record { counts = []; takes_all = refl; made = refl };
  }

  nothing_whole : (a b : S) (last : List ℕ) → last ≡ [] → HandsWhole puts a b last → b ≡ a
  nothing_whole a b last none whole = by_counts whole.counts (subst (λ l. Leaves l whole.counts []) none whole.takes_all) whole.made
    where
      by_counts : (counts : List ℕ) → Leaves [] counts [] → Puts puts a b (handed last counts) → b ≡ a
      by_counts [] leaves made = made
      by_counts (count ∷ counts) (some, within, leaves) made = absurd (omega (arith, some, within))

  nothing_part : (a b : S) (last : List ℕ) (error : SinkError) → last ≡ [] → HandsPart puts a b last error → ⊥
  nothing_part a b last error none part = by_counts part.counts part.left (subst (λ l. Leaves l part.counts part.left) none part.takes_part)
      part.some_left
    where
      by_counts : (counts left : List ℕ) → Leaves [] counts left → 0 < length left → ⊥
      by_counts [] left is some = absurd (omega (arith, some, ap length is))
      by_counts (count ∷ counts) left (one, within, leaves) some = absurd (omega (arith, one, within))

  pub whole_lines : (a b : S) (x : List ℕ) → IsOfLines x → HandsText puts a b x → HandsLines puts a b x
  whole_lines a b x ends text =
      let none : text.last ≡ [] = no_tail x text.front text.last ends text.are_the_text text.no_line in
      let same : b ≡ text.between = nothing_whole text.between b text.last none text.behind in
      let all : text.front ≡ x = sym (ap (λ l. text.front ++ l) none ∙ append-nil text.front) ∙ text.are_the_text in
      subst (HandsLines puts a b) all (subst (λ s. HandsLines puts a s text.front) (sym same) text.lines)

  pub some_lines : (a b : S) (x : List ℕ) (error : SinkError) → IsOfLines x
      → HandsSome puts a b x error ⊎ HandsLast puts a b x error → HandsSome puts a b x error
  some_lines a b x error ends (inl some) = some
  some_lines a b x error ends (inr last) =
      absurd (nothing_part last.between b last.last error (no_tail x last.front last.last ends last.are_the_text last.no_line) last.part)
