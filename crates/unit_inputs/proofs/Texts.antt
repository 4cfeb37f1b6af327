-- Texts are printed one after the other.
use Rattle.std.proofs.Common.{◌≡◌, ℕ, suc, ◌+◌, ◌<◌, ◌≤◌, false, List, [], ◌∷◌, ◌++◌, length, get_or, take, drop, Option}
use Rattle.std.proofs.Common.{Result, Ok, Err, refl, sym, ap, ◌∙◌, subst, append_assoc, append-nil, inl, inr}
use Rattle.std.specs.Prelude.{flat_map}
use Rattle.std.specs.Result.{IsErrAnd}
use Rattle.std.specs.Io.KnownBytes.{append_known}
use Rattle.std.proofs.Math.Seq.{drop-cons}
use Rattle.std.proofs.lemmas.List.{take_all, take_more, take-append-drop}
use Rattle.std.proofs.lemmas.List.Concat.{flat_map-append}
use Rattle.exec_settings.specs.host_io.Puts.{Hands, Put}
use Rattle.exec_settings.specs.host_io.Writing.{Grew, TakesWhole}
use Rattle.exec_settings.specs.host_io.declared.writing.SinkError.{SinkError}
use Rattle.exec_settings.specs.host_io.declared.writing.SinkError.TheVariants.{Memory}
use Rattle.exec_settings.proofs.OfHostIo.Growth.{append_known-append, append_known-nil}
use Rattle.unit_inputs.specs.command_answers.Lines.{IsLine, IsOfLines, has_feed}
use Rattle.unit_inputs.specs.command_answers.Printing.{PrintsAll, PrintsLines, PrintsSome, PutsSome, PutsText, TakesFront}
use Rattle.unit_inputs.proofs.Lines.{as_text, lines_behind, no_lines, not_begun, one_line, part_of_line, some_before, some_behind}
use Rattle.unit_inputs.proofs.Lines.{some_lines, whole_lines}

pub grew_then : (a b c : Option (List ℕ)) (x y : List ℕ) → Grew a b x → Grew b c y → Grew a c (x ++ y)
grew_then a b c x y f g = g ∙ ap (λ o. append_known o y) f ∙ append_known-append a x y

front_then : (a b c : Option (List ℕ)) (x y : List ℕ) → Grew a b x → TakesFront b c y → TakesFront a c (x ++ y)
front_then a b c x y f (front, rest, is, g) =
    (x ++ front, rest, append_assoc x front rest ∙ ap (λ l. x ++ l) is, grew_then a b c x front f g)

front_cut : (a b : Option (List ℕ)) (x y : List ℕ) → TakesFront a b x → TakesFront a b (x ++ y)
front_cut a b x y (front, rest, is, g) = (front, rest ++ y, sym (append_assoc front rest y) ∙ ap (λ l. l ++ y) is, g)

-- a part of a piece that was taken
pub piece_cut : (a b : Option (List ℕ)) (piece : List ℕ) (error : SinkError) → TakesWhole a b piece (Err error) → TakesFront a b piece
piece_cut a b piece error (count, lt, grew) = (take count piece, drop count piece, take-append-drop count piece, grew)

module _ {S : Type 0} (taken : S → Option (List ℕ)) (puts : S → Put → S → Type 0) where
  pub text_as : (a b : S) (x y : List ℕ) (put : Result (Unit {0}) SinkError) → x ≡ y → PrintsLines taken puts a b x put
      → PrintsLines taken puts a b y put
  text_as a b x y put same prints = subst (λ text. PrintsLines taken puts a b text put) same prints

  -- a line that was put
  pub line_printed : (a b : S) (line : List ℕ) (put : Result (Unit {0}) SinkError) → IsLine line
      → TakesWhole (taken a) (taken b) line put → Hands puts a b line put → PrintsLines taken puts a b line put
  line_printed a b line (Ok u) is takes hands = record { takes = takes; hands = one_line puts a b line is hands }
  line_printed a b line (Err error) is takes hands = record {
    takes = piece_cut (taken a) (taken b) line error takes;
    hands = part_of_line puts a b line error is hands;
  }

  -- a text of whole lines that was printed is put
  pub printed_text : (a b : S) (x : List ℕ) (put : Result (Unit {0}) SinkError) → PrintsLines taken puts a b x put
      → PutsText taken puts a b x put
  printed_text a b x (Ok u) prints = record { takes = prints.takes; hands = as_text puts a b x prints.hands }
  printed_text a b x (Err error) prints = record { takes = prints.takes; hands = inl prints.hands }

  -- a text that is put is printed if it ends in a line feed
  pub text_of_lines : (a b : S) (x : List ℕ) (put : Result (Unit {0}) SinkError) → IsOfLines x → PutsText taken puts a b x put
      → PrintsLines taken puts a b x put
  text_of_lines a b x (Ok u) ends text = record { takes = text.takes; hands = whole_lines puts a b x ends text.hands }
  text_of_lines a b x (Err error) ends text = record { takes = text.takes; hands = some_lines puts a b x error ends text.hands }

module _ {S : Type 0} {taken : S → Option (List ℕ)} {puts : S → Put → S → Type 0} where
  -- The lemma of composition: a text that is printed after a whole one makes one text with it
  pub text_then : (a b c : S) (x y : List ℕ) (put : Result (Unit {0}) SinkError) → PrintsAll taken puts a b x
      → PrintsLines taken puts b c y put → PrintsLines taken puts a c (x ++ y) put
  text_then a b c x y (Ok u) f g = record {
    takes = grew_then (taken a) (taken b) (taken c) x y f.takes g.takes;
    hands = lines_behind puts a b c x y f.hands g.hands;
  }
  text_then a b c x y (Err error) f g = record {
    takes = front_then (taken a) (taken b) (taken c) x y f.takes g.takes;
    hands = some_behind puts a b c x y error f.hands g.hands;
  }

  -- a text that was cut stays cut, whatever was to follow
  pub text_cut : (a b : S) (x y : List ℕ) (error : SinkError) → PrintsSome taken puts a b x error → PrintsSome taken puts a b (x ++ y) error
  text_cut a b x y error f = record {
    takes = front_cut (taken a) (taken b) x y f.takes;
    hands = some_before puts a b x y error f.hands;
  }

  -- a text was printed up to an error, with this result
  pub text_at_error : (a b : S) (x : List ℕ) (error : SinkError) (put : Result (Unit {0}) SinkError)
      → IsErrAnd put (λ own. own ≡ error) → PrintsSome taken puts a b x error → PrintsLines taken puts a b x put
  text_at_error a b x error (Ok u) is prints = absurd is
  text_at_error a b x error (Err own) is prints = subst (PrintsSome taken puts a b x) (sym is) prints

  -- an error occurred before the last part of a text
  pub text_short : (a b : S) (x y : List ℕ) (error : SinkError) (put : Result (Unit {0}) SinkError)
      → IsErrAnd put (λ own. own ≡ error) → PrintsSome taken puts a b x error → PrintsLines taken puts a b (x ++ y) put
  text_short a b x y error put is prints = text_at_error a b (x ++ y) error put is (text_cut a b x y error prints)

  pub put_at_error : (a b : S) (x : List ℕ) (error : SinkError) (put : Result (Unit {0}) SinkError)
      → IsErrAnd put (λ own. own ≡ error) → PutsSome taken puts a b x error → PutsText taken puts a b x put
  put_at_error a b x error (Ok u) is text = absurd is
  put_at_error a b x error (Err own) is text = subst (PutsSome taken puts a b x) (sym is) text

  -- nothing was put
  pub nothing_printed : (a : S) → PrintsAll taken puts a a []
  nothing_printed a = record { takes = sym (append_known-nil (taken a)); hands = no_lines puts a }

  pub not_printed : (a : S) (x : List ℕ) → PrintsSome taken puts a a x Memory
  not_printed a x = record { takes = ([], x, refl, sym (append_known-nil (taken a))); hands = not_begun puts a x }

  -- the unended last line is put
  pub last_put : (a b c : S) (front last text : List ℕ) (put : Result (Unit {0}) SinkError) → PrintsAll taken puts a b front
      → has_feed last ≡ false → front ++ last ≡ text → TakesWhole (taken b) (taken c) last put → Hands puts b c last put
      → PutsText taken puts a c text put
  last_put a b c front last text (Ok u) f none is takes hands = record {
    takes = subst (Grew (taken a) (taken c)) is (grew_then (taken a) (taken b) (taken c) front last f.takes takes);
    hands = record {
      front = front;
      last = last;
      are_the_text = is;
      no_line = none;
      between = b;
      lines = f.hands;
      behind = hands;
    };
  }
  last_put a b c front last text (Err error) f none is takes hands = record {
    takes =
        subst (TakesFront (taken a) (taken c)) is
        (front_then (taken a) (taken b) (taken c) front last f.takes (piece_cut (taken b) (taken c) last error takes));
    hands = inr (record {
      front = front;
      last = last;
      are_the_text = is;
      no_line = none;
      between = b;
      lines = f.hands;
      part = hands;
    });
  }

-- the texts of items, up to one more item
module _ {X : Type 0} (text : X → List ℕ) (xs : List X) (i : ℕ) (d x : X) where
  one_more : i < length xs → x ≡ get_or xs i d → flat_map text (take i xs) ++ text x ≡ flat_map text (take (i + 1) xs)
  one_more lt is =
      ap (λ l. flat_map text (take i xs) ++ l) (sym (append-nil (text x)) ∙ ap (λ y. flat_map text (y ∷ [])) is)
      ∙ sym (flat_map-append text (take i xs) (get_or xs i d ∷ []))
      ∙ ap (flat_map text) (sym (take_more xs i d lt))

  the_rest : i < length xs → x ≡ get_or xs i d → (flat_map text (take i xs) ++ text x) ++ flat_map text (drop (suc i) xs) ≡ flat_map text xs
  the_rest lt is =
      append_assoc (flat_map text (take i xs)) (text x) (flat_map text (drop (suc i) xs))
      ∙ ap (λ y. flat_map text (take i xs) ++ (text y ++ flat_map text (drop (suc i) xs))) is
      ∙ ap (λ l. flat_map text (take i xs) ++ flat_map text l) (sym (drop-cons xs i d lt))
      ∙ sym (flat_map-append text (take i xs) (drop i xs))
      ∙ ap (flat_map text) (take-append-drop i xs)

module _ {S X : Type 0} {taken : S → Option (List ℕ)} {puts : S → Put → S → Type 0} (text : X → List ℕ) (xs : List X) (i : ℕ) (d x : X)
    (a b c : S) where
  pub items_more : i < length xs → x ≡ get_or xs i d → PrintsAll taken puts a b (flat_map text (take i xs))
      → PrintsAll taken puts b c (text x)
      → PrintsAll taken puts a c (flat_map text (take (i + 1) xs))
  items_more lt is f g =
      subst (PrintsAll taken puts a c) (one_more text xs i d x lt is) (text_then a b c (flat_map text (take i xs)) (text x) (Ok tt) f g)

  pub items_cut : (error : SinkError) → i < length xs → x ≡ get_or xs i d → PrintsAll taken puts a b (flat_map text (take i xs))
      → PrintsSome taken puts b c (text x) error → PrintsSome taken puts a c (flat_map text xs) error
  items_cut error lt is f prints =
      text_as taken puts a c ((flat_map text (take i xs) ++ text x) ++ flat_map text (drop (suc i) xs)) (flat_map text xs) (Err error)
      (the_rest text xs i d x lt is)
      (text_cut a c (flat_map text (take i xs) ++ text x) (flat_map text (drop (suc i) xs)) error
      (text_then a b c (flat_map text (take i xs)) (text x) (Err error) f prints))

-- the texts of all items
pub items_all : {S X : Type 0} {taken : S → Option (List ℕ)} {puts : S → Put → S → Type 0} (text : X → List ℕ) (xs : List X) (i : ℕ)
    (a b : S) → length xs ≤ i → PrintsAll taken puts a b (flat_map text (take i xs)) → PrintsAll taken puts a b (flat_map text xs)
items_all {S} {X} {taken} {puts} text xs i a b past f = subst (λ these. PrintsAll taken puts a b (flat_map text these))
    (take_all i xs past) f
