-- What the text of a drop-in says, as a file of a unit.
use Rattle.std.proofs.Common.{◌≡◌, ℕ, ◌+◌, ◌-◌, Bool, true, false, cond, Some, None, Result, Ok, Err, List, [], ◌∷◌, ◌++◌, codes, length}
use Rattle.std.proofs.Common.{take, drop, refl, ap, ◌∙◌, map, arith}
use Rattle.std.proofs.Math.Seq.{take-append_seam, drop-append-add}
use Rattle.std.specs.Prelude.{not, ◌||◌, ◌==◌, ◌%◌}
use Rattle.std.specs.List.{list_all, list_any, slice_split, onto_first, position_or_len, before_first, after_first, suffix_len, cons_option}
use Rattle.std.specs.List.{slice_get}
use Rattle.std.specs.Str.{is_utf8, chars}
use lib.Utf8.{encode}
use Rattle.std.proofs.lemmas.Bool.{and_from, and_parts, lt-ltb, eq-eqb}
use Rattle.std.proofs.lemmas.List.{append-nil, length-append, take_all}
use Rattle.std.proofs.lemmas.Str.{IsUtf8-append, IsUtf8-from_is_utf8, is_utf8-from_IsUtf8}
use Rattle.asked_service.specs.call_table.Names.{is_name_byte}
use Rattle.asked_service.specs.unit_grammar.Kinds.{Kind, assigns, cut_at, assigned, kind_of, trimmed_kind}
use Rattle.asked_service.specs.unit_grammar.Lines.{joined_lines, line_of, parts_from, split_after}
use Rattle.asked_service.specs.unit_grammar.Reading.{assignment_in, fault_in, is_text, note_in, unit_of, unit_of_lines, unless_fault}
use Rattle.asked_service.specs.unit_grammar.Spaces.{continues, is_backslash, is_white, trim, trim_end, without_last}
use Rattle.asked_service.specs.unit_grammar.declared.joined.Line.{Line}
use Rattle.asked_service.specs.unit_grammar.declared.unit.Assignment.{Assignment}
use Rattle.asked_service.specs.unit_grammar.declared.unit.UnitText.{UnitText}
use Rattle.asked_service.specs.unit_grammar.declared.unit.UnitError.{UnitError}
use Rattle.asked_service.specs.unit_grammar.declared.unit.UnitError.TheVariants.{NotText}
use Rattle.derive_command.proofs.TameBytes.{are_names, each_too, is_tame, none_behind_words, of_name, of_tame, tail_of, tame_tail, tame_utf8}
use Rattle.derive_command.proofs.TameBytes.{unset}

-- ---- a line at the front
abbrev is_lf : ℕ → Bool
is_lf byte = byte == 10

split_front : (front back : List ℕ) → list_all (λ byte. not (is_lf byte)) front ≡ true
    → slice_split is_lf (front ++ 10 ∷ back) ≡ front ∷ slice_split is_lf back
split_front [] back h = refl
split_front (byte ∷ front) back h =
    let both = and_parts (not (is_lf byte)) (list_all (λ byte. not (is_lf byte)) front) h in
    ap (λ b. cond b ([] ∷ slice_split is_lf (front ++ 10 ∷ back)) (onto_first byte (slice_split is_lf (front ++ 10 ∷ back))))
    (unset (is_lf byte) both.0)
    ∙ ap (onto_first byte) (split_front front back both.1)

-- ---- what stands before the first of a byte
abbrev is_byte : ℕ → ℕ → Bool
is_byte byte b = b == byte

first_place : (byte : ℕ) (front back : List ℕ) → list_all (λ b. not (is_byte byte b)) front ≡ true
    → position_or_len (is_byte byte) (front ++ byte ∷ back) ≡ length front
first_place byte [] back h = ap (λ b. cond (not b) (1 + position_or_len (is_byte byte) back) 0) (eq-eqb byte byte refl)
first_place byte (x ∷ front) back h =
    let both = and_parts (not (is_byte byte x)) (list_all (λ b. not (is_byte byte b)) front) h in
    ap (λ b. cond b (1 + position_or_len (is_byte byte) (front ++ byte ∷ back)) 0) both.0
    ∙ omega (arith, first_place byte front back both.1)

cut_front : (byte : ℕ) (front back : List ℕ) → list_all (λ b. not (is_byte byte b)) front ≡ true
    → cut_at byte (front ++ byte ∷ back) ≡ Some (front, back)
cut_front byte front back h =
    let text = front ++ byte ∷ back in
    let place = first_place byte front back h in
    ap (λ b. cond b (Some (before_first (is_byte byte) text, after_first (is_byte byte) text)) None)
    (lt-ltb (position_or_len (is_byte byte) text) (length text) (omega (arith, place, length-append front (byte ∷ back))))
    ∙ ap (λ n. Some (take n text, drop (n + 1) text)) place
    ∙ ap (λ x. Some (x, drop (length front + 1) text)) (take-append_seam front (byte ∷ back))
    ∙ ap (λ x. Some (front, x)) (drop-append-add front (byte ∷ back) 1)

-- a text that ends in no white space is its own trimmed end
trim_end_none : (text : List ℕ) → suffix_len is_white text ≡ 0 → trim_end text ≡ text
trim_end_none text none =
    let long : length text - suffix_len is_white text ≡ length text = omega (arith, none) in
    ap (λ n. take n text) long ∙ take_all (length text) text (omega arith)

name_not_white : (byte : ℕ) → is_name_byte byte ≡ true → not (is_white byte) ≡ true
name_not_white byte h =
    let is = of_name byte h in
    ap (λ b. not ((b || byte == 9) || byte == 13)) is.no_space ∙ ap (λ b. not ((false || b) || byte == 13)) is.tame.no_tab
    ∙ ap (λ b. not ((false || false) || b)) is.tame.no_return

name_not_backslash : (byte : ℕ) → is_name_byte byte ≡ true → not (is_backslash byte) ≡ true
name_not_backslash byte h = ap not (of_name byte h).tame.no_backslash

tame_not_lf : (byte : ℕ) → is_tame byte ≡ true → not (is_lf byte) ≡ true
tame_not_lf byte h = ap not (of_tame byte h).no_line

no_nul : (bytes : List ℕ) → list_all is_tame bytes ≡ true → list_any (λ byte. byte == 0) (bytes ++ 10 ∷ []) ≡ false
no_nul [] h = refl
no_nul (byte ∷ bytes) h =
    let both = and_parts (is_tame byte) (list_all is_tame bytes) h in
    ap (λ b. b || list_any (λ byte. byte == 0) (bytes ++ 10 ∷ [])) (of_tame byte both.0).no_nul ∙ no_nul bytes both.1

-- ---- the text, line by line
abbrev front_text : List ℕ
front_text = codes "[Service]\nSystemCallFilter=\nSystemCallFilter=@default"

abbrev first_line : List ℕ
first_line = codes "[Service]"

abbrev second_line : List ℕ
second_line = codes "SystemCallFilter="

front_utf8 : is_utf8 front_text ≡ true
unfolding is_utf8 chars encode
front_utf8 = refl

end_utf8 : is_utf8 (10 ∷ []) ≡ true
unfolding is_utf8 chars encode
end_utf8 = refl

module _ (words : List (List ℕ)) (named : are_names words ≡ true) where
  abbrev pub text : List ℕ
  text = front_text ++ (tail_of words ++ 10 ∷ [])

  abbrev third_line : List ℕ
  third_line = codes "SystemCallFilter=@default" ++ tail_of words

  -- what the second assignment gives
  abbrev pub value : List ℕ
  value = codes "@default" ++ tail_of words

  tame : list_all is_tame (tail_of words) ≡ true
  tame = tame_tail words named

  lines : slice_split is_lf text ≡ first_line ∷ second_line ∷ third_line ∷ [] ∷ []
  lines =
      split_front first_line (second_line ++ 10 ∷ (third_line ++ 10 ∷ [])) refl
      ∙ ap (λ rest. first_line ∷ rest) (split_front second_line (third_line ++ 10 ∷ []) refl)
      ∙ ap (λ rest. first_line ∷ second_line ∷ rest)
      (split_front third_line [] (each_too is_tame (λ byte. not (is_lf byte)) tame_not_lf (tail_of words) tame))

  is_a_text : is_text text ≡ true
  is_a_text =
      let tail_utf8 = IsUtf8-append (tail_of words) (10 ∷ []) (IsUtf8-from_is_utf8 (tail_of words) (tame_utf8 (tail_of words) tame)) (IsUtf8-from_is_utf8 (10 ∷ []) end_utf8) in
      and_from (is_utf8 text) (not (list_any (λ byte. byte == 0) text))
      (is_utf8-from_IsUtf8 text (IsUtf8-append front_text (tail_of words ++ 10 ∷ []) (IsUtf8-from_is_utf8 front_text front_utf8) tail_utf8))
      (ap not (no_nul (tail_of words) tame))

  ends_whole : continues third_line ≡ false
  ends_whole = ap (λ n. n % 2 == 1) (none_behind_words is_backslash name_not_backslash (codes "SystemCallFilter=@default") words named refl)

  abbrev at : ℕ → List ℕ → Line
  at number text = record { number = number; text = text }

  joined : joined_lines text ≡ at 1 first_line ∷ at 2 second_line ∷ at 3 third_line ∷ at 4 [] ∷ []
  joined =
      ap (λ parts. map line_of (split_after (λ part. not (continues part.text)) (parts_from 1 parts))) lines
      ∙ ap (λ b. map line_of ((at 1 first_line ∷ []) ∷ (at 2 second_line ∷ []) ∷ cond (not b)
      ((at 3 third_line ∷ []) ∷ (at 4 [] ∷ []) ∷ []) (onto_first (at 3 third_line) ((at 4 [] ∷ []) ∷ [])))) ends_whole
      ∙ ap (λ own. at 1 first_line ∷ at 2 second_line ∷ at 3 own ∷ at 4 [] ∷ [])
      (append-nil (cond (continues third_line) (without_last third_line ++ 32 ∷ []) third_line)
      ∙ ap (λ b. cond b (without_last third_line ++ 32 ∷ []) third_line) ends_whole)

  trimmed_value : trim value ≡ value
  trimmed_value = trim_end_none value (none_behind_words is_white name_not_white (codes "@default") words named refl)

  third_kind : kind_of third_line ≡ assigns (codes "SystemCallFilter") value
  third_kind =
      ap trimmed_kind (trim_end_none third_line
      (none_behind_words is_white name_not_white (codes "SystemCallFilter=@default") words named refl))
      ∙ ap assigned (cut_front 61 (codes "SystemCallFilter") value refl)
      ∙ ap (assigns (codes "SystemCallFilter")) trimmed_value

  -- the assignments of the text
  abbrev pub reset : Assignment
  reset = record { section = codes "Service"; key = codes "SystemCallFilter"; value = []; line = 2 }

  abbrev pub allows : Assignment
  allows = record { section = codes "Service"; key = codes "SystemCallFilter"; value = value; line = 3 }

  abbrev said_by : Kind → Result UnitText UnitError
  said_by kind = unless_fault (slice_get (cons_option (fault_in (Some (codes "Service")) 1 3 kind) []) 0) (record {
    assignments = reset ∷ cons_option (assignment_in (Some (codes "Service")) 3 kind) [];
    notes = cons_option (note_in (Some (codes "Service")) 3 kind) [];
  })

  by_kind : unit_of_lines (at 1 first_line ∷ at 2 second_line ∷ at 3 third_line ∷ at 4 [] ∷ []) ≡ said_by (kind_of third_line)
  by_kind = refl

  pub unit_is : unit_of text ≡ Ok (record { assignments = reset ∷ allows ∷ []; notes = [] })
  unit_is =
      ap (λ b. cond b (unit_of_lines (joined_lines text)) (Err NotText)) is_a_text
      ∙ ap unit_of_lines joined ∙ by_kind ∙ ap said_by third_kind
