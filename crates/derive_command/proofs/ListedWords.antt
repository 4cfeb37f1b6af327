-- What the value of a drop-in lists: `@default`, and words behind it.
use Rattle.std.proofs.Common.{◌≡◌, ℕ, ◌≤◌, Bool, true, false, cond, Option, Some, None, Ok, List, [], ◌∷◌, ◌++◌, codes, length, map}
use Rattle.std.proofs.Common.{flat_map, refl, ap, ◌∙◌, subst, arith}
use Rattle.std.specs.Prelude.{not, ◌||◌, ◌==◌, nat_le}
use Rattle.std.specs.List.{AllByRecursion, list_all}
use Rattle.std.specs.Option.{option_map, option_and_then}
use Rattle.std.specs.Fmt.{option_append}
use Rattle.std.specs.Str.{is_utf8, chars}
use lib.Utf8.{encode}
use Rattle.std.proofs.lemmas.Bool.{and_from, and_parts}
use Rattle.std.proofs.lemmas.Bool.Decides.{nat_tests}
use Rattle.std.proofs.lemmas.Str.{IsUtf8-append, IsUtf8-from_is_utf8, is_utf8-from_IsUtf8}
use Rattle.asked_service.specs.call_table.Names.{is_name, is_name_byte}
use Rattle.asked_service.specs.text_forms.Grammar.{EndsWord, IsPart, LaysOut, Part, Spells, bare, nothing, part_bytes, part_symbols, quoted}
use Rattle.asked_service.specs.text_forms.Grammar.{white, word}
use Rattle.asked_service.specs.text_forms.Words.{words_of}
use Rattle.asked_service.proofs.OfTextForms.Layouts.{split_as_laid}
use Rattle.asked_service.specs.unit_names.Expansion.{Piece, literal, last_percent, expansion, if_short, if_text, longest_value}
use Rattle.asked_service.specs.unit_names.Expansion.{onto_pieces, pieces_meaning, pieces_of}
use Rattle.asked_service.specs.unit_names.Names.{Name}
use Rattle.asked_service.specs.unit_names.Versions.{is_known}
use Rattle.asked_service.specs.unit_names.declared.version.Version.{Version}
use Rattle.asked_service.specs.dropin_merge.unit_values.Lines.{line_of, words_if}
use Rattle.derive_command.proofs.TameBytes.{are_names, each_too, is_tame, of_name, of_tame, tail_of, tame_of_names, tame_tail, tame_utf8}
use Rattle.derive_command.proofs.TameBytes.{unset, word_of}

-- ---- specifiers: there are none
no_percent : (byte : ℕ) → is_tame byte ≡ true → not (byte == 37) ≡ true
no_percent byte h = ap not (of_tame byte h).no_percent

pieces : (systemd : Option Version) (bytes : List ℕ) → list_all (λ byte. not (byte == 37)) bytes ≡ true
    → pieces_of systemd bytes ≡ Some (map literal bytes)
pieces systemd [] h = refl
pieces systemd (byte ∷ []) h =
    ap (λ b. cond b (cond (is_known systemd) (Some (last_percent ∷ [])) None) (Some (literal byte ∷ [])))
    (unset (byte == 37) (and_parts (not (byte == 37)) true h).0)
pieces systemd (byte ∷ next ∷ bytes) h =
    let both = and_parts (not (byte == 37)) (list_all (λ byte. not (byte == 37)) (next ∷ bytes)) h in
    let rest = pieces systemd (next ∷ bytes) both.1 in
    cond_off (byte == 37) _ _ (unset (byte == 37) both.0) ∙ ap (onto_pieces (Some (literal byte))) rest
  where
    cond_off : (b : Bool) (x y : Option (List Piece)) → b ≡ false → cond b x y ≡ y
    cond_off b x y e = ap (λ t. cond t x y) e

meaning : (name : Name) (bytes : List ℕ) → pieces_meaning name (map literal bytes) ≡ Some bytes
meaning name [] = refl
meaning name (byte ∷ bytes) = ap (option_append (Some (byte ∷ []))) (meaning name bytes)

default_utf8 : is_utf8 (codes "@default") ≡ true
unfolding is_utf8 chars encode
default_utf8 = refl

module _ (words : List (List ℕ)) (named : are_names words ≡ true) where
  abbrev value : List ℕ
  value = codes "@default" ++ tail_of words

  tame : list_all is_tame (tail_of words) ≡ true
  tame = tame_tail words named

  value_utf8 : is_utf8 value ≡ true
  value_utf8 = is_utf8-from_IsUtf8 value
      (IsUtf8-append (codes "@default") (tail_of words) (IsUtf8-from_is_utf8 (codes "@default") default_utf8)
      (IsUtf8-from_is_utf8 (tail_of words) (tame_utf8 (tail_of words) tame)))

  -- a value that is short enough stands for itself
  pub expanded : (systemd : Option Version) (name : Name) → length value ≤ longest_value → expansion systemd name value ≡ Some value
  expanded systemd name short =
      let few : nat_le (length value) longest_value ≡ true = grind (arith, nat_tests) in
      ap (λ found. option_and_then if_text (option_and_then if_short (option_and_then (pieces_meaning name) found)))
      (pieces systemd value (each_too is_tame (λ byte. not (byte == 37)) no_percent (tail_of words) tame))
      ∙ ap (λ found. option_and_then if_text (option_and_then if_short found)) (meaning name value)
      ∙ ap (λ b. option_and_then if_text (cond b (Some value) None)) few
      ∙ ap (λ b. cond b (Some value) None) value_utf8

-- ---- a byte that stands for itself
abbrev IsFilled : {X : Type 0} → List X → Type 0
IsFilled [] = ⊥
IsFilled (x ∷ xs) = Unit {0}

abbrev front_of : {X : Type 0} → (xs : List X) → IsFilled xs → X
front_of [] filled = absurd filled
front_of (x ∷ xs) filled = x

abbrev part_of : ℕ → Part
part_of byte = bare (front_of (part_symbols (quoted byte [])) tt)

abbrev parts_of : List ℕ → List Part
parts_of bytes = map part_of bytes

said : (bytes : List ℕ) → flat_map part_bytes (parts_of bytes) ≡ bytes
said [] = refl
said (byte ∷ bytes) = ap (λ rest. byte ∷ rest) (said bytes)

no_backslash : (byte : ℕ) → (byte == 92) ≡ false → byte ≡ 92 → ⊥
no_backslash byte h is = grind (arith, nat_tests)

spelled : (bytes text : List ℕ) (symbols : _) → list_all (λ byte. not (byte == 92)) bytes ≡ true → Spells symbols text
    → Spells (flat_map part_symbols (parts_of bytes) ++ symbols) (bytes ++ text)
spelled [] text symbols h rest = rest
spelled (byte ∷ bytes) text symbols h rest =
    let both = and_parts (not (byte == 92)) (list_all (λ byte. not (byte == 92)) bytes) h in
    (byte ∷ [], bytes ++ text, (refl, no_backslash byte (unset (byte == 92) both.0)), refl, spelled bytes text symbols both.1 rest)

good_parts : (bytes : List ℕ) → list_all is_name_byte bytes ≡ true → AllByRecursion IsPart (parts_of bytes)
good_parts [] h = tt
good_parts (byte ∷ bytes) h =
    let both = and_parts (is_name_byte byte) (list_all is_name_byte bytes) h in
    let is = of_name byte both.0 in
    let white : ((byte == 32 || byte == 9) || byte == 13) ≡ false = ap (λ b. (b || byte == 9) || byte == 13) is.no_space ∙ ap (λ b. (false || b) || byte == 13) is.tame.no_tab ∙ ap (λ b. (false || false) || b) is.tame.no_return in
    let quote : (byte == 34 || byte == 39) ≡ false = ap (λ b. b || byte == 39) is.tame.no_quotes ∙ is.tame.no_quote in
    ((white, quote), good_parts bytes both.1)

name_plain : (byte : ℕ) → is_name_byte byte ≡ true → not (byte == 92) ≡ true
name_plain byte h = ap not (of_name byte h).tame.no_backslash

-- the text is these words, and ends a word before it
abbrev IsLaid : List ℕ → List (List ℕ) → Type 0
IsLaid text words = (symbols : _) × Spells symbols text × LaysOut symbols words × EndsWord symbols

laid_tail : (words : List (List ℕ)) → are_names words ≡ true → IsLaid (tail_of words) words
laid_tail [] h = ([], refl, nothing, tt)
laid_tail ([] ∷ words) h = cc
laid_tail ((byte ∷ rest) ∷ words) h =
    let both = and_parts (is_name (byte ∷ rest)) (are_names words) h in
    let is = word_of (byte ∷ rest) both.0 in
    let more = laid_tail words both.1 in
    let laid = word (part_of byte) (parts_of rest) more.0 words (good_parts (byte ∷ rest) is.bytes) more.3 more.2 in
    let own = subst (λ own. LaysOut (flat_map part_symbols (parts_of (byte ∷ rest)) ++ more.0) (own ∷ words)) (said (byte ∷ rest)) laid in (
      flat_map part_symbols (part_of 32 ∷ parts_of (byte ∷ rest)) ++ more.0,
      (32 ∷ [], (byte ∷ rest) ++ tail_of words, (refl, no_backslash 32 refl), refl, spelled (byte ∷ rest) (tail_of words) more.0 (each_too is_name_byte (λ byte. not (byte == 92)) name_plain (byte ∷ rest) is.bytes) more.1),
      white 32 (flat_map part_symbols (parts_of (byte ∷ rest)) ++ more.0) ((byte ∷ rest) ∷ words) refl own,
      refl,
    )

all_utf8 : (words : List (List ℕ)) → are_names words ≡ true → list_all is_utf8 words ≡ true
all_utf8 [] h = refl
all_utf8 (own ∷ words) h =
    let both = and_parts (is_name own) (are_names words) h in
    and_from (is_utf8 own) (list_all is_utf8 words) (tame_utf8 own (tame_of_names own (word_of own both.0).bytes)) (all_utf8 words both.1)

abbrev default_bytes : List ℕ
default_bytes = codes "@default"

module _ (words : List (List ℕ)) (named : are_names words ≡ true) where
  pub split_is : words_of (value words named) ≡ Ok (default_bytes ∷ words)
  split_is =
      let more = laid_tail words named in
      split_as_laid (value words named) (flat_map part_symbols (parts_of default_bytes) ++ more.0) (default_bytes ∷ words)
      (spelled default_bytes (tail_of words) more.0 refl more.1)
      (word (part_of 64) (parts_of (codes "default")) more.0 words ((refl, refl), ((refl, refl), ((refl, refl), ((refl, refl), ((refl, refl), ((refl, refl), ((refl, refl), ((refl, refl), tt)))))))) more.3 more.2)
      (and_from (is_utf8 default_bytes) (list_all is_utf8 words) default_utf8 (all_utf8 words named))

  -- the value is a plain line of these words
  pub line_is : line_of (value words named) ≡ Some (record { is_inverted = false; words = default_bytes ∷ words })
  unfolding line_of
  line_is = ap (λ found. option_map (λ own. record { is_inverted = false; words = own }) (words_if found)) split_is
