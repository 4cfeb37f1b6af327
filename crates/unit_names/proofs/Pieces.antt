-- A value is expanded exactly if it consists of pieces that have texts.
use Rattle.std.proofs.Common.{◌≡◌, ℕ, Bool, true, false, cond, eqb, leb, length, Option, Some, None, List, [], ◌∷◌, ◌++◌, refl, sym, ap}
use Rattle.std.proofs.Common.{◌∙◌, subst}
use Rattle.std.specs.Prelude.{◌↔◌, ◌&&◌, not, is_some, flat_map, find}
use Rattle.std.specs.Option.{option_and_then}
use Rattle.std.specs.Str.{is_utf8}
use Rattle.std.specs.Fmt.{option_append}
use Rattle.std.proofs.lemmas.Bool.{and_parts, and_from, not-true, eqb-true, leb-true, le-leb, false≢true}
use Rattle.std.proofs.lemmas.Option.{none-some, same_Some, cond_some, option_and_then_some}
use Rattle.unit_names.specs.Names.{Name}
use Rattle.unit_names.specs.Unescaping.{onto}
use Rattle.unit_names.specs.Versions.{is_known}
use Rattle.unit_names.specs.Specifiers.{percent, spelling, letter_of, specifiers, specifier_at, is_kept}
use Rattle.unit_names.specs.Expansion.{Piece, specified, literal, kept, last_percent, longest_value, is_last, are_pieces, piece_text}
use Rattle.unit_names.specs.Expansion.{piece_meaning, pieces_meaning, Expands, onto_pieces, letter_piece, percent_piece, letter_meaning}
use Rattle.unit_names.specs.Expansion.{last_meaning, last_pieces, pieces_of, if_short, if_text, expanded_bytes, short_bytes, expansion}
use Rattle.unit_names.specs.declared.version.Version.{Version}
use Rattle.unit_names.specs.declared.specifier.Specifier.{Specifier}
use Rattle.unit_names.specs.declared.specifier.Specifier.TheVariants.{Percent, WholeName, Stem, Prefix, Instance, LastPart, PrefixUnescaped}
use Rattle.unit_names.specs.declared.specifier.Specifier.TheVariants.{InstanceUnescaped, LastPartUnescaped, RuntimeFolder, StateFolder}
use Rattle.unit_names.specs.declared.specifier.Specifier.TheVariants.{CacheFolder, LogFolder, ConfigFolder, TemporaryFolder}
use Rattle.unit_names.specs.declared.specifier.Specifier.TheVariants.{LastingTemporaryFolder, UserName, UserNumber, HomeFolder, NamedPath}
use Rattle.unit_names.specs.declared.specifier.Specifier.TheVariants.{GroupName, GroupNumber, Shell}
use Rattle.unit_names.proofs.Appending.{option_append_none}

-- a specifier is `%` and its letter
each_written : (specifier : Specifier) → spelling specifier ≡ percent ∷ letter_of specifier ∷ []
each_written Percent = refl
each_written WholeName = refl
each_written Stem = refl
each_written Prefix = refl
each_written Instance = refl
each_written LastPart = refl
each_written PrefixUnescaped = refl
each_written InstanceUnescaped = refl
each_written LastPartUnescaped = refl
each_written RuntimeFolder = refl
each_written StateFolder = refl
each_written CacheFolder = refl
each_written LogFolder = refl
each_written ConfigFolder = refl
each_written TemporaryFolder = refl
each_written LastingTemporaryFolder = refl
each_written UserName = refl
each_written UserNumber = refl
each_written HomeFolder = refl
each_written NamedPath = refl
each_written GroupName = refl
each_written GroupNumber = refl
each_written Shell = refl

-- the letter of a specifier finds the specifier, if the unit has it
each_found : (systemd : Option Version) (specifier : Specifier) → is_some (specifier_at systemd (letter_of specifier)) ≡ true
    → specifier_at systemd (letter_of specifier) ≡ Some specifier
each_found None Percent h = refl
each_found None WholeName h = refl
each_found None Stem h = refl
each_found None Prefix h = refl
each_found None Instance h = refl
each_found None LastPart h = refl
each_found None PrefixUnescaped h = refl
each_found None InstanceUnescaped h = refl
each_found None LastPartUnescaped h = refl
each_found None RuntimeFolder h = refl
each_found None StateFolder h = refl
each_found None CacheFolder h = refl
each_found None LogFolder h = refl
each_found None ConfigFolder h = refl
each_found None TemporaryFolder h = refl
each_found None LastingTemporaryFolder h = refl
each_found None UserName h = refl
each_found None UserNumber h = refl
each_found None HomeFolder h = refl
each_found None NamedPath h = absurd (false≢true h)
each_found None GroupName h = absurd (false≢true h)
each_found None GroupNumber h = absurd (false≢true h)
each_found None Shell h = absurd (false≢true h)
each_found (Some version) Percent h = refl
each_found (Some version) WholeName h = refl
each_found (Some version) Stem h = refl
each_found (Some version) Prefix h = refl
each_found (Some version) Instance h = refl
each_found (Some version) LastPart h = refl
each_found (Some version) PrefixUnescaped h = refl
each_found (Some version) InstanceUnescaped h = refl
each_found (Some version) LastPartUnescaped h = refl
each_found (Some version) RuntimeFolder h = refl
each_found (Some version) StateFolder h = refl
each_found (Some version) CacheFolder h = refl
each_found (Some version) LogFolder h = refl
each_found (Some version) ConfigFolder h = refl
each_found (Some version) TemporaryFolder h = refl
each_found (Some version) LastingTemporaryFolder h = refl
each_found (Some version) UserName h = refl
each_found (Some version) UserNumber h = refl
each_found (Some version) HomeFolder h = refl
each_found (Some version) NamedPath h = refl
each_found (Some version) GroupName h = refl
each_found (Some version) GroupNumber h = refl
each_found (Some version) Shell h = refl

-- the item that a search finds passes its test
found_passes : {X : Type 0} (test : X → Bool) (xs : List X) (x : X) → find test xs ≡ Some x → test x ≡ true
found_passes test [] x e = absurd (none-some x e)
found_passes test (first ∷ xs) x e =
    elim (test first) as (λ v. test first ≡ v → cond v (Some first) (find test xs) ≡ Some x → test x ≡ true)
    [ true ↦ λ t e. ap test (sym (same_Some first x e)) ∙ t | false ↦ λ f e. found_passes test xs x e ] refl e

letter_known : (systemd : Option Version) (letter : ℕ) (specifier : Specifier) → specifier_at systemd letter ≡ Some specifier
    → letter_of specifier ≡ letter
letter_known systemd letter specifier e =
    eqb-true (letter_of specifier) letter (found_passes (λ s. eqb (letter_of s) letter) (specifiers systemd) specifier e)

-- a byte other than `%` is a piece of its own
pieces_of_literal : (systemd : Option Version) (byte : ℕ) (value : List ℕ) → eqb byte percent ≡ false
    → pieces_of systemd (byte ∷ value) ≡ onto_pieces (Some (literal byte)) (pieces_of systemd value)
pieces_of_literal systemd byte [] e =
    ap (λ v. cond v (cond (is_known systemd) (Some (last_percent ∷ [])) None) (Some (literal byte ∷ []))) e
pieces_of_literal systemd byte (next ∷ value) e =
    ap (λ v. cond v (onto_pieces (percent_piece systemd next) (pieces_of systemd value))
    (onto_pieces (Some (literal byte)) (pieces_of systemd (next ∷ value)))) e

-- a character that stays makes no specifier
no_specifier : (a : Bool) (found : Option Specifier) → (a && not (is_some found)) ≡ true → found ≡ None
no_specifier a None h = refl
no_specifier a (Some specifier) h = absurd (false≢true (and_parts a false h).1)

kept_piece : (systemd : Option Version) (letter : ℕ) → is_kept systemd letter ≡ true → percent_piece systemd letter ≡ Some (kept letter)
kept_piece systemd letter h =
    ap (letter_piece systemd letter) (no_specifier _ (specifier_at systemd letter) h)
    ∙ ap (λ v. cond v (Some (kept letter)) None) h

nothing_there : (systemd : Option Version) (pieces : List Piece) → is_last systemd pieces ≡ true → pieces ≡ []
nothing_there systemd [] h = refl
nothing_there systemd (piece ∷ pieces) h = absurd (false≢true h)

known_at_end : (systemd : Option Version) (pieces : List Piece) → is_last systemd pieces ≡ true → is_known systemd ≡ true
known_at_end systemd [] h = h
known_at_end systemd (piece ∷ pieces) h = absurd (false≢true h)

-- the text of pieces is read as these pieces
pieces_read : (systemd : Option Version) (pieces : List Piece) → are_pieces systemd pieces ≡ true
    → pieces_of systemd (flat_map piece_text pieces) ≡ Some pieces
pieces_read systemd [] h = refl
pieces_read systemd (specified specifier ∷ pieces) h =
    let both = and_parts (is_some (specifier_at systemd (letter_of specifier))) (are_pieces systemd pieces) h in
    ap (λ text. pieces_of systemd (text ++ flat_map piece_text pieces)) (each_written specifier)
    ∙ ap (λ s. onto_pieces (letter_piece systemd (letter_of specifier) s) (pieces_of systemd (flat_map piece_text pieces)))
    (each_found systemd specifier both.0)
    ∙ ap (onto_pieces (Some (specified specifier))) (pieces_read systemd pieces both.1)
pieces_read systemd (literal byte ∷ pieces) h =
    let both = and_parts (not (eqb byte percent)) (are_pieces systemd pieces) h in
    pieces_of_literal systemd byte (flat_map piece_text pieces) (not-true (eqb byte percent) both.0)
    ∙ ap (onto_pieces (Some (literal byte))) (pieces_read systemd pieces both.1)
pieces_read systemd (kept letter ∷ pieces) h =
    let both = and_parts (is_kept systemd letter) (are_pieces systemd pieces) h in
    ap (λ piece. onto_pieces piece (pieces_of systemd (flat_map piece_text pieces))) (kept_piece systemd letter both.0)
    ∙ ap (onto_pieces (Some (kept letter))) (pieces_read systemd pieces both.1)
pieces_read systemd (last_percent ∷ pieces) h =
    let both = and_parts (is_last systemd pieces) (are_pieces systemd pieces) h in
    ap (λ more. pieces_of systemd (percent ∷ flat_map piece_text more)) (nothing_there systemd pieces both.0)
    ∙ ap (λ v. cond v (Some (last_percent ∷ [])) None) (known_at_end systemd pieces both.0)
    ∙ ap (λ more. Some (last_percent ∷ more)) (sym (nothing_there systemd pieces both.0))

-- these pieces spell a value
pub record Spell (systemd : Option Version) (value : List ℕ) (pieces : List Piece) : Type 0 where
  pub well_formed : are_pieces systemd pieces ≡ true
  pub spelled : value ≡ flat_map piece_text pieces

with_specifier : (systemd : Option Version) (letter : ℕ) (value : List ℕ) (pieces : List Piece) (specifier : Specifier)
    → specifier_at systemd letter ≡ Some specifier → Spell systemd value pieces
    → Spell systemd (percent ∷ letter ∷ value) (specified specifier ∷ pieces)
with_specifier systemd letter value pieces specifier found spell = record {
  well_formed =
      and_from (is_some (specifier_at systemd (letter_of specifier))) (are_pieces systemd pieces)
      (ap (λ l. is_some (specifier_at systemd l)) (letter_known systemd letter specifier found) ∙ ap is_some found) spell.well_formed;
  spelled =
      ap (λ rest. percent ∷ letter ∷ rest) spell.spelled
      ∙ ap (λ l. percent ∷ l ∷ flat_map piece_text pieces) (sym (letter_known systemd letter specifier found))
      ∙ ap (λ text. text ++ flat_map piece_text pieces) (sym (each_written specifier));
}

with_kept : (systemd : Option Version) (letter : ℕ) (value : List ℕ) (pieces : List Piece) → is_kept systemd letter ≡ true
    → Spell systemd value pieces → Spell systemd (percent ∷ letter ∷ value) (kept letter ∷ pieces)
with_kept systemd letter value pieces stays spell = record {
  well_formed = and_from (is_kept systemd letter) (are_pieces systemd pieces) stays spell.well_formed;
  spelled = ap (λ rest. percent ∷ letter ∷ rest) spell.spelled;
}

with_literal : (systemd : Option Version) (byte : ℕ) (value : List ℕ) (pieces : List Piece) → eqb byte percent ≡ false
    → Spell systemd value pieces → Spell systemd (byte ∷ value) (literal byte ∷ pieces)
with_literal systemd byte value pieces apart spell = record {
  well_formed = and_from (not (eqb byte percent)) (are_pieces systemd pieces) (ap not apart) spell.well_formed;
  spelled = ap (λ rest. byte ∷ rest) spell.spelled;
}

after_literal : (systemd : Option Version) (byte : ℕ) (value : List ℕ) (pieces : List Piece) (rest : Option (List Piece))
    → eqb byte percent ≡ false → ((more : List Piece) → rest ≡ Some more → Spell systemd value more)
    → onto_pieces (Some (literal byte)) rest ≡ Some pieces → Spell systemd (byte ∷ value) pieces
after_literal systemd byte value pieces None apart known e = absurd (none-some pieces e)
after_literal systemd byte value pieces (Some more) apart known e =
    subst (Spell systemd (byte ∷ value)) (same_Some (literal byte ∷ more) pieces e)
    (with_literal systemd byte value more apart (known more refl))

-- a `%` and the character after it spell a piece
onto_some : (systemd : Option Version) (letter : ℕ) (value : List ℕ) (pieces : List Piece) (piece : Piece) (rest : Option (List Piece))
    → ((more : List Piece) → rest ≡ Some more → Spell systemd (percent ∷ letter ∷ value) (piece ∷ more))
    → onto_pieces (Some piece) rest ≡ Some pieces → Spell systemd (percent ∷ letter ∷ value) pieces
onto_some systemd letter value pieces piece None known e = absurd (none-some pieces e)
onto_some systemd letter value pieces piece (Some more) known e =
    subst (Spell systemd (percent ∷ letter ∷ value)) (same_Some (piece ∷ more) pieces e) (known more refl)

after_percent : (systemd : Option Version) (letter : ℕ) (value : List ℕ) (pieces : List Piece) (found : Option Specifier)
    (rest : Option (List Piece)) → specifier_at systemd letter ≡ found
    → ((more : List Piece) → rest ≡ Some more → Spell systemd value more)
    → onto_pieces (letter_piece systemd letter found) rest ≡ Some pieces → Spell systemd (percent ∷ letter ∷ value) pieces
after_percent systemd letter value pieces (Some specifier) rest found known e =
    onto_some systemd letter value pieces (specified specifier) rest
    (λ more is. with_specifier systemd letter value more specifier found (known more is)) e
after_percent systemd letter value pieces None rest found known e =
    elim (is_kept systemd letter) as (λ v. is_kept systemd letter ≡ v → onto_pieces (cond v (Some (kept letter)) None) rest ≡ Some pieces
    → Spell systemd (percent ∷ letter ∷ value) pieces) [
      | true ↦ λ t e.
          onto_some systemd letter value pieces (kept letter) rest
          (λ more is. with_kept systemd letter value more t (known more is)) e
      | false ↦ λ f e. absurd (none-some pieces e)
    ]
    refl e

-- a last byte spells its pieces
last_found : (systemd : Option Version) (byte : ℕ) (pieces : List Piece) → last_pieces systemd byte ≡ Some pieces
    → Spell systemd (byte ∷ []) pieces
last_found systemd byte pieces e =
    elim (eqb byte percent) as
    (λ v. eqb byte percent ≡ v → cond v (cond (is_known systemd) (Some (last_percent ∷ [])) None) (Some (literal byte ∷ [])) ≡ Some pieces
    → Spell systemd (byte ∷ []) pieces) [
      | true ↦ λ t e.
          let both = cond_some (is_known systemd) (last_percent ∷ []) pieces e in
          subst (λ b. Spell systemd (b ∷ []) pieces) (sym (eqb-true byte percent t))
          (subst (Spell systemd (percent ∷ [])) both.1 (record {
            well_formed = ap (λ v. v && true) both.0;
            spelled = refl;
          }))
      | false ↦ λ f e.
          after_literal systemd byte [] pieces (Some []) f
          (λ more g. subst (Spell systemd []) (same_Some [] more g) (record { well_formed = refl; spelled = refl })) e
    ]
    refl e

pieces_found : (systemd : Option Version) (value : List ℕ) (pieces : List Piece) → pieces_of systemd value ≡ Some pieces
    → Spell systemd value pieces
pieces_found systemd [] pieces e = subst (Spell systemd []) (same_Some [] pieces e) (record { well_formed = refl; spelled = refl })
pieces_found systemd (byte ∷ []) pieces e = last_found systemd byte pieces e
pieces_found systemd (byte ∷ next ∷ value) pieces e =
    elim (eqb byte percent) as
    (λ v. eqb byte percent ≡ v → cond v (onto_pieces (percent_piece systemd next) (pieces_of systemd value))
    (onto_pieces (Some (literal byte)) (pieces_of systemd (next ∷ value))) ≡ Some pieces → Spell systemd (byte ∷ next ∷ value) pieces) [
      | true ↦ λ t e.
          subst (λ b. Spell systemd (b ∷ next ∷ value) pieces) (sym (eqb-true byte percent t))
          (after_percent systemd next value pieces (specifier_at systemd next) (pieces_of systemd value) refl
          (λ more g. pieces_found systemd value more g) e)
      | false ↦ λ f e. after_literal systemd byte (next ∷ value) pieces (pieces_of systemd (next ∷ value)) f
          (λ more g. pieces_found systemd (next ∷ value) more g) e
    ]
    refl e

expands_from : (systemd : Option Version) (name : Name) (value text : List ℕ) → expansion systemd name value ≡ Some text
    → Expands systemd name value text
expands_from systemd name value text e =
    option_and_then_some if_text (short_bytes systemd name value) text e
    (λ bytes made_short checked.
    option_and_then_some if_short (expanded_bytes systemd name value) bytes made_short
    (λ whole made fits.
    option_and_then_some (pieces_meaning name) (pieces_of systemd value) whole made
    (λ pieces read stands.
    let both = cond_some (is_utf8 bytes) bytes text checked in
    let size = cond_some (leb (length whole) longest_value) whole bytes fits in
    let spell = pieces_found systemd value pieces read in
    record {
      pieces = pieces;
      well_formed = spell.well_formed;
      spelled = spell.spelled;
      meant = stands ∙ ap Some (size.1 ∙ both.1);
      is_text = ap is_utf8 (sym both.1) ∙ both.0;
      short = leb-true (length text) longest_value (ap (λ bytes. leb (length bytes) longest_value) (sym (size.1 ∙ both.1)) ∙ size.0);
    })))

expansion_from : (systemd : Option Version) (name : Name) (value text : List ℕ) → Expands systemd name value text
    → expansion systemd name value ≡ Some text
expansion_from systemd name value text x =
    ap (λ pieces. option_and_then if_text (option_and_then if_short (option_and_then (pieces_meaning name) pieces)))
    (ap (pieces_of systemd) x.spelled ∙ pieces_read systemd x.pieces x.well_formed)
    ∙ ap (λ made. option_and_then if_text (option_and_then if_short made)) x.meant
    ∙ ap (λ v. option_and_then if_text (cond v (Some text) None)) (le-leb (length text) longest_value x.short)
    ∙ ap (λ v. cond v (Some text) None) x.is_text

-- a value is expanded to the joined texts of its pieces
pub expanding : (systemd : Option Version) (name : Name) (value text : List ℕ)
    → (expansion systemd name value ≡ Some text) ↔ Expands systemd name value text
expanding systemd name value text = (expands_from systemd name value text, expansion_from systemd name value text)

-- the first piece is taken off: a literal byte
taken_literal : (name : Name) (byte : ℕ) (pieces : Option (List Piece))
    → option_and_then (pieces_meaning name) (onto_pieces (Some (literal byte)) pieces)
    ≡ onto (Some byte) (option_and_then (pieces_meaning name) pieces)
taken_literal name byte None = refl
taken_literal name byte (Some pieces) =
    elim (pieces_meaning name pieces) as (λ o. option_append (Some (byte ∷ [])) o ≡ onto (Some byte) o) [ None ↦ refl | Some text ↦ refl ]

pub expanded_literal : (systemd : Option Version) (name : Name) (byte : ℕ) (value : List ℕ) → eqb byte percent ≡ false
    → expanded_bytes systemd name (byte ∷ value) ≡ onto (Some byte) (expanded_bytes systemd name value)
expanded_literal systemd name byte value e =
    ap (option_and_then (pieces_meaning name)) (pieces_of_literal systemd byte value e) ∙ taken_literal name byte (pieces_of systemd value)

-- the first piece is taken off: a `%` and the character after it
taken_percent : (name : Name) (piece : Option Piece) (pieces : Option (List Piece))
    → option_and_then (pieces_meaning name) (onto_pieces piece pieces)
    ≡ option_append (option_and_then (piece_meaning name) piece) (option_and_then (pieces_meaning name) pieces)
taken_percent name None pieces = refl
taken_percent name (Some piece) None = sym (option_append_none (piece_meaning name piece))
taken_percent name (Some piece) (Some pieces) = refl

pub expanded_letter : (systemd : Option Version) (name : Name) (letter : ℕ) (value : List ℕ)
    → expanded_bytes systemd name (percent ∷ letter ∷ value)
    ≡ option_append (letter_meaning systemd name letter) (expanded_bytes systemd name value)
expanded_letter systemd name letter value = taken_percent name (percent_piece systemd letter) (pieces_of systemd value)

-- the first piece is taken off: a `%` at the end
pub expanded_last : (systemd : Option Version) (name : Name)
    → expanded_bytes systemd name (percent ∷ []) ≡ option_append (last_meaning systemd) (expanded_bytes systemd name [])
expanded_last None name = refl
expanded_last (Some version) name = refl
