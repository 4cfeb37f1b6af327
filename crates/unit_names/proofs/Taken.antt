-- A helper takes a piece off a text, and the joined text stays the same.
use Rattle.std.proofs.Common.{◌≡◌, ◌≢◌, ℕ, Option, Some, None, Ok, Err, List, [], ◌∷◌, ◌++◌, sym, ap, ◌∙◌, subst}
use Rattle.std.proofs.Common.{append_assoc}
use Rattle.std.specs.Option.{option_map}
use Rattle.std.specs.Fmt.{option_append}
use Rattle.std.proofs.lemmas.Bool.{ne_eqb}
use Rattle.std.proofs.lemmas.Option.{none-some, same_Some}
use Rattle.unit_names.specs.Names.{Name}
use Rattle.unit_names.specs.Unescaping.{slash, unescaped}
use Rattle.unit_names.specs.Specifiers.{percent, behind_slashes, rooted}
use Rattle.unit_names.specs.Expansion.{expanded_bytes, letter_meaning, last_meaning}
use Rattle.unit_names.specs.Taking.{TakesPart, TakesPiece, AddsMeaning}
use Rattle.unit_names.specs.declared.version.Version.{Version}
use Rattle.unit_names.specs.declared.expansion.ExpandError.{ExpandError}
use Rattle.unit_names.specs.declared.expansion.ExpandError.TheVariants.{Specifier as Refused, Memory}
use Rattle.unit_names.proofs.Appending.{option_append-onto, option_append_assoc, missing_more}
use Rattle.unit_names.proofs.Pieces.{expanded_letter, expanded_last, expanded_literal}
use denote.Ref.{Bor}

-- a piece that is refused makes the whole text refused
pub part_refused : (old new bytes text rest : List ℕ) (error : ExpandError)
    → option_append (Some bytes) (unescaped rest) ≡ option_append (Some old) (unescaped text) → TakesPart rest (Err error)
    → AddsMeaning old (unescaped text) (Err error) new
part_refused old new bytes text rest Refused e taken = missing_more old (unescaped text) (sym e ∙ ap (option_append (Some bytes)) taken)
part_refused old new bytes text rest Memory e taken = tt

-- a piece that is taken gives its byte
pub part_taken : (bytes new rest : List ℕ) (first : Option (ℕ × Bor (List ℕ))) (byte : ℕ) (behind : Bor (List ℕ))
    → TakesPart rest (Ok first) → first ≡ Some (byte, behind) → new ≡ bytes ++ byte ∷ []
    → option_append (Some new) (unescaped behind.now) ≡ option_append (Some bytes) (unescaped rest)
part_taken bytes new rest first byte behind taken is pushed =
    let one : TakesPart rest (Ok (Some (byte, behind))) = subst (λ f. TakesPart rest (Ok f)) is taken in
    ap (λ n. option_append (Some n) (unescaped behind.now)) pushed
    ∙ sym (option_append-onto bytes byte (unescaped behind.now))
    ∙ sym (ap (option_append (Some bytes)) one.0)

-- a `%` and its character that are taken give their text
pub letter_taken : (systemd : Option Version) (name : Name) (old new behind rest : List ℕ) (letter : ℕ) → behind ≡ letter ∷ rest
    → option_append (Some old) (letter_meaning systemd name letter) ≡ Some new
    → option_append (Some old) (expanded_bytes systemd name (percent ∷ behind))
    ≡ option_append (Some new) (expanded_bytes systemd name rest)
letter_taken systemd name old new behind rest letter split meant =
    ap (λ b. option_append (Some old) (expanded_bytes systemd name (percent ∷ b))) split
    ∙ ap (option_append (Some old)) (expanded_letter systemd name letter rest)
    ∙ option_append_assoc old (letter_meaning systemd name letter) (expanded_bytes systemd name rest)
    ∙ ap (λ o. option_append o (expanded_bytes systemd name rest)) meant

-- a `%` and its character that are refused make the whole value refused
pub letter_refused : (systemd : Option Version) (name : Name) (old new behind rest : List ℕ) (letter : ℕ) (error : ExpandError)
    → behind ≡ letter ∷ rest → AddsMeaning old (letter_meaning systemd name letter) (Err error) new
    → TakesPiece systemd name (percent ∷ behind) old (Err error) new
letter_refused systemd name old new behind rest letter Refused split refused =
    ap (λ b. expanded_bytes systemd name (percent ∷ b)) split
    ∙ expanded_letter systemd name letter rest
    ∙ ap (λ meant. option_append meant (expanded_bytes systemd name rest)) refused
letter_refused systemd name old new behind rest letter Memory split refused = tt

-- a path is taken in two parts: a slash, and the text without its slashes at the front
pub path_taken : (old begun middle new plain : List ℕ) (meant : Option (List ℕ)) → begun ≡ []
    → option_append (Some begun) meant ≡ Some plain → middle ≡ old ++ slash ∷ [] → new ≡ middle ++ behind_slashes plain
    → option_append (Some old) (option_map rooted meant) ≡ Some new
path_taken old begun middle new plain None empty e slashed pushed = absurd (none-some plain e)
path_taken old begun middle new plain (Some text) empty e slashed pushed =
    ap (λ t. Some (old ++ rooted t)) (ap (λ b. b ++ text) (sym empty) ∙ same_Some (begun ++ text) plain e)
    ∙ ap Some (sym (append_assoc old (slash ∷ []) (behind_slashes plain)))
    ∙ ap (λ m. Some (m ++ behind_slashes plain)) (sym slashed)
    ∙ ap Some (sym pushed)

-- a `%` at the end that is taken gives itself
pub last_taken : (systemd : Option Version) (name : Name) (old new behind : List ℕ) → behind ≡ []
    → option_append (Some old) (last_meaning systemd) ≡ Some new
    → option_append (Some old) (expanded_bytes systemd name (percent ∷ behind))
    ≡ option_append (Some new) (expanded_bytes systemd name behind)
last_taken systemd name old new behind none meant =
    ap (λ b. option_append (Some old) (expanded_bytes systemd name (percent ∷ b))) none
    ∙ ap (option_append (Some old)) (expanded_last systemd name)
    ∙ option_append_assoc old (last_meaning systemd) (expanded_bytes systemd name [])
    ∙ ap (λ o. option_append o (expanded_bytes systemd name [])) meant
    ∙ ap (λ b. option_append (Some new) (expanded_bytes systemd name b)) (sym none)

-- a byte that is taken gives itself
pub literal_taken : (systemd : Option Version) (name : Name) (old new behind : List ℕ) (byte : ℕ) → byte ≢ percent
    → new ≡ old ++ byte ∷ []
    → option_append (Some old) (expanded_bytes systemd name (byte ∷ behind))
    ≡ option_append (Some new) (expanded_bytes systemd name behind)
literal_taken systemd name old new behind byte apart pushed =
    ap (option_append (Some old)) (expanded_literal systemd name byte behind (ne_eqb byte percent apart))
    ∙ option_append-onto old byte (expanded_bytes systemd name behind)
    ∙ ap (λ n. option_append (Some n) (expanded_bytes systemd name behind)) (sym pushed)
