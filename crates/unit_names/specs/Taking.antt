-- The answers of the helpers that expand a value piece by piece.
use Rattle.std.specs.Prelude.{Vec, String, string_bytes, ◌≡◌, ℕ, ◌<◌, Option, Some, None, Result, Ok, Err, List, [], length}
use Rattle.std.specs.Fmt.{option_append}
use Rattle.std.specs.declared.alloc.Global.{Global}
use Rattle.unit_names.specs.Names.{Name}
use Rattle.unit_names.specs.Unescaping.{unescaped, onto}
use Rattle.unit_names.specs.Expansion.{expanded_bytes}
use Rattle.unit_names.specs.declared.expansion.ExpandError.{ExpandError}
use Rattle.unit_names.specs.declared.expansion.ExpandError.TheVariants.{Specifier as Refused, Memory}
use Rattle.unit_names.specs.declared.version.Version.{Version}
use denote.Ref.{Bor}

-- the helper takes the first piece of an escaped text: it returns the byte of the piece and the text after it
abbrev pub TakesPart : List ℕ → Result (Option (ℕ × Bor (List ℕ))) ExpandError → Type 0
TakesPart text (Ok None) = text ≡ []
TakesPart text (Ok (Some taken)) = (unescaped text ≡ onto (Some taken.0) (unescaped taken.1.now)) × (length taken.1.now < length text)
TakesPart text (Err Refused) = unescaped text ≡ None
TakesPart text (Err Memory) = ⊥

-- the helper appends the meant bytes to the old ones, or refuses if nothing is meant
abbrev pub AddsMeaning : List ℕ → Option (List ℕ) → Result (Unit {0}) ExpandError → List ℕ → Type 0
AddsMeaning old meant (Ok done) new = option_append (Some old) meant ≡ Some new
AddsMeaning old meant (Err Refused) new = meant ≡ None
AddsMeaning old meant (Err Memory) new = Unit {0}

-- the helper appends the bytes of the first piece of a value, and returns the value after that piece
abbrev pub TakesPiece : Option Version → Name → List ℕ → List ℕ → Result (Bor (List ℕ)) ExpandError → List ℕ → Type 0
TakesPiece systemd name value old (Ok rest) new =
    (option_append (Some old) (expanded_bytes systemd name value) ≡ option_append (Some new) (expanded_bytes systemd name rest.now)) ×
    (length rest.now < length value)
TakesPiece systemd name value old (Err Refused) new = expanded_bytes systemd name value ≡ None
TakesPiece systemd name value old (Err Memory) new = Unit {0}

-- the helper returns the wanted bytes, or refuses if there are no such bytes
abbrev pub GivesBytes : Option (List ℕ) → Result (Vec ℕ Global) ExpandError → Type 0
GivesBytes wanted (Ok bytes) = wanted ≡ Some bytes.items
GivesBytes wanted (Err Refused) = wanted ≡ None
GivesBytes wanted (Err Memory) = Unit {0}

-- the helper returns the wanted text, or refuses if there is no such text
abbrev pub GivesText : Option (List ℕ) → Result (String Global) ExpandError → Type 0
GivesText wanted (Ok text) = wanted ≡ Some (string_bytes text)
GivesText wanted (Err Refused) = wanted ≡ None
GivesText wanted (Err Memory) = Unit {0}
