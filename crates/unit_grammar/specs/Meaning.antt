-- A joined line has its meaning from the text between the white space at its ends (systemd.syntax(7)).
use Rattle.std.specs.Prelude.{◌≡◌, ◌≢◌, ℕ, ◌==◌, not, true, List, [], ◌∷◌, ◌++◌}
use Rattle.std.specs.List.{list_all}
use Rattle.unit_grammar.specs.Spaces.{trim}
use Rattle.unit_grammar.specs.Kinds.{Kind, skipped, header, bad_header, no_equals, assigns}

-- `[`
abbrev pub opening : ℕ
opening = 91

-- `]`
abbrev pub closing : ℕ
closing = 93

-- `=`
abbrev pub equals : ℕ
equals = 61

-- the text begins a header
abbrev pub BeginsHeader : List ℕ → Type 0
BeginsHeader text = (rest : List ℕ) × (text ≡ opening ∷ rest)

-- the text is no header, and its first `=` separates a key, which is not empty, from a value
pub record Assigns (text key value : List ℕ) : Type 0 where
  pub left : List ℕ
  pub right : List ℕ
  pub cut : text ≡ left ++ equals ∷ right
  pub first : list_all (λ byte. not (byte == equals)) left ≡ true
  pub no_header : ¬ (BeginsHeader text)
  pub key_is : key ≡ trim left
  pub value_is : value ≡ trim right
  pub filled : key ≢ []

-- an empty text is skipped, a header is between brackets, an assignment has its `=`, and any other text lacks `=` or the key before it
abbrev pub Means : List ℕ → Kind → Type 0
Means text skipped = text ≡ []
Means text (header section) = text ≡ opening ∷ (section ++ closing ∷ [])
Means text bad_header = BeginsHeader text × ((section : List ℕ) → text ≢ opening ∷ (section ++ closing ∷ []))
Means text (assigns key value) = Assigns text key value
Means text no_equals = (text ≢ []) × (¬ (BeginsHeader text)) × ((key value : List ℕ) → ¬ (Assigns text key value))
