-- Sets of texts.
use Rattle.std.specs.Prelude.{ℕ, Bool, List}
use Rattle.std.specs.List.{list_any}
use Rattle.std.specs.Str.{bytes_eq}

-- the text is in the set
abbrev pub has_text : List (List ℕ) → List ℕ → Bool
has_text texts text = list_any (λ one. bytes_eq text one) texts
