-- systemd.syntax(7): a boolean is one of these words, in any ASCII case.
use Rattle.std.specs.Prelude.{ℕ, Bool, true, false, if◌then◌else◌, List, [], ◌∷◌, codes, Option, Some, None}
use Rattle.std.specs.Str.{str_eq_ignore_ascii_case}
use Rattle.std.specs.List.{list_any}

abbrev pub true_words : List (List ℕ)
true_words = codes "1" ∷ codes "yes" ∷ codes "true" ∷ codes "on" ∷ codes "y" ∷ codes "t" ∷ []

abbrev pub false_words : List (List ℕ)
false_words = codes "0" ∷ codes "no" ∷ codes "false" ∷ codes "off" ∷ codes "n" ∷ codes "f" ∷ []

-- the text is one of the words, in any case
unfoldable pub is_one_of : List (List ℕ) → List ℕ → Bool
is_one_of words text = list_any (λ word. str_eq_ignore_ascii_case word text) words

unfoldable pub bool_value : List ℕ → Option Bool
bool_value text = if is_one_of true_words text then Some true else if is_one_of false_words text then Some false else None
