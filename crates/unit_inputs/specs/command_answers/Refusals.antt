-- The lines of refused inputs.
use Rattle.std.specs.Prelude.{ℕ, List, [], ◌∷◌, ◌++◌, codes}
use Rattle.exec_settings.specs.text_forms.Escaped.{escaped_word}

-- the line names the refused input as an escaped word, and says why it is refused
abbrev pub refused_line : List ℕ → List ℕ → List ℕ
refused_line what why = codes "refused " ++ escaped_word what ++ codes " " ++ why ++ 10 ∷ []
