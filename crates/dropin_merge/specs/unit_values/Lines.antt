-- A line of words that begins with `~` is inverted (systemd.exec(5), SystemCallFilter=).
use Rattle.std.specs.Prelude.{ℕ, false, is_some, Option, Some, None, Result, Ok, Err, List, [], ◌∷◌, unwrap_or}
use Rattle.std.specs.Option.{option_map}
use Rattle.unit_grammar.specs.text_forms.Words.{words_of}
use Rattle.unit_grammar.specs.text_forms.declared.error.WordsError.{WordsError}
use Rattle.unit_grammar.specs.Kinds.{behind}
use Rattle.dropin_merge.specs.declared.unit_values.lines.Line.{Line}

abbrev pub tilde : ℕ
tilde = 126

abbrev pub words_if : Result (List (List ℕ)) WordsError → Option (List (List ℕ))
words_if (Ok words) = Some words
words_if (Err fault) = None

-- a `~` at the front is taken off, and the rest is split into words; None if it cannot be split
unfoldable pub line_of : List ℕ → Option Line
line_of text =
    option_map (λ words. record { is_inverted = is_some (behind tilde text); words = words })
    (words_if (words_of (unwrap_or (behind tilde text) text)))

-- an empty value is a line without words
abbrev pub listed_line : List ℕ → Option Line
listed_line [] = Some (record { is_inverted = false; words = [] })
listed_line (byte ∷ text) = line_of (byte ∷ text)
