-- The answers of splitting. Memory may run out at any text.
use Rattle.std.specs.Prelude.{◌≡◌, ⊤, ℕ, List, map, Vec, String, string_bytes, Result, Ok, Err}
use Rattle.std.specs.declared.alloc.Global.{Global}
use Rattle.text_forms.specs.declared.error.WordsError.{WordsError}
use Rattle.text_forms.specs.declared.error.WordsError.TheVariants.{Memory}
use Rattle.text_forms.specs.Words.{words_of}

abbrev pub MakesWords : Result (List (List ℕ)) WordsError → Result (Vec (String Global) Global) WordsError → Type 0
MakesWords found (Ok words) = found ≡ Ok (map string_bytes words.items)
MakesWords found (Err Memory) = ⊤
MakesWords found (Err fault) = found ≡ Err fault

-- the words of the text, or its first fault
abbrev pub Splits : List ℕ → Result (Vec (String Global) Global) WordsError → Type 0
Splits text answer = MakesWords (words_of text) answer
