-- A text is split up to some symbol.
use Rattle.std.specs.Prelude.{ℕ, if◌then◌else◌, is_some, List, [], ◌∷◌, ◌++◌, map, Vec, String, string_bytes, Option, Some, None, Result}
use Rattle.std.specs.Prelude.{Err}
use Rattle.std.specs.declared.alloc.Global.{Global}
use Rattle.std.specs.Option.{option_map}
use Rattle.text_forms.specs.declared.error.WordsError.{WordsError}
use Rattle.text_forms.specs.declared.error.WordsError.TheVariants.{Escape, Quote, NotText}
use Rattle.text_forms.specs.declared.splitting.SoFar.{SoFar}
use Rattle.text_forms.specs.declared.splitting.symbols.Symbol.{Symbol}
use Rattle.text_forms.specs.declared.splitting.marks.Mark.{Mark}
use Rattle.text_forms.specs.declared.splitting.marks.Mark.TheVariants.{Part, Edge}
use Rattle.text_forms.specs.Words.{marks_from, open_at_end, words_in, text_only}

abbrev pub begun_bytes : Option (Vec ℕ Global) → Option (List ℕ)
begun_bytes begun = option_map (λ bytes. bytes.items) begun

-- the marks of the word that has begun
abbrev pub marks_of : Option (List ℕ) → List Mark
marks_of None = []
marks_of (Some bytes) = Edge ∷ map Part bytes

-- the whole words, followed by more words
abbrev pub found : Option (Vec (String Global) Global) → List (List ℕ) → Result (List (List ℕ)) WordsError
found None more = Err NotText
found (Some words) more = text_only (map string_bytes words.items ++ more)

-- the words of the text with these symbols after it
abbrev pub comes_to : SoFar → List Symbol → Result (List (List ℕ)) WordsError
comes_to so_far symbols =
    if is_some (open_at_end so_far.opened symbols) then Err Quote
    else found so_far.whole (words_in (marks_of (begun_bytes so_far.begun) ++ marks_from so_far.opened symbols))

-- the words of the text with this text after it, if its escapes can be read
abbrev pub splits_on : SoFar → Option (List Symbol) → Result (List (List ℕ)) WordsError
splits_on so_far None = Err Escape
splits_on so_far (Some symbols) = comes_to so_far symbols
