-- A text of lines is handed to a sink in pieces: each line with its line feed is one piece.
use Rattle.std.specs.Prelude.{◌≡◌, ◌⊎◌, ◌==◌, ℕ, Bool, false, List, [], ◌∷◌, ◌++◌}
use Rattle.std.specs.List.{list_any}
use Rattle.exec_settings.specs.host_io.Puts.{HandsPart, HandsWhole, Put}
use Rattle.exec_settings.specs.host_io.declared.writing.SinkError.{SinkError}
use Rattle.exec_settings.specs.host_io.declared.writing.SinkError.TheVariants.{Memory}

-- whether the text has a line feed
abbrev pub has_feed : List ℕ → Bool
has_feed text = list_any (λ byte. byte == 10) text

-- a line ends in a line feed and has no other
pub record IsLine (line : List ℕ) : Type 0 where
  pub words : List ℕ
  pub ends_so : words ++ 10 ∷ [] ≡ line
  pub no_other : has_feed words ≡ false

-- the text ends in a line feed
pub record EndsLine (text : List ℕ) : Type 0 where
  pub front : List ℕ
  pub ends_so : front ++ 10 ∷ [] ≡ text

-- the text consists of whole lines: it is empty, or ends in a line feed
abbrev pub IsOfLines : List ℕ → Type 0
IsOfLines text = (text ≡ []) ⊎ EndsLine text

-- the lines, one after the other
abbrev pub joined : List (List ℕ) → List ℕ
joined [] = []
joined (line ∷ lines) = line ++ joined lines

-- these puts hand each line to the sink as one piece, one line after the other
abbrev pub HandsEach : {S : Type 0} → (S → Put → S → Type 0) → S → S → List (List ℕ) → Type 0
HandsEach puts before now [] = now ≡ before
HandsEach {S} puts before now (line ∷ lines) =
    (next : S) × IsLine line × HandsWhole puts before next line × HandsEach puts next now lines

-- all lines of a text were handed to the sink, each as one piece
pub record HandsLines {S : Type 0} (puts : S → Put → S → Type 0) (before now : S) (text : List ℕ) : Type 0 where
  pub lines : List (List ℕ)
  pub are_the_text : joined lines ≡ text
  pub each : HandsEach puts before now lines

-- the first line of the rest was handed to the sink as one piece, up to a put that failed
pub record HandsNext {S : Type 0} (puts : S → Put → S → Type 0) (before now : S) (left : List ℕ) (error : SinkError) : Type 0 where
  pub line : List ℕ
  pub rest : List ℕ
  pub are_left : line ++ rest ≡ left
  pub is_line : IsLine line
  pub part : HandsPart puts before now line error

-- the puts stopped because memory ran out, or because a put of the next line failed
abbrev pub StopsAt : {S : Type 0} → (S → Put → S → Type 0) → S → S → List ℕ → SinkError → Type 0
StopsAt puts before now left error = ((now ≡ before) × (error ≡ Memory)) ⊎ HandsNext puts before now left error

-- the lines of a text were handed to the sink, each as one piece, from the first line up to an error
pub record HandsSome {S : Type 0} (puts : S → Put → S → Type 0) (before now : S) (text : List ℕ) (error : SinkError) : Type 0 where
  pub lines : List (List ℕ)
  pub left : List ℕ
  pub are_the_text : joined lines ++ left ≡ text
  pub between : S
  pub each : HandsEach puts before between lines
  pub stops : StopsAt puts between now left error

-- all lines of a text were handed to the sink, each as one piece, and so was its unended last line
pub record HandsText {S : Type 0} (puts : S → Put → S → Type 0) (before now : S) (text : List ℕ) : Type 0 where
  pub front : List ℕ
  pub last : List ℕ
  pub are_the_text : front ++ last ≡ text
  pub no_line : has_feed last ≡ false
  pub between : S
  pub lines : HandsLines puts before between front
  pub behind : HandsWhole puts between now last

-- all lines of a text were handed to the sink, and so was its unended last line, up to a put that failed
pub record HandsLast {S : Type 0} (puts : S → Put → S → Type 0) (before now : S) (text : List ℕ) (error : SinkError) : Type 0 where
  pub front : List ℕ
  pub last : List ℕ
  pub are_the_text : front ++ last ≡ text
  pub no_line : has_feed last ≡ false
  pub between : S
  pub lines : HandsLines puts before between front
  pub part : HandsPart puts between now last error
