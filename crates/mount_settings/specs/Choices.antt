-- A value that is a boolean or a word of a short list (systemd.exec(5)).
use Rattle.std.specs.Prelude.{ℕ, Bool, true, false, if◌then◌else◌, List, [], ◌∷◌, Option, Some, None}
use Rattle.std.specs.Str.{bytes_eq}
use Rattle.dropin_merge.specs.text_forms.Booleans.{bool_value}

-- the value of the first row with this word
abbrev pub beside : {T : Type 0} → List (List ℕ × T) → List ℕ → Option T
beside [] text = None
beside (row ∷ rows) text = if bytes_eq row.0 text then Some row.1 else beside rows text

abbrev pub chosen : {T : Type 0} → T → T → List (List ℕ × T) → Option Bool → List ℕ → Option T
chosen off on rows (Some true) text = Some on
chosen off on rows (Some false) text = Some off
chosen off on rows None text = beside rows text

-- an empty value means the same as false
abbrev pub choice : {T : Type 0} → T → T → List (List ℕ × T) → List ℕ → Option T
choice off on rows [] = Some off
choice off on rows (byte ∷ text) = chosen off on rows (bool_value (byte ∷ text)) (byte ∷ text)
