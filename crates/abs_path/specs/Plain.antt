-- In some texts of paths nothing folds away, as a look at each byte shows.
use Rattle.std.specs.Prelude.{◌==◌, ◌||◌, ◌&&◌, ℕ, Bool, not, List, [], ◌∷◌}
use Rattle.std.specs.Str.{byte as ascii}

-- no byte is NUL, and a byte other than a slash or a dot follows each slash; the first argument says whether a slash precedes the text
abbrev pub is_plain : Bool → List ℕ → Bool
is_plain behind [] = not behind
is_plain behind (byte ∷ text) =
    not (byte == 0) && (not (behind && (byte == ascii "/" || byte == ascii ".")) && is_plain (byte == ascii "/") text)
