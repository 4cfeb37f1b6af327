-- A text may have white space at its ends, and backslashes at its end.
use Rattle.std.specs.Prelude.{ℕ, ◌-◌, ◌%◌, ◌==◌, ◌||◌, Bool, false, List, [], ◌∷◌, length, take, drop}
use Rattle.std.specs.List.{prefix_len, suffix_len}

-- systemd.syntax(7): space, tab and carriage return
abbrev pub is_white : ℕ → Bool
is_white byte = (byte == 32 || byte == 9) || byte == 13

-- `\`
abbrev pub is_backslash : ℕ → Bool
is_backslash byte = byte == 92

-- the text without the white space at its front
abbrev pub trim_start : List ℕ → List ℕ
trim_start text = drop (prefix_len is_white text) text

-- the text without the white space at its end
abbrev pub trim_end : List ℕ → List ℕ
trim_end text = take (length text - suffix_len is_white text) text

-- the text without the white space at its ends
abbrev pub trim : List ℕ → List ℕ
trim text = trim_end (trim_start text)

-- a line that ends in an odd number of backslashes continues in the next line
abbrev pub continues : List ℕ → Bool
continues line = suffix_len is_backslash line % 2 == 1

-- the text without its last byte
abbrev pub without_last : List ℕ → List ℕ
without_last text = take (length text - 1) text

-- a line without white space at its front is a comment if it begins with `#` or `;`
abbrev pub is_comment : List ℕ → Bool
is_comment [] = false
is_comment (byte ∷ line) = byte == 35 || byte == 59
