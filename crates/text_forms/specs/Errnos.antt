-- errno(3): a setting may use these names of error numbers, and decimal numbers up to 4095.
use Rattle.std.specs.Prelude.{ℕ, nat_le, if◌then◌else◌, List, [], ◌∷◌, Option, Some, None, option_and_then}
use Rattle.std.specs.Str.{bytes_eq}
use Rattle.linux_numbers.specs.Limits.{max_errno}
use Rattle.text_forms.specs.Numbers.{decimal_value}
pub use Rattle.linux_numbers.specs.Errnos.{errnos}

-- the number beside the first row of this name
unfoldable pub number_beside : List (List ℕ × ℕ) → List ℕ → Option ℕ
number_beside [] name = None
number_beside (row ∷ rows) name = if bytes_eq row.0 name then Some row.1 else number_beside rows name

-- the number, if a system call can return it as an error
abbrev pub small_only : ℕ → Option ℕ
small_only number = if nat_le number max_errno then Some number else None

-- the number of a name, or the number of a decimal text of at most 4095
abbrev pub named_or_decimal : Option ℕ → List ℕ → Option ℕ
named_or_decimal (Some number) text = Some number
named_or_decimal None text = option_and_then small_only (decimal_value text)

unfoldable pub errno_value : List ℕ → Option ℕ
errno_value text = named_or_decimal (number_beside errnos text) text
