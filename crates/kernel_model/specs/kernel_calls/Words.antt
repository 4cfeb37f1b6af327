-- The six words of a call, syscall(2): an argument of type int is the low half of its word.
use Rattle.std.specs.Prelude.{ℕ, ◌%◌, ◌^◌, List, slice_index}

-- the low 32 bits of the word at this place, counted from 0
abbrev pub low_word : List ℕ → ℕ → ℕ
low_word args at = slice_index args at % 2 ^ 32
