-- The numbers of a script: of a process, of a call, of ids, of words and of sets.
use Rattle.std.specs.Prelude.{ℕ, ◌==◌, ◌&&◌, ◌^◌, nat_lt, if◌then◌else◌, Bool, Option, Some, None, option_and_then, List, [], ◌∷◌}
use Rattle.std.specs.Prelude.{slice_index}
use Rattle.std.specs.Option.{option_map}
use Rattle.std.specs.List.{list_all}
use Rattle.kernel_model.specs.text_forms.Numbers.{decimal_value, number_value}

abbrev pub some_pid : ℕ → Option ℕ
some_pid number = if nat_lt 0 number && nat_lt number (2 ^ 32) then Some number else None

-- PID: decimal, from 1, below 2^32
unfoldable pub pid_of : List ℕ → Option ℕ
pid_of word = option_and_then some_pid (decimal_value word)

-- a number in front of numbers
abbrev pub with_front : {A : Type 0} → A → Option (List A) → Option (List A)
with_front first rest = option_map (λ others. first ∷ others) rest

-- what each word is read as, where each can be read
abbrev pub all_read : {A : Type 0} → (List ℕ → Option A) → List (List ℕ) → Option (List A)
all_read read [] = Some []
all_read read (word ∷ words) = option_and_then (λ first. with_front first (all_read read words)) (read word)

-- WORD: decimal, or hexadecimal after `0x`, below 2^64
abbrev pub numbers_of : List (List ℕ) → Option (List ℕ)
numbers_of words = all_read number_value words

-- six words, of which those that are not written are 0
abbrev pub six_words : List ℕ → List ℕ
six_words numbers =
    slice_index numbers 0 ∷ slice_index numbers 1 ∷ slice_index numbers 2 ∷ slice_index numbers 3 ∷ slice_index numbers 4 ∷ slice_index
    numbers 5 ∷ []

abbrev pub is_zero : ℕ → Bool
is_zero number = number == 0

-- the words but for the zeros at their end
abbrev pub without_last_zeros : List ℕ → List ℕ
without_last_zeros [] = []
without_last_zeros (number ∷ numbers) = if list_all is_zero (number ∷ numbers) then [] else number ∷ without_last_zeros numbers
