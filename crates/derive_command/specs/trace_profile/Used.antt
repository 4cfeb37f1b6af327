-- The names that a script uses: the names of its calls, and execve(2), which each launch needs last, but none of `@default`.
use Rattle.std.specs.Prelude.{◌≡◌, ℕ, ◌<◌, ◌&&◌, ◌||◌, not, Bool, false, List, codes, length, slice_index_or, Option}
use Rattle.std.specs.List.{list_any}
use Rattle.std.specs.Option.{option_map, option_map_or}
use Rattle.asked_service.specs.call_table.Lookups.{group_named, numbered}
use Rattle.asked_service.specs.call_table.Members.{has_member, is_first}
use Rattle.asked_service.specs.call_table.Table.{Table, calls_in, every_call}
use Rattle.asked_service.specs.kernel_model.declared.kernel_calls.call.Call.{Call}

-- the name that the ABI of the call gives its number
abbrev pub name_of : Table → Call → Option (List ℕ)
name_of table call = option_map (λ line. line.name) (numbered call.nr (calls_in table call.abi))

-- the line at this place is the first of that name
abbrev pub is_line_of : Table → ℕ → Call → Bool
is_line_of table place call = option_map_or (λ name. is_first (every_call table) name place) (name_of table call) false

-- it is the first of the name of some call of the script, or of execve(2)
abbrev pub is_called : Table → List Call → ℕ → Bool
is_called table script place = is_first (every_call table) (codes "execve") place || list_any (is_line_of table place) script

-- it is a member of `@default`
abbrev pub is_in_default : Table → ℕ → Bool
is_in_default table place = option_map_or (has_member place) (group_named (codes "default") table.groups) false

abbrev pub is_used : Table → List Call → ℕ → Bool
is_used table script place = is_called table script place && not (is_in_default table place)

-- ---- marks, one for each line
-- they say which places pass the test
abbrev pub AreMarks : (ℕ → Bool) → List Bool → Type 0
AreMarks test marks = (at : ℕ) → at < length marks → slice_index_or marks at false ≡ test at

-- the places that pass are marked, and the others keep their marks
abbrev pub MarksMore : (ℕ → Bool) → List Bool → List Bool → Type 0
MarksMore test old new = (at : ℕ) → at < length old → slice_index_or new at false ≡ (slice_index_or old at false || test at)

-- the places that pass are not marked, and the others keep their marks
abbrev pub MarksLess : (ℕ → Bool) → List Bool → List Bool → Type 0
MarksLess test old new = (at : ℕ) → at < length old → slice_index_or new at false ≡ (slice_index_or old at false && not (test at))
