-- Marks on the lines of files, which say which places are in a set.
use Rattle.std.specs.Prelude.{◌≡◌, ℕ, ◌==◌, ◌&&◌, ◌||◌, not, Bool, false, List, [], slice_index_or}
use Rattle.asked_service.specs.dropin_merge.declared.unit_values.value.Place.{Place}
use Rattle.why_command.specs.deciding_lines.unit_lines.Without.{is_among, is_place}

-- ---- the marks of a file
-- the same lines are marked
abbrev pub ReadsAlike : List Bool → List Bool → Type 0
ReadsAlike old new = (at : ℕ) → slice_index_or new at false ≡ slice_index_or old at false

-- this line is marked too
abbrev pub MarksMore : ℕ → List Bool → List Bool → Type 0
MarksMore line old new = (at : ℕ) → slice_index_or new at false ≡ (slice_index_or old at false || line == at)

-- ---- the marks of all files
abbrev pub has : List (List Bool) → Place → Bool
has rows place = slice_index_or (slice_index_or rows place.file []) place.line false

abbrev pub HasNone : List (List Bool) → Type 0
HasNone rows = (place : Place) → has rows place ≡ false

-- this place is marked too, if the answer says so
abbrev pub AddsIf : Place → List (List Bool) → List (List Bool) → Bool → Type 0
AddsIf place old new is_marked = (other : Place) → has new other ≡ (has old other || (is_marked && is_place place other))

-- a place is in the set if it has its mark, or, where some place has none, is among the places
abbrev pub holds : List (List Bool) → Bool → List Place → Place → Bool
holds rows has_all places place = has rows place || (not has_all && is_among places place)

abbrev pub AreMarked : List Place → List (List Bool) → Bool → Type 0
AreMarked places rows has_all = (place : Place) → holds rows has_all places place ≡ is_among places place

-- marks and answers after one place more, whatever the places before
abbrev pub IsAfter : Place → List (List Bool) → Bool → List (List Bool) → Bool → Type 0
IsAfter place old had_all new has_all = (other : Place) (before : Bool) → (has old other || (not had_all && before)) ≡ before
    → (has new other || (not has_all && (before || is_place place other))) ≡ (before || is_place place other)
