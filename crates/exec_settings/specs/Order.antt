-- Notes in the order of files, and then of lines.
use Rattle.std.specs.Prelude.{ℕ, List, IsPermutation}
use Rattle.std.specs.Ordering.{nat_cmp, ordering_then}
use Rattle.std.specs.declared.cmp.Ordering.{Ordering}
use Rattle.std.specs.List.Sorted.{IsSortedByKey, IsStableByKey}
use Rattle.cred_settings.specs.dropin_merge.declared.unit_values.value.FileNote.{FileNote}

abbrev pub place_of : FileNote → ℕ × ℕ
place_of note = (note.place.file, note.place.line)

abbrev pub place_cmp : ℕ × ℕ → ℕ × ℕ → Ordering
place_cmp one other = ordering_then (nat_cmp one.0 other.0) (nat_cmp one.1 other.1)

-- the same notes sorted by files and lines, where the notes on one line keep their order
pub record AreInOrder (notes ordered : List FileNote) : Type 0 where
  pub same : IsPermutation notes ordered
  pub by_place : IsSortedByKey place_of place_cmp ordered
  pub stable : IsStableByKey place_of place_cmp notes ordered
