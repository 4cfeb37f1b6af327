-- What the two tests say that the program hands in.
use Rattle.std.specs.Prelude.{ℕ, min, count_by}
use Rattle.std.specs.List.{range_with_len}
use Rattle.exec_settings.specs.cap_sets.Sets.{has}
use Rattle.exposure_score.specs.declared.facts.Facts.{Facts}

-- the ambient capabilities, of those from 0 to 40
abbrev pub ambient_count : Facts → ℕ
ambient_count facts = count_by (λ number. has facts.ambient number) (range_with_len 0 41)

-- the paths that are written or bound, at most 128
abbrev pub writable_paths : Facts → ℕ
writable_paths facts = min facts.writable_paths 128
