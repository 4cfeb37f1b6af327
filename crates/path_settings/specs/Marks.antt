-- Marks in front of a path (systemd.exec(5), ReadWritePaths=): a path that is prefixed with `-` is ignored if it does not exist.
use Rattle.std.specs.Prelude.{ℕ, Bool, nat_eq, codes, unwrap_or, List}
use Rattle.std.specs.List.{starts_with}
use Rattle.abs_path.specs.Prefix.{after}

abbrev pub is_marked : List ℕ → Bool
is_marked word = starts_with nat_eq word (codes "-")

-- a word without this prefix, or the word itself if it does not begin with it
abbrev pub without : List ℕ → List ℕ → List ℕ
without front word = unwrap_or (after front word) word
