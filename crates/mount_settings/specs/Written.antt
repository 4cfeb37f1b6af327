-- The paths that the files of a unit write and that are in force (systemd.exec(5), Sandboxing).
use Rattle.std.specs.Prelude.{ℕ, ◌==◌, ◌&&◌, cond, Bool, List, [], ◌∷◌, ◌++◌, length, map, filter, flat_map, unwrap_or}
use Rattle.std.specs.List.{list_any}
use Rattle.path_settings.specs.declared.keys.PathKey.{PathKey}
use Rattle.path_settings.specs.declared.mentions.Mention.{Mention}
use Rattle.path_settings.specs.declared.dialect.Dialect.{Dialect}
use Rattle.path_settings.specs.FolderWords.{mentions_of_word}
use Rattle.dropin_merge.specs.declared.resolved.Resolved.{Resolved}
use Rattle.dropin_merge.specs.unit_values.Words.{split}
use Rattle.mount_settings.specs.declared.written.WrittenPath.{WrittenPath}
use Rattle.mount_settings.specs.Assigned.{Assigned, is_key, assigned_of, dialect_of}

-- the mentions of a word of a key, if the word can be read
abbrev pub mentions_in_word : Dialect → PathKey → List ℕ → List Mention
mentions_in_word dialect key word = unwrap_or (mentions_of_word dialect key word) []

abbrev pub of_its_key : PathKey → List Mention → List WrittenPath
of_its_key key mentions = map (λ mention. record { key = key; mention = mention }) mentions

-- the paths of a word of a key, and the paths of the words of a value, in their order
abbrev pub word_paths : Dialect → PathKey → List ℕ → List WrittenPath
word_paths dialect key word = of_its_key key (mentions_in_word dialect key word)

abbrev pub paths_in : Dialect → PathKey → List (List ℕ) → List WrittenPath
paths_in dialect key words = flat_map (word_paths dialect key) words

abbrev pub gives : Dialect → Assigned → List WrittenPath
gives dialect one = paths_in dialect one.key (unwrap_or (split one.value.text) [])

-- an empty value resets its key, and no other
abbrev pub is_reset : PathKey → Assigned → Bool
is_reset key one = is_key key one.key && (length one.value.text == 0)

abbrev pub is_reset_by : List Assigned → PathKey → Bool
is_reset_by later key = list_any (is_reset key) later

-- a value is in force unless a later empty value resets its key; each value in force gives its paths
abbrev pub written : Dialect → List Assigned → List WrittenPath
written dialect [] = []
written dialect (one ∷ later) = cond (is_reset_by later one.key) [] (gives dialect one) ++ written dialect later

-- the paths in the order of the assignments in the files, whatever the key, and then of the words
unfoldable pub unit_written : Resolved → List WrittenPath
unit_written unit = written (dialect_of unit.systemd) (assigned_of unit)

-- the mentions of one key
abbrev pub of_key : PathKey → List WrittenPath → List Mention
of_key key paths = map (λ path. path.mention) (filter (λ path. is_key path.key key) paths)
