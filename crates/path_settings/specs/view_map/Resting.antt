-- The facts of a host that decide which mentions are kept: two hosts that agree on these keep the same mentions.
use Rattle.std.specs.Prelude.{◌≡◌, List}
use Rattle.std.specs.List.{AllByRecursion}
use Rattle.abs_path.specs.Paths.{Path}
use Rattle.path_settings.specs.declared.mentions.Mention.{Mention}
use Rattle.path_settings.specs.view_map.Asked.{asked_of}
use Rattle.path_settings.specs.view_map.Kept.{Host, kept_of, source_row}

-- both hosts have the same objects at these paths
abbrev pub AreSame : Host → Host → List Path → Type 0
AreSame row_at other paths = AllByRecursion (λ path. other path ≡ row_at path) paths

-- the source of each bind is a directory in both, another row in both, or no row in both
abbrev pub AreSameSources : Host → Host → List Mention → Type 0
AreSameSources row_at other mentions = AllByRecursion (λ mention. source_row other mention.kind ≡ source_row row_at mention.kind) mentions

-- two hosts keep the same mentions if they agree on the places beneath the kept mentions and on the sources of binds
abbrev pub KeptRestsOnWhatIsAsked : Type 0
KeptRestsOnWhatIsAsked = (row_at other : Host) (mentions : List Mention) → AreSameSources row_at other mentions
    → AreSame row_at other (asked_of row_at mentions)
    → kept_of other mentions ≡ kept_of row_at mentions
