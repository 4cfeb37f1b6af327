-- Mentions whose paths are as short as the paths of settings.
use Rattle.std.specs.Prelude.{◌≡◌, ◌&&◌, Bool, true, nat_le, List, length}
use Rattle.std.specs.List.{list_all}
use Rattle.abs_path.specs.Paths.{Path, text_of}
use Rattle.path_settings.specs.declared.mentions.Kind.{Kind}
use Rattle.path_settings.specs.declared.mentions.Kind.TheVariants.{Bind}
use Rattle.path_settings.specs.declared.mentions.Mention.{Mention}

abbrev pub is_short_path : Path → Bool
is_short_path path = nat_le (length (text_of path)) 250

abbrev pub has_short_source : Kind → Bool
has_short_source (Bind source read_only recursive) = is_short_path source
has_short_source _ = true

-- the path and the source of a bind have at most 250 bytes
abbrev pub is_short : Mention → Bool
is_short mention = is_short_path mention.path && has_short_source mention.kind

abbrev pub AreShort : List Mention → Type 0
AreShort mentions = list_all is_short mentions ≡ true
