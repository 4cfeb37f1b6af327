-- The mentions at one path, as the code treats them.
use Rattle.std.specs.Prelude.{Bool, not}
use Rattle.path_settings.specs.declared.mentions.Kind.{Kind}
use Rattle.path_settings.specs.declared.mentions.Mention.{Mention}
use Rattle.path_settings.specs.Mentions.{is_origin}
use Rattle.path_settings.specs.declared.view_map.rules.Beneath.{Beneath}
use Rattle.path_settings.specs.declared.view_map.rules.Fate.{Fate}
use Rattle.path_settings.specs.view_map.Rules.{fate_of}
use Rattle.path_settings.specs.view_map.Kept.{Host, source_row}
use Rattle.mount_plan.specs.declared.here.Part.{Part}
use Rattle.mount_plan.specs.declared.here.Part.TheVariants.{Origins, Flags}

-- the mention is in this part: it says which object is at the path, or else how the object may be used
abbrev pub is_asked : Part → Kind → Bool
is_asked Origins kind = is_origin kind
is_asked Flags kind = not (is_origin kind)

-- the fate of a mention; `is_put` says if an empty file system or a bind is kept at its path
abbrev pub fate_beside : Host → Beneath → Bool → Mention → Fate
fate_beside row_at here is_put mention = fate_of (source_row row_at mention.kind) here is_put mention
