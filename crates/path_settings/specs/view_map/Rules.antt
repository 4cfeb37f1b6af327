-- The fate of a mention that no other mention at its path beats, by what the kept mentions above the path give there. The rules are
-- this project's profile of systemd.exec(5), Sandboxing.
use Rattle.std.specs.Prelude.{Bool, true, false, Option, Some, None, if◌then◌else◌}
use Rattle.std.specs.Bool.{beq}
use Rattle.path_settings.specs.declared.mentions.Kind.{Kind}
use Rattle.path_settings.specs.declared.mentions.Kind.TheVariants.{Hide, Tmp, Bind}
use Rattle.path_settings.specs.declared.mentions.Mention.{Mention}
use Rattle.path_settings.specs.declared.view_map.rules.Beneath.{Beneath}
use Rattle.path_settings.specs.declared.view_map.rules.Beneath.TheVariants as beneath
use Rattle.path_settings.specs.declared.view_map.rules.Fate.{Fate}
use Rattle.path_settings.specs.declared.view_map.rules.Fate.TheVariants as fate

-- a reason to refuse a mention drops it if it is optional
abbrev pub unless_optional : Bool → Fate → Fate
unless_optional true refusal = fate.Dropped
unless_optional false refusal = refusal

-- a bind covers only a row of the same kind as its source
abbrev pub cover_fate : Bool → Beneath → Fate
cover_fate source_is_dir (beneath.Row is_dir) = if beq source_is_dir is_dir then fate.Kept else fate.WrongKind
cover_fate source_is_dir _ = fate.Kept

-- the source of a bind must be a row; if it is not, an optional bind is dropped. A bind of the wrong kind is refused even if it is optional
abbrev pub bind_fate : Option Bool → Beneath → Bool → Fate
bind_fate None here optional = unless_optional optional fate.NoSource
bind_fate (Some source_is_dir) here optional = cover_fate source_is_dir here

-- if an empty file system covers a row, the row must be a directory
abbrev pub tmp_fate : Beneath → Fate
tmp_fate (beneath.Row is_dir) = if is_dir then fate.Kept else fate.WrongKind
tmp_fate _ = fate.Kept

-- a hidden path must be a row, or lie below an empty file system
abbrev pub hide_fate : Beneath → Bool → Fate
hide_fate beneath.NoRow optional = unless_optional optional fate.NoRow
hide_fate _ optional = fate.Kept

-- a flag applies to a row; below an empty file system it is dropped
abbrev pub bare_flag_fate : Beneath → Bool → Fate
bare_flag_fate beneath.Empty optional = fate.Dropped
bare_flag_fate beneath.NoRow optional = unless_optional optional fate.NoRow
bare_flag_fate _ optional = fate.Kept

-- a flag also applies to an empty file system or a bind that is kept at its path
abbrev pub flag_fate : Beneath → Bool → Bool → Fate
flag_fate here optional is_put = if is_put then fate.Kept else bare_flag_fate here optional

abbrev pub seen_fate : Option Bool → Beneath → Bool → Bool → Kind → Fate
seen_fate source here is_put optional (Bind at read_only recursive) = bind_fate source here optional
seen_fate source here is_put optional (Tmp read_only no_exec no_suid) = tmp_fate here
seen_fate source here is_put optional Hide = hide_fate here optional
seen_fate source here is_put optional _ = flag_fate here optional is_put

-- each mention below a hidden path is dropped. `source` says if the source of a bind is a row, and then if it is a directory. `is_put`
-- says if an empty file system or a bind is kept at the path
abbrev pub fate_of : Option Bool → Beneath → Bool → Mention → Fate
fate_of source beneath.Hidden is_put mention = fate.Dropped
fate_of source here is_put mention = seen_fate source here is_put mention.optional mention.kind
