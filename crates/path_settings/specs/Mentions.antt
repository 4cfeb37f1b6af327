-- The statements of a mention (systemd.exec(5), Sandboxing), and lists of mentions in written order.
use Rattle.std.specs.Prelude.{◌≡◌, ◌≤◌, ◌&&◌, Bool, true, false, not, nat_le, List, length, Option, Some, None}
use Rattle.std.specs.List.{list_all}
use Rattle.abs_path.specs.Paths.{Path, text_of, is_root, is_normal}
use Rattle.path_settings.specs.declared.mentions.Kind.{Kind}
use Rattle.path_settings.specs.declared.mentions.Kind.TheVariants.{Hide, Tmp, Bind}
use Rattle.path_settings.specs.declared.mentions.Mention.{Mention}

abbrev pub hides : Kind → Bool
hides Hide = true
hides _ = false

abbrev pub is_tmp : Kind → Bool
is_tmp (Tmp read_only no_exec no_suid) = true
is_tmp _ = false

abbrev pub is_bind : Kind → Bool
is_bind (Bind source read_only recursive) = true
is_bind _ = false

-- the path of the object that a bind shows
abbrev pub source_of : Kind → Option Path
source_of (Bind source read_only recursive) = Some source
source_of _ = None

-- the mention says which object is at the path: nothing that is visible, an empty file system, or the object of another path
abbrev pub is_origin : Kind → Bool
is_origin Hide = true
is_origin (Tmp read_only no_exec no_suid) = true
is_origin (Bind source read_only recursive) = true
is_origin _ = false

-- no mention says which object is at the root
abbrev pub leaves_the_root : List Mention → Bool
leaves_the_root mentions = list_all (λ mention. not (is_root mention.path && is_origin mention.kind)) mentions

-- a path as it is kept: it is normal, and its text has at most 512 bytes
abbrev pub is_path : Path → Bool
is_path path = is_normal path && nat_le (length (text_of path)) 512

abbrev pub has_whole_source : Kind → Bool
has_whole_source (Bind source read_only recursive) = is_path source
has_whole_source _ = true

-- the path of a mention, and the source of a bind, is a path as it is kept
abbrev pub is_whole : Mention → Bool
is_whole mention = is_path mention.path && has_whole_source mention.kind

-- there are at most 192 mentions, and each is whole
pub record AreKept (mentions : List Mention) : Type 0 where
  pub few : length mentions ≤ 192
  pub whole : list_all is_whole mentions ≡ true
