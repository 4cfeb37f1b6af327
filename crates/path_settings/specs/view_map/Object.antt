-- The object at a path: the host's object at some path, an empty file system, or nothing that is visible.
use Rattle.std.specs.Prelude.{ℕ, List, ◌++◌, Option, Some, None}
use Rattle.abs_path.specs.Paths.{Path}
use Rattle.abs_path.specs.Prefix.{rest_of}
use Rattle.path_settings.specs.declared.mentions.Kind.{Kind}
use Rattle.path_settings.specs.declared.mentions.Kind.TheVariants.{Hide, Tmp, Bind}
use Rattle.path_settings.specs.declared.mentions.Mention.{Mention}
use Rattle.path_settings.specs.view_map.View.{origin_of}

pub data Object : Type 0 where
  on_host : Path → Object
  empty : Object
  hidden : Object

-- the object that a mention of this kind gives at a path that its place leads to: a bind gives its source, followed by the rest
abbrev pub object_by : Kind → Path → Path → Object
object_by Hide place path = hidden
object_by (Tmp read_only no_exec no_suid) place path = empty
object_by (Bind source read_only recursive) place path = on_host (source ++ rest_of place path)
object_by _ place path = on_host path

-- if no mention decides, the host's own object is there
abbrev pub object_from : Option (ℕ × Mention) → Path → Object
object_from None path = on_host path
object_from (Some one) path = object_by one.1.kind one.1.path path

abbrev pub object_at : List Mention → Path → Object
object_at kept path = object_from (origin_of kept path) path

-- the object that an object has at the rest of a path
abbrev pub object_behind : Object → Path → Object
object_behind (on_host path) rest = on_host (path ++ rest)
object_behind empty rest = empty
object_behind hidden rest = hidden
