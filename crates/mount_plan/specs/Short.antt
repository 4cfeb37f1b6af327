-- Host paths that are short enough to be kept.
use Rattle.std.specs.Prelude.{◌≤◌, ⊤, List, length}
use Rattle.std.specs.List.{All}
use Rattle.path_settings.specs.abs_path.Paths.{Path, tail_of}
use Rattle.path_settings.specs.declared.mentions.Mention.{Mention}
use Rattle.path_settings.specs.view_map.Object.{Object, on_host, empty, hidden, object_at}

-- the object has a path of at most 512 bytes on the host
abbrev pub HasShortHost : Object → Type 0
HasShortHost (on_host path) = length (tail_of path) ≤ 512
HasShortHost empty = ⊤
HasShortHost hidden = ⊤

-- the object at each of the places has such a path
abbrev pub HaveShortHosts : List Mention → List Path → Type 0
HaveShortHosts kept places = All (λ place. HasShortHost (object_at kept place)) places
