-- The paths at which the rules ask the host, besides the sources of binds.
use Rattle.std.specs.Prelude.{List, [], ◌∷◌, ◌++◌, map, Result, Ok, Err}
use Rattle.abs_path.specs.Paths.{Path}
use Rattle.abs_path.specs.ByteOrder.{in_byte_order}
use Rattle.path_settings.specs.declared.mentions.Mention.{Mention}
use Rattle.path_settings.specs.Mentions.{is_origin}
use Rattle.path_settings.specs.view_map.View.{above, longest}
use Rattle.path_settings.specs.view_map.Object.{Object, on_host, empty, hidden, object_from}
use Rattle.path_settings.specs.view_map.Kept.{Host, Refusal, kept_at}

-- the path on the host of an object
abbrev pub place_of : Object → List Path
place_of (on_host path) = path ∷ []
place_of empty = []
place_of hidden = []

-- the path on the host beneath the mentions at a path, by the mentions that are kept above it
abbrev pub beneath_place : List Mention → Path → List Path
beneath_place kept path = place_of (object_from (longest is_origin (above path kept)) path)

abbrev pub beneath_places : List Mention → List Path → List Path
beneath_places kept [] = []
beneath_places kept (path ∷ paths) = beneath_place kept path ++ beneath_places kept paths

abbrev pub asked_on : Result (List Mention) Refusal → (List Mention → List Path) → List Path
asked_on (Err refusal) go = []
asked_on (Ok more) go = go more

-- the rules ask the host about these places while they decide path after path, with the mentions that they kept before
abbrev pub asked_from : Host → List Mention → List Path → List Mention → List Path
asked_from row_at mentions [] kept = []
asked_from row_at mentions (path ∷ paths) kept = beneath_place kept path ++ asked_on (kept_at row_at mentions kept path)
    (λ more. asked_from row_at mentions paths (kept ++ more))

abbrev pub asked_of : Host → List Mention → List Path
asked_of row_at mentions = asked_from row_at mentions (in_byte_order (map (λ mention. mention.path) mentions)) []
