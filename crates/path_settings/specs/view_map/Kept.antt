-- The mentions that are kept, path by path in byte order, so that each path follows the paths above it. The rules are this project's
-- profile of systemd.exec(5), Sandboxing. The host is a function `row_at`: it says if there is an object at a path, and then if it is a
-- directory.
use Rattle.std.specs.Prelude.{◌≡◌, ◌||◌, ◌&&◌, Bool, true, false, not, List, [], ◌∷◌, ◌++◌, map, filter, Option, Some, None, option_map}
use Rattle.std.specs.Prelude.{option_and_then, Result, Ok, Err, if◌then◌else◌}
use Rattle.std.specs.List.{list_any, filter_map, AllByRecursion, Contains}
use Rattle.abs_path.specs.Paths.{Path}
use Rattle.abs_path.specs.Prefix.{is_same}
use Rattle.abs_path.specs.ByteOrder.{in_byte_order}
use Rattle.path_settings.specs.declared.mentions.Kind.{Kind}
use Rattle.path_settings.specs.declared.mentions.Mention.{Mention}
use Rattle.path_settings.specs.Mentions.{hides, is_tmp, is_bind, source_of, is_origin}
use Rattle.path_settings.specs.view_map.View.{above, longest}
use Rattle.path_settings.specs.view_map.Object.{Object, on_host, empty, hidden, object_from}
use Rattle.path_settings.specs.declared.view_map.rules.Beneath.{Beneath}
use Rattle.path_settings.specs.declared.view_map.rules.Beneath.TheVariants as beneath
use Rattle.path_settings.specs.declared.view_map.rules.Fate.{Fate}
use Rattle.path_settings.specs.declared.view_map.rules.Fate.TheVariants as fate
use Rattle.path_settings.specs.view_map.Rules.{fate_of}

-- the objects of the host: whether one is at a path, and then whether it is a directory
abbrev pub Host : Type 0
Host = Path → Option Bool

-- the reason why mentions are refused: there is no object at the path, or one of the wrong kind
pub data Refusal : Type 0 where
  missing : Path → Refusal
  wrong_kind : Path → Refusal

-- the mentions at a path, in written order
abbrev pub at_path : Path → List Mention → List Mention
at_path path mentions = filter (λ mention. is_same mention.path path) mentions

-- at one path, hiding beats an empty file system and a bind, an empty file system beats a bind, and a later bind beats an earlier one
abbrev pub is_beaten : List Mention → List Mention → Kind → Bool
is_beaten here later kind =
    ((is_tmp kind || is_bind kind) && list_any (λ other. hides other.kind) here)
    || (is_bind kind && (list_any (λ other. is_tmp other.kind) here || list_any (λ other. is_bind other.kind) later))

-- the mentions at one path that no other mention there beats
abbrev pub unbeaten_of : List Mention → List Mention → List Mention
unbeaten_of here [] = []
unbeaten_of here (mention ∷ later) = if is_beaten here later mention.kind then unbeaten_of here later else mention ∷ unbeaten_of here later

abbrev pub unbeaten : List Mention → List Mention
unbeaten here = unbeaten_of here here

abbrev pub beneath_row : Option Bool → Beneath
beneath_row None = beneath.NoRow
beneath_row (Some is_dir) = beneath.Row is_dir

abbrev pub beneath_by : Host → Object → Beneath
beneath_by row_at hidden = beneath.Hidden
beneath_by row_at empty = beneath.Empty
beneath_by row_at (on_host path) = beneath_row (row_at path)

-- what is at a path without the mentions at it: the longest kept mention above it that says which object is there decides
abbrev pub beneath_at : Host → List Mention → Path → Beneath
beneath_at row_at kept path = beneath_by row_at (object_from (longest is_origin (above path kept)) path)

-- whether there is an object at the source of a bind, and then whether it is a directory
abbrev pub source_row : Host → Kind → Option Bool
source_row row_at kind = option_and_then row_at (source_of kind)

abbrev pub is_kept : Fate → Bool
is_kept fate.Kept = true
is_kept _ = false

-- the mention is an empty file system or a bind, and it is kept
abbrev pub puts : Host → Beneath → Mention → Bool
puts row_at here mention = (is_tmp mention.kind || is_bind mention.kind) && is_kept
    (fate_of (source_row row_at mention.kind) here true mention)

-- the fate of a mention among the mentions at its path
abbrev pub fate_among : Host → Beneath → List Mention → Mention → Fate
fate_among row_at here mentions mention = fate_of (source_row row_at mention.kind) here (list_any (puts row_at here) mentions) mention

abbrev pub refusal_of : Mention → Fate → Option Refusal
refusal_of mention fate.Kept = None
refusal_of mention fate.Dropped = None
refusal_of mention fate.NoSource = option_map missing (source_of mention.kind)
refusal_of mention fate.NoRow = Some (missing mention.path)
refusal_of mention fate.WrongKind = Some (wrong_kind mention.path)

-- the order of the rules: first the mentions that say which object is at the path, and then the flags
abbrev pub in_order_of_rules : List Mention → List Mention
in_order_of_rules here = filter (λ mention. is_origin mention.kind) here ++ filter (λ mention. not (is_origin mention.kind)) here

abbrev pub refusals : Host → Beneath → List Mention → List Refusal
refusals row_at here mentions = filter_map (λ mention. refusal_of mention (fate_among row_at here mentions mention))
    (in_order_of_rules mentions)

-- the first refusal, or these mentions if there is none
abbrev pub unless_refused : List Refusal → List Mention → Result (List Mention) Refusal
unless_refused [] found = Ok found
unless_refused (refusal ∷ refusals) found = Err refusal

-- the mentions at one path that are kept, by the object beneath them and by one another
abbrev pub kept_among : Host → Beneath → List Mention → Result (List Mention) Refusal
kept_among row_at here mentions = unless_refused (refusals row_at here mentions)
    (filter (λ mention. is_kept (fate_among row_at here mentions mention)) mentions)

-- the mentions at the path that are kept, by the kept mentions above it
abbrev pub kept_at : Host → List Mention → List Mention → Path → Result (List Mention) Refusal
kept_at row_at mentions kept path = kept_among row_at (beneath_at row_at kept path) (unbeaten (at_path path mentions))

abbrev pub goes_on : Result (List Mention) Refusal → (List Mention → Result (List Mention) Refusal) → Result (List Mention) Refusal
goes_on (Err refusal) go = Err refusal
goes_on (Ok more) go = go more

-- the kept mentions of these paths, one path after the other, after the mentions that were kept before
abbrev pub kept_from : Host → List Mention → List Path → List Mention → Result (List Mention) Refusal
kept_from row_at mentions [] kept = Ok kept
kept_from row_at mentions (path ∷ paths) kept = goes_on (kept_at row_at mentions kept path)
    (λ more. kept_from row_at mentions paths (kept ++ more))

-- the mentions that are kept, or the refusal at the first path that has one
abbrev pub kept_of : Host → List Mention → Result (List Mention) Refusal
kept_of row_at mentions = kept_from row_at mentions (in_byte_order (map (λ mention. mention.path) mentions)) []

-- the same without an order: at the path of each mention the rules refuse nothing, and keep just the kept mentions of that path, if they
-- look at all kept mentions
pub record KeepsByRules (row_at : Host) (mentions kept : List Mention) : Type 0 where
  pub rules : AllByRecursion (λ mention. kept_at row_at mentions kept mention.path ≡ Ok (at_path mention.path kept)) mentions
  pub among : AllByRecursion (Contains mentions) kept
