-- What a table that can be mounted is to a launch.
use Rattle.std.proofs.Common.{◌≡◌, ◌≢◌, ◌∙◌, true, Bool, List, [], ◌∷◌, map, Option, sym, ap, subst, arith}
use Rattle.std.specs.List.{AllByRecursion}
use Rattle.std.proofs.lemmas.Bool.{false≢true}
use Rattle.abs_path.specs.Paths.{Path}
use Rattle.abs_path.specs.ByteOrder.{AreAscending, is_before}
use Rattle.abs_path.proofs.ByteOrder.{not_before_itself}
use Rattle.kern_mounts.specs.declared.step.MountStep.{MountStep}
use Rattle.kern_mounts.specs.Table.{IsTable, StartsAtRoot}
use Rattle.kern_mounts.specs.Launch.{BeginsAtRoot, CanBeMounted, NoneTwice, mounted}

starts : (table : List MountStep) → BeginsAtRoot table → StartsAtRoot table
starts [] begins = begins
starts (first ∷ steps) begins = begins.0

pub is_a_table : (rows : Path → Option Bool) (table : List MountStep) → CanBeMounted rows table → IsTable table
is_a_table rows table can = record { root = starts table can.begins_at_root; few = omega (arith, can.few) }

made : (table : List MountStep) → BeginsAtRoot table → mounted table ≡ table
made [] begins = absurd begins
made (first ∷ steps) begins =
    sym (ap (λ place. record { place = place; what = first.what; flags = first.flags } ∷ steps) begins.0
    ∙ ap (λ what. record { place = []; what = what; flags = first.flags } ∷ steps) begins.1)

pub mounting_makes_it : (rows : Path → Option Bool) (table : List MountStep) → CanBeMounted rows table → mounted table ≡ table
mounting_makes_it rows table can = made table can.begins_at_root

apart : (path : Path) (paths : List Path) → AllByRecursion (λ later. is_before path later ≡ true) paths
    → AllByRecursion (λ later. path ≢ later) paths
apart path [] before = tt
apart path (later ∷ paths) before = (
  λ same. false≢true (sym (not_before_itself path) ∙ subst (λ (other : Path). is_before path other ≡ true) (sym same) before.0),
  apart path paths before.1,
)

none_twice : (paths : List Path) → AreAscending paths → NoneTwice paths
none_twice [] ascend = tt
none_twice (path ∷ paths) ascend = (apart path paths ascend.0, none_twice paths ascend.1)

pub no_place_twice : (rows : Path → Option Bool) (table : List MountStep) → CanBeMounted rows table
    → NoneTwice (map (λ step. step.place) table)
no_place_twice rows table can = none_twice (map (λ step. step.place) table) can.places_ascend
