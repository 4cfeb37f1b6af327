-- A list in byte order has exactly the given paths.
use Rattle.std.proofs.Common.{◌≡◌, true, List}
use Rattle.std.specs.Prelude.{◌↔◌}
use Rattle.std.specs.List.{AllByRecursion, Contains}
use Rattle.std.proofs.lemmas.List.Elements.{recursion_from_All, All-from_recursion, All-contains, All-contains_itself}
use Rattle.abs_path.specs.Paths.{Path, is_normal}
use Rattle.abs_path.specs.ByteOrder.{in_byte_order}
use Rattle.abs_path.proofs.Placed.{in_byte_order_is, in_byte_order_was}

-- each path of a list is in the list
each_of : (paths : List Path) → AllByRecursion (Contains paths) paths
each_of paths = recursion_from_All (Contains paths) paths (All-contains_itself paths)

pub has_the_given : (paths : List Path) (path : Path) → AllByRecursion (λ one. is_normal one ≡ true) paths
    → (Contains (in_byte_order paths) path ↔ Contains paths path)
has_the_given paths path normal =
    let sorted : List Path = in_byte_order paths in (
      λ among. All-contains (Contains paths) sorted path
          (All-from_recursion (Contains paths) sorted (in_byte_order_is (Contains paths) paths (each_of paths))) among,
      λ among. All-contains (Contains sorted) paths path
          (All-from_recursion (Contains sorted) paths (in_byte_order_was (Contains sorted) paths normal (each_of sorted))) among,
    )
