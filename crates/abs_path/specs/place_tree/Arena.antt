-- The nodes of a tree over the parts of paths, by their numbers, and the ways down from its root, which has the number 0.
use Rattle.std.specs.Prelude.{◌≡◌, ◌<◌, ℕ, List, [], ◌∷◌, length, Option, Some, option_and_then}
use Rattle.std.specs.Option.{IsSome}
use Rattle.std.specs.List.{slice_get, AllByRecursion}
use Rattle.std.specs.BTreeMap.{get_by_text}
use Rattle.abs_path.specs.Paths.{Path}
use Rattle.abs_path.specs.declared.place_tree.node.Node.{Node}
use Rattle.abs_path.specs.place_tree.Places.{last_at}

-- the node to which a part leads from the node of a number
abbrev pub Ways : Type 0
Ways = ℕ → List ℕ → Option ℕ

-- the node to which a path leads from the node of this number
abbrev pub walk : Ways → ℕ → Path → Option ℕ
walk ways at [] = Some at
walk ways at (part ∷ path) = option_and_then (λ child. walk ways child path) (ways at part)

abbrev pub child_at : List Node → ℕ → List ℕ → Option ℕ
child_at nodes at part = option_and_then (λ node. get_by_text node.children part) (slice_get nodes at)

-- the number at the node of this number
abbrev pub number_at : List Node → ℕ → Option ℕ
number_at nodes at = option_and_then (λ node. node.last) (slice_get nodes at)

-- the node of a path
abbrev pub node_at : List Node → Path → Option ℕ
node_at nodes path = walk (child_at nodes) 0 path

-- the number at the node of a path
abbrev pub kept_at : List Node → Path → Option ℕ
kept_at nodes path = option_and_then (number_at nodes) (node_at nodes path)

-- the nodes form a tree: it has a root, each way leads to a node, and no two paths share a node
pub record IsArena (nodes : List Node) : Type 0 where
  pub has_root : 0 < length nodes
  pub in_range : (at child : ℕ) (part : List ℕ) → child_at nodes at part ≡ Some child → child < length nodes
  pub apart : (one other : Path) (at : ℕ) → node_at nodes one ≡ Some at → node_at nodes other ≡ Some at → one ≡ other

-- the node of each path keeps the number of the last place that is this path
abbrev pub IsNumbered : List Node → List Path → Type 0
IsNumbered nodes places = (path : Path) → kept_at nodes path ≡ last_at path places

-- the nodes are the tree of a list of places
pub record IsTree (nodes : List Node) (places : List Path) : Type 0 where
  pub arena : IsArena nodes
  pub numbers : IsNumbered nodes places

-- the tree may have more nodes, and each path keeps its node and its number
pub record Grows (old new : List Node) : Type 0 where
  pub arena : IsArena new
  pub numbers_stay : (path : Path) → kept_at new path ≡ kept_at old path
  pub nodes_stay : (path : Path) (at : ℕ) → node_at old path ≡ Some at → node_at new path ≡ Some at

-- the nodes have the same ways on
abbrev pub HasSameWays : List Node → List Node → Type 0
HasSameWays old new = (at : ℕ) (part : List ℕ) → child_at new at part ≡ child_at old at part

-- each place has a node
abbrev pub HasNodes : List Node → List Path → Type 0
HasNodes nodes places = AllByRecursion (λ place. IsSome (node_at nodes place)) places
