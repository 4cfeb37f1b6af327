-- One more node and one more number change the nodes of a tree.
use Rattle.std.proofs.Common.{◌≡◌, ◌<◌, ◌≤◌, ◌+◌, ◌⊎◌, inl, inr, ℕ, zero, suc, Bool, true, false, cond, List, [], ◌∷◌, ◌++◌, length, get_or}
use Rattle.std.proofs.Common.{set, take, Option, Some, None, refl, sym, ap, ◌∙◌, subst, arith}
use Rattle.std.specs.Prelude.{◌==◌, ◌&&◌, option_and_then}
use Rattle.std.specs.List.{slice_get, AllByRecursion}
use Rattle.std.specs.Option.{IsSome}
use Rattle.std.specs.Str.{bytes_eq}
use Rattle.std.specs.BTreeMap.{get_by_text}
use Rattle.std.proofs.Math.ListN.{length-set}
use Rattle.std.proofs.lemmas.Bool.{false≢true, cases_eq, eq-eqb, eqb-true}
use Rattle.std.proofs.lemmas.List.{length_push, take_more, length-take-le}
use Rattle.std.proofs.lemmas.List.Elements.{recursion_from_All, All-from_recursion}
use Rattle.std.proofs.lemmas.Option.{slice_get_read, slice_get_past}
use Rattle.abs_path.specs.Paths.{Path}
use Rattle.abs_path.specs.Prefix.{is_same}
use Rattle.abs_path.proofs.Prefixes.{same_path, same_itself}
use Rattle.abs_path.specs.declared.place_tree.node.Node.{Node}
use Rattle.abs_path.specs.place_tree.Places.{last_at}
use Rattle.abs_path.specs.place_tree.Arena.{walk, child_at, number_at, node_at, kept_at, IsArena, IsNumbered, IsTree, Grows, HasSameWays}
use Rattle.abs_path.specs.place_tree.Arena.{HasNodes}
use Rattle.abs_path.proofs.Ways.{walk-append, walk_same, OneMore, way_was, stays, came, apart_still}
use Rattle.abs_path.proofs.Lasts.{has_last, last_push}

written_same : {X : Type 0} (xs : List X) (i : ℕ) (y : X) → i < length xs → slice_get (set xs i y) i ≡ Some y
written_same [] i y lt = absurd (omega arith)
written_same (x ∷ xs) zero y lt = refl
written_same (x ∷ xs) (suc i) y lt = written_same xs i y (omega arith)

written_other : {X : Type 0} (xs : List X) (i k : ℕ) (y : X) → (k ≡ i → ⊥) → slice_get (set xs i y) k ≡ slice_get xs k
written_other [] i k y ne = refl
written_other (x ∷ xs) zero zero y ne = absurd (ne refl)
written_other (x ∷ xs) zero (suc k) y ne = refl
written_other (x ∷ xs) (suc i) zero y ne = refl
written_other (x ∷ xs) (suc i) (suc k) y ne = written_other xs i k y (λ e. ne (ap suc e))

pushed_other : {X : Type 0} (xs : List X) (y : X) (k : ℕ) → (k ≡ length xs → ⊥) → slice_get (xs ++ y ∷ []) k ≡ slice_get xs k
pushed_other [] y zero ne = absurd (ne refl)
pushed_other [] y (suc k) ne = refl
pushed_other (x ∷ xs) y zero ne = refl
pushed_other (x ∷ xs) y (suc k) ne = pushed_other xs y k (λ e. ne (omega arith))

pushed_last : {X : Type 0} (xs : List X) (y : X) (k : ℕ) → k ≡ length xs → slice_get (xs ++ y ∷ []) k ≡ Some y
pushed_last [] y zero e = refl
pushed_last [] y (suc k) e = absurd (omega arith)
pushed_last (x ∷ xs) y zero e = absurd (omega arith)
pushed_last (x ∷ xs) y (suc k) e = pushed_last xs y k (omega arith)

test_of : (one other : ℕ) → (one ≡ other → ⊥) → (one == other) ≡ false
test_of one other ne = by (one == other) (eqb-true one other)
  where
    by : (b : Bool) → (b ≡ true → one ≡ other) → b ≡ false
    by true is = absurd (ne (is refl))
    by false is = refl

-- a node has no ways and no number, and no way leads to it
pub record IsBare (node : Node) : Type 0 where
  pub no_way : (part : List ℕ) → get_by_text node.children part ≡ None
  pub no_place : node.last ≡ None

pub bare_ways : (old : List Node) (bare : Node) → IsBare bare → HasSameWays old (old ++ bare ∷ [])
bare_ways old bare h at part = elim (cases_eq at (length old)) [
  | inl same ↦ (
      ap (option_and_then (λ node. get_by_text node.children part)) (pushed_last old bare at same) ∙ h.no_way part
      ∙ sym (ap (option_and_then (λ node. get_by_text node.children part)) (slice_get_past old at (omega arith)))
      )
  | inr other ↦ ap (option_and_then (λ node. get_by_text node.children part)) (pushed_other old bare at other)
]

pub bare_numbers : (old : List Node) (bare : Node) → IsBare bare → (at : ℕ) → number_at (old ++ bare ∷ []) at ≡ number_at old at
bare_numbers old bare h at = elim (cases_eq at (length old)) [
  | inl same ↦ (
      ap (option_and_then (λ node. node.last)) (pushed_last old bare at same) ∙ h.no_place
      ∙ sym (ap (option_and_then (λ node. node.last)) (slice_get_past old at (omega arith)))
      )
  | inr other ↦ ap (option_and_then (λ node. node.last)) (pushed_other old bare at other)
]

-- one node is written: its ways and its number, and the ways and numbers of the others
pub ways_written : (nodes : List Node) (at : ℕ) (node : Node) → at < length nodes → (from : ℕ) (part : List ℕ) →
    child_at (set nodes at node) from part ≡ cond (from == at) (get_by_text node.children part) (child_at nodes from part)
ways_written nodes at node lt from part = elim (cases_eq from at) [
  | inl same ↦ (
      ap (λ n. child_at (set nodes at node) n part) same
      ∙ ap (option_and_then (λ node. get_by_text node.children part)) (written_same nodes at node lt)
      ∙ sym (ap (λ b. cond b (get_by_text node.children part) (child_at nodes from part)) (eq-eqb from at same))
      )
  | inr other ↦ (
      ap (option_and_then (λ node. get_by_text node.children part)) (written_other nodes at from node other)
      ∙ sym (ap (λ b. cond b (get_by_text node.children part) (child_at nodes from part)) (test_of from at other))
      )
]

pub numbers_written : (nodes : List Node) (at : ℕ) (node : Node) → at < length nodes → (from : ℕ) →
    number_at (set nodes at node) from ≡ cond (from == at) node.last (number_at nodes from)
numbers_written nodes at node lt from = elim (cases_eq from at) [
  | inl same ↦ (
      ap (number_at (set nodes at node)) same
      ∙ ap (option_and_then (λ node. node.last)) (written_same nodes at node lt)
      ∙ sym (ap (λ b. cond b node.last (number_at nodes from)) (eq-eqb from at same))
      )
  | inr other ↦ (
      ap (option_and_then (λ node. node.last)) (written_other nodes at from node other)
      ∙ sym (ap (λ b. cond b node.last (number_at nodes from)) (test_of from at other))
      )
]

own_ways : (nodes : List Node) (at : ℕ) (node : Node) → at < length nodes → node ≡ get_or nodes at node → (part : List ℕ)
    → child_at nodes at part ≡ get_by_text node.children part
own_ways nodes at node lt e part = ap (option_and_then (λ node. get_by_text node.children part))
    (slice_get_read nodes (length nodes) at node refl lt e)

own_number : (nodes : List Node) (at : ℕ) (node : Node) → at < length nodes → node ≡ get_or nodes at node → number_at nodes at ≡ node.last
own_number nodes at node lt e = ap (option_and_then (λ node. node.last)) (slice_get_read nodes (length nodes) at node refl lt e)

-- if a node is written with its old ways, all ways stay
pub ways_stay : (nodes : List Node) (at : ℕ) (node next : Node) → at < length nodes → node ≡ get_or nodes at node
    → ((part : List ℕ) → get_by_text next.children part ≡ get_by_text node.children part) → HasSameWays nodes (set nodes at next)
ways_stay nodes at node next lt e same from part = ways_written nodes at next lt from part ∙ by (from == at) (eqb-true from at)
  where
    by : (b : Bool) → (b ≡ true → from ≡ at) → cond b (get_by_text next.children part) (child_at nodes from part) ≡ child_at nodes from part
    by true is = same part ∙ sym (own_ways nodes at node lt e part) ∙ ap (λ n. child_at nodes n part) (sym (is refl))
    by false is = refl

-- if a node is written with its old number, all numbers stay
pub numbers_stay : (nodes : List Node) (at : ℕ) (node next : Node) → at < length nodes → node ≡ get_or nodes at node
    → next.last ≡ node.last → (from : ℕ) → number_at (set nodes at next) from ≡ number_at nodes from
numbers_stay nodes at node next lt e same from = numbers_written nodes at next lt from ∙ by (from == at) (eqb-true from at)
  where
    by : (b : Bool) → (b ≡ true → from ≡ at) → cond b next.last (number_at nodes from) ≡ number_at nodes from
    by true is = same ∙ sym (own_number nodes at node lt e) ∙ ap (number_at nodes) (sym (is refl))
    by false is = refl

-- the nodes have the same ways
pub same_nodes : (old new : List Node) → HasSameWays old new → (path : Path) → node_at new path ≡ node_at old path
same_nodes old new same path = walk_same (child_at old) (child_at new) same 0 path

pub arena_same : (old new : List Node) → IsArena old → length old ≤ length new → HasSameWays old new → IsArena new
arena_same old new h longer same = record {
  has_root = omega (arith, h.has_root);
  in_range = λ at child part e. let below = h.in_range at child part (sym (same at part) ∙ e) in omega arith;
  apart = λ one other at e f. h.apart one other at (sym (same_nodes old new same one) ∙ e) (sym (same_nodes old new same other) ∙ f);
}

pub grows_same : (old new : List Node) → IsArena old → length old ≤ length new → HasSameWays old new
    → ((at : ℕ) → number_at new at ≡ number_at old at) → Grows old new
grows_same old new h longer same numbers = record {
  arena = arena_same old new h longer same;
  numbers_stay = λ path. ap (option_and_then (number_at new)) (same_nodes old new same path) ∙ by (node_at old path);
  nodes_stay = λ path at e. same_nodes old new same path ∙ e;
}
  where
    by : (o : Option ℕ) → option_and_then (number_at new) o ≡ option_and_then (number_at old) o
    by None = refl
    by (Some at) = numbers at

pub grows_itself : (nodes : List Node) → IsArena nodes → Grows nodes nodes
grows_itself nodes h = record { arena = h; numbers_stay = λ path. refl; nodes_stay = λ path at e. e }

pub grows_on : (one two three : List Node) → Grows one two → Grows two three → Grows one three
grows_on one two three h g = record {
  arena = g.arena;
  numbers_stay = λ path. g.numbers_stay path ∙ h.numbers_stay path;
  nodes_stay = λ path at e. g.nodes_stay path at (h.nodes_stay path at e);
}

-- the tree has a new node with a way to it
grows_more : (old new : List Node) (at : ℕ) (part : List ℕ) → IsArena old → OneMore (child_at old) (child_at new) at part (length old)
    → length old < length new →
    ((from : ℕ) → number_at new from ≡ number_at old from) → Grows old new
grows_more old new at part h more longer numbers = record {
  arena = record { has_root = omega (arith, h.has_root); in_range = in_range; apart = apart_still (child_at old) (child_at new) at part (length old) more h.has_root h.apart };
  numbers_stay = λ path. by path (node_at new path) (node_at old path) (came_to path)
      (stays (child_at old) (child_at new) at part (length old) more 0) refl refl;
  nodes_stay = λ path to e. stays (child_at old) (child_at new) at part (length old) more 0 to path e;
}
  where
    in_range : (from to : ℕ) (step : List ℕ) → child_at new from step ≡ Some to → to < length new
    in_range from to step e = elim (way_was (child_at old) (child_at new) at part (length old) more from to step e) [
      | inl old ↦ let below = h.in_range from to step old in omega arith
      | inr new ↦ let same = new.2 in omega arith
    ]

    came_to : (path : Path) (to : ℕ) → node_at new path ≡ Some to
        → (node_at old path ≡ Some to) ⊎ ((to ≡ length old) × (node_at old path ≡ None))
    came_to path to e = elim (came (child_at old) (child_at new) at part (length old) more 0 to path h.has_root e) [
      | inl old ↦ inl old.1
      | inr new ↦ inr (
        new.0,
        ap (node_at old) new.2 ∙ walk-append (child_at old) 0 new.1 (part ∷ [])
            ∙ ap (option_and_then (λ node. walk (child_at old) node (part ∷ []))) new.3
            ∙ ap (option_and_then (λ child. Some child)) more.none,
      )
    ]

    by : (path : Path) (o was : Option ℕ) → ((to : ℕ) → o ≡ Some to → (was ≡ Some to) ⊎ ((to ≡ length old) × (was ≡ None)))
        → ((to : ℕ) (path : Path) → node_at old path ≡ Some to → node_at new path ≡ Some to) →
        node_at new path ≡ o → node_at old path ≡ was → option_and_then (number_at new) o ≡ option_and_then (number_at old) was
    by path None None to stay e f = refl
    by path None (Some node) to stay e f = let there = stay node path f in cc
    by path (Some node) was to stay e f = elim (to node refl) [
      | inl same ↦ numbers node ∙ sym (ap (option_and_then (number_at old)) same)
      | inr fresh ↦ (
          numbers node ∙ ap (number_at old) fresh.0 ∙ ap (option_and_then (λ node. node.last))
          (slice_get_past old (length old) (omega arith))
          ∙ sym (ap (option_and_then (number_at old)) fresh.1)
          )
    ]

pub record Made (old pushed : List Node) (bare node next : Node) (at : ℕ) (part : List ℕ) : Type 0 where
  pub pushed_is : pushed ≡ old ++ bare ∷ []
  pub is_bare : IsBare bare
  pub arena : IsArena old
  pub in_range : at < length old
  pub none : child_at old at part ≡ None
  pub node_is : node ≡ get_or pushed at node
  pub number : next.last ≡ node.last
  pub ways : (step : List ℕ) → get_by_text next.children step
      ≡ cond (bytes_eq part step) (Some (length old)) (get_by_text node.children step)

one_more : (old pushed : List Node) (bare node next : Node) (at : ℕ) (part : List ℕ) → Made old pushed bare node next at part
    → OneMore (child_at old) (child_at (set pushed at next)) at part (length old)
one_more old pushed bare node next at part h = record {
  below = h.in_range;
  none = h.none;
  in_range = λ from to step e. h.arena.in_range from to step e;
  ends = λ step. ap (option_and_then (λ node. get_by_text node.children step)) (slice_get_past old (length old) (omega arith));
  is = λ from step. ways_written pushed at next below_pushed from step ∙ by from step (from == at) (eqb-true from at);
}
  where
    below_pushed : at < length pushed
    below_pushed = let longer = ap length h.pushed_is ∙ length_push old bare in let lt = h.in_range in omega arith

    was : (from : ℕ) (step : List ℕ) → child_at pushed from step ≡ child_at old from step
    was from step = ap (λ nodes. child_at nodes from step) h.pushed_is ∙ bare_ways old bare h.is_bare from step

    by : (from : ℕ) (step : List ℕ) (b : Bool) → (b ≡ true → from ≡ at)
        → cond b (get_by_text next.children step) (child_at pushed from step)
        ≡ cond (b && bytes_eq part step) (Some (length old)) (child_at old from step)
    by from step false is = was from step
    by from step true is =
        h.ways step
        ∙ ap (λ o. cond (bytes_eq part step) (Some (length old)) o)
        (sym (own_ways pushed at node below_pushed h.node_is step) ∙ ap (λ n. child_at pushed n step) (sym (is refl)) ∙ was from step)

pub made_grows : (old pushed : List Node) (bare node next : Node) (at : ℕ) (part : List ℕ) → Made old pushed bare node next at part
    → Grows old (set pushed at next)
made_grows old pushed bare node next at part h =
    let longer = ap length h.pushed_is ∙ length_push old bare in
    let lt = h.in_range in
    let same = length-set pushed at next in
    grows_more old (set pushed at next) at part h.arena (one_more old pushed bare node next at part h) (omega arith)
    (λ from. numbers_stay pushed at node next (omega arith) h.node_is h.number from ∙ ap (λ nodes. number_at nodes from) h.pushed_is
    ∙ bare_numbers old bare h.is_bare from)

pub made_way : (old pushed : List Node) (bare node next : Node) (at : ℕ) (part : List ℕ) → Made old pushed bare node next at part
    → bytes_eq part part ≡ true → child_at (set pushed at next) at part ≡ Some (length old)
made_way old pushed bare node next at part h own =
    let more = one_more old pushed bare node next at part h in
    more.is at part ∙ ap (λ b. cond (b && bytes_eq part part) (Some (length old)) (child_at old at part)) (eq-eqb at at refl)
    ∙ ap (λ b. cond b (Some (length old)) (child_at old at part)) own

-- the node of a place keeps the number of the place
pub record Numbers (old new : List Node) (at number : ℕ) (place : Path) : Type 0 where
  pub arena : IsArena old
  pub node : node_at old place ≡ Some at
  pub same : HasSameWays old new
  pub numbers : (from : ℕ) → number_at new from ≡ cond (from == at) (Some number) (number_at old from)

pub numbers_place : (old new : List Node) (at number : ℕ) (place path : Path) → Numbers old new at number place
    → kept_at new path ≡ cond (is_same place path) (Some number) (kept_at old path)
numbers_place old new at number place path h = ap (option_and_then (number_at new)) (same_nodes old new h.same path)
    ∙ by (node_at old path) (is_same place path) refl (same_path place path) (λ e. ap (is_same place) (sym e) ∙ same_itself place)
  where
    by : (o : Option ℕ) (b : Bool) → node_at old path ≡ o → (b ≡ true → place ≡ path) → (place ≡ path → b ≡ true)
        → option_and_then (number_at new) o ≡ cond b (Some number) (option_and_then (number_at old) o)
    by None true e is was = let there = ap (node_at old) (sym (is refl)) ∙ h.node in cc
    by None false e is was = refl
    by (Some node) true e is was =
        let there = ap (node_at old) (sym (is refl)) ∙ h.node in
        let same : node ≡ at = cc in
        h.numbers node ∙ ap (λ b. cond b (Some number) (number_at old node)) (eq-eqb node at same)
    by (Some node) false e is was =
        h.numbers node ∙ ap (λ b. cond b (Some number) (number_at old node))
        (test_of node at (λ same. false≢true (was (h.arena.apart place path node (h.node ∙ ap Some (sym same)) e))))

pub numbered_push : (old new : List Node) (at : ℕ) (places : List Path) (place : Path) → IsNumbered old places
    → Numbers old new at (length places) place → IsNumbered new (places ++ place ∷ [])
numbered_push old new at places place so h path =
    numbers_place old new at (length places) place path h ∙ ap (cond (is_same place path) (Some (length places))) (so path)
    ∙ sym (last_push path places place)

-- each place of a tree has a node
some_node : (nodes : List Node) (places : List Path) (path : Path) (at : ℕ) → IsNumbered nodes places → last_at path places ≡ Some at
    → IsSome (node_at nodes path)
some_node nodes places path at so e = by (node_at nodes path) (so path ∙ e)
  where
    by : (o : Option ℕ) → option_and_then (number_at nodes) o ≡ Some at → IsSome o
    by None e = absurd (let f : None ≡ Some at = e in cc)
    by (Some node) e = refl

pub place_has_node : (nodes : List Node) (places : List Path) → IsNumbered nodes places → (k : ℕ) (d : Path) → k < length places
    → IsSome (node_at nodes (get_or places k d))
place_has_node nodes places so k d lt = let own = has_last places k d lt in some_node nodes places (get_or places k d) own.0 so own.1

pub have_nodes : (nodes : List Node) (places : List Path) → IsNumbered nodes places → HasNodes nodes places
have_nodes nodes places so = recursion_from_All (λ place. IsSome (node_at nodes place)) places (place_has_node nodes places so)

-- nodes with the same ways have a node for the same places
pub have_same_nodes : (old new : List Node) (places : List Path) → HasSameWays old new → HasNodes old places → HasNodes new places
have_same_nodes old new [] same h = tt
have_same_nodes old new (place ∷ places) same h =
    (subst (λ (o : Option ℕ). IsSome o) (sym (same_nodes old new same place)) h.0, have_same_nodes old new places same h.1)

pub take_all : (P : Path → Type 0) (places : List Path) (n : ℕ) → AllByRecursion P places → AllByRecursion P (take n places)
take_all P [] zero h = tt
take_all P [] (suc n) h = tt
take_all P (place ∷ places) zero h = tt
take_all P (place ∷ places) (suc n) h = (h.0, take_all P places n h.1)

-- the tree has a new node and no way to it
pub unmade_grows : (old pushed : List Node) (bare node next : Node) (at : ℕ) → pushed ≡ old ++ bare ∷ [] → IsBare bare → IsArena old
    → at < length old → node ≡ get_or pushed at node → next.last ≡ node.last →
    ((part : List ℕ) → get_by_text next.children part ≡ get_by_text node.children part) → Grows old (set pushed at next)
unmade_grows old pushed bare node next at e bare_is h lt own number ways =
    let longer = ap length e ∙ length_push old bare in
    let same = length-set pushed at next in
    grows_same old (set pushed at next) h (omega arith)
    (λ from part. ways_stay pushed at node next (omega arith) own ways from part ∙ ap (λ nodes. child_at nodes from part) e
    ∙ bare_ways old bare bare_is from part)
    (λ from. numbers_stay pushed at node next (omega arith) own number from ∙ ap (λ nodes. number_at nodes from) e
    ∙ bare_numbers old bare bare_is from)

-- a lone node without ways is the tree of no places
pub empty_tree : (bare : Node) (nodes : List Node) (places : List Path) → IsBare bare → nodes ≡ bare ∷ [] → places ≡ []
    → IsTree nodes places
empty_tree bare nodes places h e f = subst (λ (l : List Node). IsTree l places) (sym e)
    (subst (λ (l : List Path). IsTree (bare ∷ []) l) (sym f) (record {
      arena = record { has_root = omega arith; in_range = in_range; apart = apart };
      numbers = numbers;
    }))
  where
    no_way : (from : ℕ) (part : List ℕ) → child_at (bare ∷ []) from part ≡ None
    no_way zero part = h.no_way part
    no_way (suc from) part = refl

    in_range : (from to : ℕ) (part : List ℕ) → child_at (bare ∷ []) from part ≡ Some to → to < length (bare ∷ [])
    in_range from to part e = absurd (let none = no_way from part in cc)

    no_node : (part : List ℕ) (path : Path) → node_at (bare ∷ []) (part ∷ path) ≡ None
    no_node part path = ap (option_and_then (λ child. walk (child_at (bare ∷ [])) child path)) (no_way 0 part)

    apart : (one other : Path) (at : ℕ) → node_at (bare ∷ []) one ≡ Some at → node_at (bare ∷ []) other ≡ Some at → one ≡ other
    apart [] [] at e f = refl
    apart [] (part ∷ other) at e f = absurd (let none = no_node part other in cc)
    apart (part ∷ one) other at e f = absurd (let none = no_node part one in cc)

    numbers : (path : Path) → kept_at (bare ∷ []) path ≡ None
    numbers [] = h.no_place
    numbers (part ∷ path) = ap (option_and_then (number_at (bare ∷ []))) (no_node part path)

-- the number of one more place is written at its node
pub record Placed (nodes : List Node) (node next : Node) (at : ℕ) (places : List Path) (place : Path) : Type 0 where
  pub tree : IsTree nodes places
  pub node_of_place : node_at nodes place ≡ Some at
  pub in_range : at < length nodes
  pub node_is : node ≡ get_or nodes at node
  pub ways : (part : List ℕ) → get_by_text next.children part ≡ get_by_text node.children part
  pub number : next.last ≡ Some (length places)

pub placed_ways : (nodes : List Node) (node next : Node) (at : ℕ) (places : List Path) (place : Path)
    → Placed nodes node next at places place → HasSameWays nodes (set nodes at next)
placed_ways nodes node next at places place h = ways_stay nodes at node next h.in_range h.node_is h.ways

pub placed_tree : (nodes : List Node) (node next : Node) (at : ℕ) (places : List Path) (place : Path)
    → Placed nodes node next at places place → IsTree (set nodes at next) (places ++ place ∷ [])
placed_tree nodes node next at places place h =
    let same = length-set nodes at next in
    record {
      arena = arena_same nodes (set nodes at next) h.tree.arena (omega arith) (placed_ways nodes node next at places place h);
      numbers = numbered_push nodes (set nodes at next) at places place h.tree.numbers (record {
        arena = h.tree.arena;
        node = h.node_of_place;
        same = placed_ways nodes node next at places place h;
        numbers = λ from. numbers_written nodes at next h.in_range from ∙ ap (λ o. cond (from == at) o (number_at nodes from)) h.number;
      });
    }

pub grown_tree : (old new : List Node) (places : List Path) → IsTree old places → Grows old new → IsTree new places
grown_tree old new places h g = record { arena = g.arena; numbers = λ path. g.numbers_stay path ∙ h.numbers path }

-- one turn of numbering: the number of a place is written at the node of the place, and each place has a node
pub numbered_turn : (nodes : List Node) (node next : Node) (at index : ℕ) (places : List Path) (place : Path)
    → IsTree nodes (take index places) → HasNodes nodes places → index < length places → place ≡ get_or places index place →
    node_at nodes place ≡ Some at → at < length nodes → node ≡ get_or nodes at node
    → ((part : List ℕ) → get_by_text next.children part ≡ get_by_text node.children part) → next.last ≡ Some index →
    IsTree (set nodes at next) (take (index + 1) places) × HasNodes (set nodes at next) places
numbered_turn nodes node next at index places place tree have lt is own below node_is ways number =
    let placed : Placed nodes node next at (take index places) place = record {
      tree = tree;
      node_of_place = own;
      in_range = below;
      node_is = node_is;
      ways = ways;
      number = number ∙ ap Some (sym (length-take-le index places (omega arith)));
    } in (
      subst (λ (l : List Path). IsTree (set nodes at next) l)
          (ap (λ (p : Path). take index places ++ p ∷ []) is ∙ sym (take_more places index place lt))
          (placed_tree nodes node next at (take index places) place placed),
      have_same_nodes nodes (set nodes at next) places (placed_ways nodes node next at (take index places) place placed) have,
    )

pub numbered_each : (nodes : List Node) (index : ℕ) (places : List Path) (place : Path) → HasNodes nodes places → index < length places
    → place ≡ get_or places index place → node_at nodes place ≡ None → ⊥
numbered_each nodes index places place have lt is none =
    let some = All-from_recursion (λ place. IsSome (node_at nodes place)) places have index place lt in
    false≢true (subst (λ (o : Option ℕ). IsSome o) (ap (node_at nodes) (sym is) ∙ none) some)

pub placed_tree_as : (nodes : List Node) (node next : Node) (at : ℕ) (places more : List Path) (place : Path)
    → Placed nodes node next at places place → more ≡ places ++ place ∷ [] → IsTree (set nodes at next) more
placed_tree_as nodes node next at places more place h e = subst (λ (l : List Path). IsTree (set nodes at next) l) (sym e)
    (placed_tree nodes node next at places place h)
