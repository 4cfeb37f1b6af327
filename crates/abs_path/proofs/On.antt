-- A way down a tree has reached the node of a front of the path, the rest of its text, and the last place found so far.
use Rattle.std.proofs.Common.{◌≡◌, inl, inr, ℕ, Bool, true, false, List, [], ◌∷◌, ◌++◌, get_or, Option, Some, None, refl, sym, ap, ◌∙◌}
use Rattle.std.proofs.Common.{subst, append_assoc}
use Rattle.std.specs.Prelude.{◌||◌, option_and_then}
use Rattle.std.specs.Option.{IsSome}
use Rattle.std.proofs.lemmas.Bool.{false≢true}
use Rattle.abs_path.specs.Paths.{Path, parts_of, text_of, is_normal}
use Rattle.abs_path.specs.Prefix.{is_prefix, is_same}
use Rattle.abs_path.proofs.Prefixes.{prefix_trans, prefix-append}
use Rattle.abs_path.proofs.Reading.{text_parts}
use Rattle.abs_path.specs.declared.place_tree.node.Node.{Node}
use Rattle.abs_path.specs.place_tree.Places.{IsLastLeading, later, last_at}
use Rattle.abs_path.specs.place_tree.Arena.{walk, child_at, number_at, node_at, IsNumbered, Grows}
use Rattle.abs_path.proofs.Ways.{walk-append}
use Rattle.abs_path.proofs.Lasts.{same_kind, last_of_either, last_same, one_part_more, front_or_on}
use Rattle.abs_path.proofs.Nodes.{place_has_node}

pub record On (nodes : List Node) (path : Path) (at : ℕ) (rest : List ℕ) : Type 0 where
  pub front : Path
  pub whole : front ++ parts_of rest ≡ path
  pub node : node_at nodes front ≡ Some at

pub on_start : (nodes : List Node) (path : Path) (text : List ℕ) → is_normal path ≡ true → text ≡ text_of path → On nodes path 0 text
on_start nodes path text normal e = record { front = []; whole = ap parts_of e ∙ text_parts path normal; node = refl }

on_child : (nodes : List Node) (front : Path) (at : ℕ) (part : List ℕ) (o : Option ℕ) → node_at nodes front ≡ Some at
    → child_at nodes at part ≡ o → node_at nodes (front ++ part ∷ []) ≡ o
on_child nodes front at part o h e =
    walk-append (child_at nodes) 0 front (part ∷ []) ∙ ap (option_and_then (λ node. walk (child_at nodes) node (part ∷ []))) h
    ∙ ap (option_and_then (λ child. Some child)) e ∙ by o
  where
    by : (o : Option ℕ) → option_and_then (λ child. Some child) o ≡ o
    by None = refl
    by (Some child) = refl

pub on_step : (nodes : List Node) (path : Path) (at child : ℕ) (rest part more : List ℕ) → On nodes path at rest
    → parts_of rest ≡ part ∷ parts_of more → child_at nodes at part ≡ Some child → On nodes path child more
on_step nodes path at child rest part more h e way = record {
  front = h.front ++ part ∷ [];
  whole = append_assoc h.front (part ∷ []) (parts_of more) ∙ ap (λ (p : Path). h.front ++ p) (sym e) ∙ h.whole;
  node = on_child nodes h.front at part (Some child) h.node way;
}

pub no_node : (nodes : List Node) (path : Path) (at : ℕ) (rest part more : List ℕ) → On nodes path at rest
    → parts_of rest ≡ part ∷ parts_of more → child_at nodes at part ≡ None → node_at nodes path ≡ None
no_node nodes path at rest part more h e none =
    ap (node_at nodes) (sym h.whole ∙ ap (λ (p : Path). h.front ++ p) e)
    ∙ walk-append (child_at nodes) 0 h.front (part ∷ parts_of more)
    ∙ ap (option_and_then (λ node. walk (child_at nodes) node (part ∷ parts_of more))) h.node
    ∙ ap (option_and_then (λ child. walk (child_at nodes) child (parts_of more))) none

-- the last place that leads to the front is found
abbrev pub Found : List Node → Path → Option ℕ → Type 0
Found nodes front found = (places : List Path) → IsNumbered nodes places → IsLastLeading places front found

root_only : (place : Path) → is_prefix place [] ≡ is_same place []
root_only [] = refl
root_only (part ∷ place) = refl

pub found_start : (nodes : List Node) (found : Option ℕ) → found ≡ number_at nodes 0 → Found nodes [] found
found_start nodes found e places so =
    subst (λ (o : Option ℕ). IsLastLeading places [] o) (sym (so []) ∙ sym e)
    (same_kind (λ place. is_same place []) (λ place. is_prefix place []) places (last_at [] places)
    (λ k d lt. root_only (get_or places k d)) (last_same [] places))

pub found_step : (nodes : List Node) (front : Path) (at child : ℕ) (part : List ℕ) (found more : Option ℕ) → node_at nodes front ≡ Some at
    → child_at nodes at part ≡ Some child →
    more ≡ later found (number_at nodes child) → Found nodes front found → Found nodes (front ++ part ∷ []) more
found_step nodes front at child part found more h way e so_far places so =
    let here : number_at nodes child ≡ last_at (front ++ part ∷ []) places = sym (ap (option_and_then (number_at nodes)) (on_child nodes front at part (Some child) h way)) ∙ so (front ++ part ∷ []) in
    subst (λ (o : Option ℕ). IsLastLeading places (front ++ part ∷ []) o) (ap (later found) (sym here) ∙ sym e)
    (same_kind (λ place. is_prefix place front || is_same place (front ++ part ∷ []))
    (λ place. is_prefix place (front ++ part ∷ [])) places (later found (last_at (front ++ part ∷ []) places))
    (λ k d lt. one_part_more (get_or places k d) front part)
    (last_of_either (λ place. is_prefix place front) (λ place. is_same place (front ++ part ∷ [])) places found
    (last_at (front ++ part ∷ []) places) (so_far places so) (last_same (front ++ part ∷ []) places)))

-- if no way leads on, no place after the front leads to the path
pub found_stop : (nodes : List Node) (path : Path) (at : ℕ) (rest part more : List ℕ) (found : Option ℕ) → (h : On nodes path at rest)
    → parts_of rest ≡ part ∷ parts_of more → child_at nodes at part ≡ None →
    Found nodes h.front found → Found nodes path found
found_stop nodes path at rest part more found h e none so_far places so =
    same_kind (λ place. is_prefix place h.front) (λ place. is_prefix place path) places found
    (λ k d lt. by (get_or places k d) (is_prefix (get_or places k d) path) (is_prefix (get_or places k d) h.front)
    (place_has_node nodes places so k d lt) refl refl) (so_far places so)
  where
    path_is : path ≡ h.front ++ part ∷ parts_of more
    path_is = sym h.whole ∙ ap (λ (p : Path). h.front ++ p) e

    gone : (rest : Path) → node_at nodes (h.front ++ part ∷ rest) ≡ None
    gone rest =
        walk-append (child_at nodes) 0 h.front (part ∷ rest)
        ∙ ap (option_and_then (λ node. walk (child_at nodes) node (part ∷ rest))) h.node
        ∙ ap (option_and_then (λ child. walk (child_at nodes) child rest)) none

    by : (place : Path) (one other : Bool) → IsSome (node_at nodes place) → is_prefix place path ≡ one → is_prefix place h.front ≡ other
        → one ≡ other
    by place true true has f g = refl
    by place false false has f g = refl
    by place false true has f g =
        absurd (false≢true (sym f ∙ prefix_trans place h.front path g
        (subst (λ (p : Path). is_prefix h.front p ≡ true) (sym path_is) (prefix-append h.front (part ∷ parts_of more)))))
    by place true false has f g =
        elim (front_or_on place h.front part (parts_of more) (subst (λ (p : Path). is_prefix place p ≡ true) path_is f)) [
          | inl leads ↦ absurd (false≢true (sym g ∙ leads))
          | inr on ↦ absurd (false≢true (subst (λ (o : Option ℕ). IsSome o) (ap (node_at nodes) on.1 ∙ gone on.0) has))
        ]

pub on_grown : (old new : List Node) (path : Path) (at : ℕ) (rest : List ℕ) → Grows old new → On old path at rest → On new path at rest
on_grown old new path at rest g h = record { front = h.front; whole = h.whole; node = g.nodes_stay h.front at h.node }

-- both facts, on the way down
abbrev pub OnAndFound : List Node → Path → ℕ → List ℕ → Option ℕ → Type 0
OnAndFound nodes path at rest found = (on : On nodes path at rest) × Found nodes on.front found

pub both_start : (nodes : List Node) (path : Path) (text : List ℕ) (found : Option ℕ) → is_normal path ≡ true → text ≡ text_of path
    → found ≡ number_at nodes 0 → OnAndFound nodes path 0 text found
both_start nodes path text found normal e f =
    (record { front = []; whole = ap parts_of e ∙ text_parts path normal; node = refl }, found_start nodes found f)

pub both_step : (nodes : List Node) (path : Path) (at child : ℕ) (rest part after : List ℕ) (found more : Option ℕ)
    → (h : On nodes path at rest) → Found nodes h.front found → parts_of rest ≡ part ∷ parts_of after
    → child_at nodes at part ≡ Some child →
    more ≡ later found (number_at nodes child) → OnAndFound nodes path child after more
both_step nodes path at child rest part after found more h so_far e way f = (
  record {
    front = h.front ++ part ∷ [];
    whole = append_assoc h.front (part ∷ []) (parts_of after) ∙ ap (λ (p : Path). h.front ++ p) (sym e) ∙ h.whole;
    node = on_child nodes h.front at part (Some child) h.node way;
  },
  found_step nodes h.front at child part found more h.node way f so_far,
)
