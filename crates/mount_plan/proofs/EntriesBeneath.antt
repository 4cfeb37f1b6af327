-- What lies beneath a listed entry is seen in the folder of its path, or is a node at the path itself.
use Rattle.std.proofs.Common.{◌≡◌, inl, inr, Bool, true, false, cond, List, [], ◌∷◌, ◌++◌, map, Option, Some, None, refl}
use Rattle.std.proofs.Common.{sym, ap, ◌∙◌, subst, append_assoc}
use Rattle.std.specs.Prelude.{◌&&◌, ◌||◌, is_some, not, option_and_then}
use Rattle.std.specs.List.{AllByRecursion, list_any}
use Rattle.std.specs.Option.{option_map_or}
use Rattle.std.specs.Bool.{beq}
use Rattle.std.proofs.lemmas.Bool.{false≢true, and_parts, and_from, false_from_ne_true}
use Rattle.path_settings.specs.abs_path.Paths.{Path, is_normal}
use Rattle.path_settings.specs.abs_path.Prefix.{is_prefix, is_same, is_below, rest_of}
use Rattle.path_settings.specs.declared.systemd.entries.MountEntry.{MountEntry}
use Rattle.path_settings.specs.declared.systemd.modes.MountMode.{MountMode}
use Rattle.path_settings.specs.declared.systemd.modes.MountMode.TheVariants.{Hidden, Bind, DisconnectedTmp, RecursiveBind, PrivateTmp}
use Rattle.path_settings.specs.declared.systemd.modes.MountMode.TheVariants.{PrivateDevices, Tmpfs, Node}
use Rattle.path_settings.specs.declared.view_map.rules.Beneath.{Beneath}
use Rattle.path_settings.specs.declared.view_map.rules.Beneath.TheVariants as beneath
use Rattle.path_settings.specs.declared.view_map.rules.Fate.TheVariants as fate
use Rattle.path_settings.specs.systemd.Modes.{grants_the_same, hides, is_node, is_origin, is_private_devices}
use Rattle.path_settings.specs.systemd.Chosen.{chosen_at, is_strongest_at}
use Rattle.path_settings.specs.systemd.Listed.{chosen_above, is_covered, is_vain, is_vain_below, listed, listed_at, paths_of, unless_vain}
use Rattle.path_settings.specs.systemd.Made.{has_source, mode_fate}
use Rattle.path_settings.specs.systemd.Made.{nodes, object_by, puts, refusal_by}
use Rattle.path_settings.specs.systemd.Made.{source_row}
use Rattle.path_settings.specs.view_map.Kept.{Host, is_kept}
use Rattle.path_settings.specs.view_map.Object.{on_host, object_behind}
use Rattle.path_settings.specs.view_map.Rules.{bind_fate, tmp_fate}
use Rattle.path_settings.proofs.OfAbsPath.Prefixes.{prefix_and_rest, prefix_antisymm, prefix_trans, rest_through, same_itself, same_path}
use Rattle.path_settings.proofs.OfAbsPath.Placed.{in_byte_order_was}
use Rattle.path_settings.proofs.ViewMapLists.{filter_is, find_passes, mapped_all}
use Rattle.mount_plan.proofs.EntriesAsView.{IsOneOf, all_one_of, has_one}
use Rattle.mount_plan.proofs.EntriesBest.{one_is_chosen, picked_among}
use Rattle.mount_plan.proofs.EntriesMade.{either, nodes_are_nodes, nodes_is}

-- ---- one mode
-- a mode gives at a path the object that it gives at a place on the way, followed by the rest
pub carried : (mode : MountMode) (front place path : Path) → is_prefix front place ≡ true → is_prefix place path ≡ true
    → object_behind (object_by mode front place) (rest_of place path) ≡ object_by mode front path
carried Hidden front place path h leads = refl
carried (Bind source read_only) front place path h leads =
    ap on_host (append_assoc source (rest_of front place) (rest_of place path)
    ∙ ap (λ rest. source ++ rest) (sym (rest_through front place path h leads)))
carried DisconnectedTmp front place path h leads = refl
carried (RecursiveBind source read_only) front place path h leads =
    ap on_host (append_assoc source (rest_of front place) (rest_of place path)
    ∙ ap (λ rest. source ++ rest) (sym (rest_through front place path h leads)))
carried PrivateTmp front place path h leads = refl
carried PrivateDevices front place path h leads = refl
carried (Tmpfs read_only no_exec no_suid) front place path h leads = refl
carried _ front place path h leads = ap on_host (prefix_and_rest place path leads)

pub node_object : (mode : MountMode) (place path : Path) → is_node mode ≡ true → object_by mode place path ≡ on_host path
node_object Node place path h = refl
node_object _ place path h = absurd (false≢true h)

pub node_is_origin : (mode : MountMode) → is_node mode ≡ true → is_origin mode ≡ true
node_is_origin Node h = refl
node_is_origin _ h = absurd (false≢true h)

pub node_is_seen : (mode : MountMode) → is_node mode ≡ true → hides mode ≡ false
node_is_seen Node h = refl
node_is_seen _ h = absurd (false≢true h)

nothing_the_same : (mode over : MountMode) → is_private_devices over ≡ true → grants_the_same mode over ≡ false
nothing_the_same own PrivateDevices h = by own
  where
    by : (mode : MountMode) → grants_the_same mode PrivateDevices ≡ false
    by Hidden = refl
    by _ = refl
nothing_the_same own _ h = absurd (false≢true h)

-- ---- fates
by_kind : (one : MountEntry) (b : Bool) → refusal_by one (cond b fate.Kept fate.WrongKind) ≡ None
    → is_kept (cond b fate.Kept fate.WrongKind) ≡ true
by_kind one true h = refl
by_kind one false h = let bad : ⊥ = cc in absurd bad

-- a bind whose source exists is kept, unless it is refused
bind_kept : (o : Option Bool) (here : Beneath) (one : MountEntry) → is_some o ≡ true → refusal_by one (bind_fate o here one.optional) ≡ None
    → is_kept (bind_fate o here one.optional) ≡ true
bind_kept None here one there h = absurd (false≢true there)
bind_kept (Some is_dir) (beneath.Row own) one there h = by_kind one (beq is_dir own) h
bind_kept (Some is_dir) _ one there h = refl

tmp_kept : (here : Beneath) (one : MountEntry) → refusal_by one (tmp_fate here) ≡ None → is_kept (tmp_fate here) ≡ true
tmp_kept (beneath.Row is_dir) one h = by_kind one is_dir h
tmp_kept _ one h = refl

source_kept : (o : Option Bool) (here : Beneath) (optional : Bool) → is_kept (bind_fate o here optional) ≡ true → is_some o ≡ true
source_kept None here true h = absurd (false≢true h)
source_kept None here false h = absurd (false≢true h)
source_kept (Some is_dir) here optional h = refl

-- so an entry that puts an object is kept, unless it is refused
abbrev entry : Path → MountMode → Bool → MountEntry
entry path mode optional = record { path = path; mode = mode; optional = optional }

pub put_kept : (row_at : Host) (here : Beneath) (path : Path) (mode : MountMode) (optional : Bool)
    → refusal_by (entry path mode optional) (mode_fate (source_row row_at (entry path mode optional)) here optional mode) ≡ None
    → puts row_at (entry path mode optional) ≡ true
    → is_kept (mode_fate (source_row row_at (entry path mode optional)) here optional mode) ≡ true
put_kept row_at here path (Bind source read_only) optional h put =
    bind_kept (row_at source) here (entry path (Bind source read_only) optional) put h
put_kept row_at here path DisconnectedTmp optional h put = tmp_kept here (entry path DisconnectedTmp optional) h
put_kept row_at here path (RecursiveBind source read_only) optional h put =
    bind_kept (row_at source) here (entry path (RecursiveBind source read_only) optional) put h
put_kept row_at here path PrivateTmp optional h put = tmp_kept here (entry path PrivateTmp optional) h
put_kept row_at here path PrivateDevices optional h put = tmp_kept here (entry path PrivateDevices optional) h
put_kept row_at here path (Tmpfs read_only no_exec no_suid) optional h put = tmp_kept here (entry path (Tmpfs read_only no_exec no_suid) optional) h
put_kept row_at here path Node optional h put = bind_kept (row_at path) here (entry path Node optional) put h
put_kept row_at here path _ optional h put = absurd (false≢true put)

-- and the source of an entry that is kept exists
pub kept_source : (row_at : Host) (here : Beneath) (path : Path) (mode : MountMode) (optional : Bool)
    → is_kept (mode_fate (source_row row_at (entry path mode optional)) here optional mode) ≡ true
    → has_source row_at (entry path mode optional) ≡ true
kept_source row_at here path (Bind source read_only) optional h = source_kept (row_at source) here optional h
kept_source row_at here path (RecursiveBind source read_only) optional h = source_kept (row_at source) here optional h
kept_source row_at here path Node optional h = source_kept (row_at path) here optional h
kept_source row_at here path _ optional h = refl

-- ---- tests
pub or_left : (a b : Bool) → a ≡ true → (a || b) ≡ true
or_left true b h = refl
or_left false b h = absurd (false≢true h)

pub or_right : (a b : Bool) → b ≡ true → (a || b) ≡ true
or_right true b h = refl
or_right false b h = h

either_false : (a b d : Bool) → a ≡ false → d ≡ true → (a || (b && not d)) ≡ false
either_false true b d h is = absurd (false≢true (sym h))
either_false false true true h is = refl
either_false false true false h is = absurd (false≢true is)
either_false false false d h is = refl

not_vain_then : (a b d : Bool) → (a || (b && not d)) ≡ false → b ≡ true → d ≡ true
not_vain_then true b d h is = absurd (false≢true (sym h))
not_vain_then false true true h is = refl
not_vain_then false true false h is = absurd (false≢true (sym h))
not_vain_then false false d h is = absurd (false≢true is)

any_weaker : (p q : MountEntry → Bool) (some : List MountEntry) → ((one : MountEntry) → p one ≡ true → q one ≡ true)
    → list_any p some ≡ true → list_any q some ≡ true
any_weaker p q [] f h = h
any_weaker p q (one ∷ some) f h = elim (either (p one) (list_any p some) h) [
  | inl here ↦ or_left (q one) (list_any q some) (f one here)
  | inr later ↦ or_right (q one) (list_any q some) (any_weaker p q some f later)
]

-- ---- covers
below_more : (over place path : Path) → is_below place over ≡ true → is_prefix place path ≡ true → is_below path over ≡ true
below_more over place path under leads =
    let both = and_parts (is_prefix over place) (not (is_same over place)) under in
    and_from _ _ (prefix_trans over place path both.0 leads) (ap not (false_from_ne_true (is_same over path) (λ same.
    let back : is_prefix place over ≡ true =
    subst (λ (p : Path). is_prefix place p ≡ true) (sym (same_path over path same)) leads in
    false≢true (sym (ap not (subst (λ (p : Path). is_same over p ≡ true) (prefix_antisymm over place both.0 back) (same_itself over)))
    ∙ both.1))))

uncovered : (entries : List MountEntry) (place path : Path) → is_prefix place path ≡ true → is_covered entries path ≡ false
    → is_covered entries place ≡ false
uncovered entries place path leads bare = false_from_ne_true (is_covered entries place) (λ covers. false≢true (sym bare
    ∙ any_weaker (λ other. hides other.mode && is_below place other.path) (λ other. hides other.mode && is_below path other.path) entries
    (λ other h. let both = and_parts (hides other.mode) (is_below place other.path) h in
    and_from _ _ both.0 (below_more other.path place path both.1 leads)) covers))

-- ---- the listed entry over a node
not_vain : (node chosen : MountEntry) → is_node node.mode ≡ true → (o : Option MountEntry)
    → option_map_or (is_vain_below node) o (is_node node.mode) ≡ false → option_map_or (is_vain_below chosen) o (is_node chosen.mode) ≡ false
not_vain node chosen is None h = absurd (false≢true (sym h ∙ is))
not_vain node chosen is (Some over) h =
    let dev = not_vain_then (grants_the_same node.mode over.mode) (is_node node.mode) (is_private_devices over.mode) h is in
    either_false (grants_the_same chosen.mode over.mode) (is_node chosen.mode) (is_private_devices over.mode)
    (nothing_the_same chosen.mode over.mode dev) dev

nodes_new : (entries : List MountEntry) → AllByRecursion (λ one. is_vain entries one ≡ false) (nodes entries)
nodes_new entries = filter_is (λ one. is_node one.mode && not (is_vain entries one)) (λ one. is_vain entries one ≡ false) entries (each entries)
  where
    bare : (b : Bool) → not b ≡ true → b ≡ false
    bare true h = absurd (false≢true h)
    bare false h = refl

    each : (some : List MountEntry)
        → AllByRecursion (λ one. (is_node one.mode && not (is_vain entries one)) ≡ true → is_vain entries one ≡ false) some
    each [] = tt
    each (one ∷ some) = (
      (λ live. bare (is_vain entries one) (and_parts (is_node one.mode) (not (is_vain entries one)) live).1),
      each some,
    )

module _ (entries : List MountEntry) (normal : AllByRecursion (λ path. is_normal path ≡ true) (map (λ one. one.path) entries)) where
  -- what is listed at the path of an entry is among the listed ones
  listed_in : (one other : MountEntry) → IsOneOf entries one → listed_at entries one.path ≡ Some other → IsOneOf (listed entries) other
  listed_in one other among is =
      has_one (λ m. (next : MountEntry) → listed_at entries m.path ≡ Some next → IsOneOf (listed entries) next) entries one
      (mapped_all (λ (m : MountEntry). m.path)
      (λ path. (next : MountEntry) → listed_at entries path ≡ Some next → IsOneOf (listed entries) next) entries
      (in_byte_order_was (λ path. (next : MountEntry) → listed_at entries path ≡ Some next → IsOneOf (listed entries) next)
      (map (λ m. m.path) entries) normal (picked_among (listed_at entries) (paths_of entries)))) among other is

  pub listed_over : (path : Path) → is_covered entries path ≡ false → (node : MountEntry) → IsOneOf (nodes entries) node
      → is_prefix node.path path ≡ true → (one : MountEntry) × IsOneOf (listed entries) one × (one.path ≡ node.path)
  listed_over path bare node among leads = by (chosen_at entries node.path) refl
    where
      own : IsOneOf entries node
      own = has_one (IsOneOf entries) (nodes entries) node (nodes_is (IsOneOf entries) entries (all_one_of entries)) among

      by : (o : Option MountEntry) → chosen_at entries node.path ≡ o
          → (one : MountEntry) × IsOneOf (listed entries) one × (one.path ≡ node.path)
      by None e = absurd (one_is_chosen entries node.path node own (same_itself node.path) e)
      by (Some one) e =
          let at : one.path ≡ node.path = same_path one.path node.path
          (and_parts _ _ (find_passes (is_strongest_at entries node.path) entries one e)).0 in
          let new : is_vain entries one ≡ false =
          ap (λ (p : Path). option_map_or (is_vain_below one) (chosen_above entries p) (is_node one.mode)) at
          ∙ not_vain node one (has_one (λ m. is_node m.mode ≡ true) (nodes entries) node (nodes_are_nodes entries) among)
          (chosen_above entries node.path) (has_one (λ m. is_vain entries m ≡ false) (nodes entries) node (nodes_new entries) among) in (
            one,
            listed_in node one own (ap (λ b. cond b None (option_and_then (unless_vain entries) (chosen_at entries node.path)))
                (uncovered entries node.path path leads bare) ∙ ap (option_and_then (unless_vain entries)) e
                ∙ ap (λ b. cond b None (Some one)) new),
            at,
          )
