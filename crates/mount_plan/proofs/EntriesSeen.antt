-- What lies beneath a listed entry is seen in the folder of its path.
use Rattle.std.proofs.Common.{◌≡◌, ◌⊎◌, inl, inr, ℕ, Bool, true, false, cond, List, [], ◌∷◌, ◌++◌, filter, find, map, Option, Some, None, refl, sym, ap, ◌∙◌}
use Rattle.std.proofs.Common.{subst}
use Rattle.std.specs.Prelude.{◌&&◌, not}
use Rattle.std.specs.List.{AllByRecursion}
use Rattle.std.proofs.lemmas.Bool.{false≢true, and_parts, and_from, false_from_ne_true}
use Rattle.std.proofs.lemmas.List.Elements.{filter-append}
use Rattle.path_settings.specs.abs_path.Paths.{Path, is_normal}
use Rattle.path_settings.specs.abs_path.Prefix.{is_prefix, is_same, is_below, rest_of}
use Rattle.path_settings.specs.declared.systemd.entries.MountEntry.{MountEntry}
use Rattle.path_settings.specs.systemd.Modes.{hides, is_node, is_origin}
use Rattle.path_settings.specs.systemd.Listed.{is_covered, listed}
use Rattle.path_settings.specs.systemd.Made.{beneath_in, fate_at, has_source, is_longest_such, lies_beneath, longest_such, made, mounted_in}
use Rattle.path_settings.specs.systemd.Made.{node_in, nodes, object_by, object_from, object_in, puts, putting, refusal_by}
use Rattle.path_settings.specs.systemd.View.{leads_to, object_of, sight_from, view}
use Rattle.path_settings.specs.view_map.Kept.{Host, is_kept}
use Rattle.path_settings.specs.view_map.Object.{on_host, object_behind}
use Rattle.path_settings.proofs.OfAbsPath.Prefixes.{prefix-append, prefix_and_rest, prefix_itself, prefix_trans, same_itself, same_path}
use Rattle.path_settings.proofs.ViewMapLists.{all_appended, all_filtered, all_weaker, filter_is, find_is, find_passes, none_from_test}
use Rattle.mount_plan.proofs.EntriesAsView.{IsLast, IsOneOf, IsOver, all_one_of, as_long, has_one, is_last, longest_is_last, no_longer}
use Rattle.mount_plan.proofs.EntriesBeneath.{carried, kept_source, listed_over, node_object, or_left, or_right, put_kept}
use Rattle.mount_plan.proofs.EntriesBest.{behind, filtered, finds_some, found_in_front, in_front, is_longest, longest_by_less, longest_over}
use Rattle.mount_plan.proofs.EntriesBest.{one_is_longest, only_there, picked_among}
use Rattle.mount_plan.proofs.EntriesMade.{IsMounted, each_mounted, lies_leads, longest_passes, made_is, nodes_are_nodes}
use Rattle.mount_plan.proofs.EntriesTable.{made_ascends, mounted_there}
use Rattle.mount_plan.proofs.PlanIsBlind.{below_last}

-- no listed entry is refused
abbrev pub AreSettled : Host → List MountEntry → Type 0
AreSettled row_at entries = AllByRecursion (λ one. refusal_by one (fate_at row_at entries one) ≡ None) (listed entries)

module _ (row_at : Host) (entries : List MountEntry) where
  -- what puts an object is listed, or it is a node
  abbrev IsPut : MountEntry → Type 0
  IsPut one = (IsOneOf (listed entries) one ⊎ IsOneOf (nodes entries) one) × (puts row_at one ≡ true)

  each_put : AllByRecursion IsPut (putting row_at entries)
  each_put = filter_is (puts row_at) IsPut (listed entries ++ nodes entries)
      (all_weaker (λ one. IsOneOf (listed entries) one ⊎ IsOneOf (nodes entries) one) (λ one. puts row_at one ≡ true → IsPut one)
      (listed entries ++ nodes entries) (λ one from is. (from, is))
      (all_appended (λ one. IsOneOf (listed entries) one ⊎ IsOneOf (nodes entries) one) (listed entries) (nodes entries)
      (all_weaker (IsOneOf (listed entries)) (λ one. IsOneOf (listed entries) one ⊎ IsOneOf (nodes entries) one) (listed entries)
      (λ one among. inl among) (all_one_of (listed entries)))
      (all_weaker (IsOneOf (nodes entries)) (λ one. IsOneOf (listed entries) one ⊎ IsOneOf (nodes entries) one) (nodes entries)
      (λ one among. inr among) (all_one_of (nodes entries)))))

  is_put : (one : MountEntry) → IsOneOf (putting row_at entries) one → IsPut one
  is_put one among = has_one IsPut (putting row_at entries) one each_put among

  in_put : (one : MountEntry) → IsPut one → IsOneOf (putting row_at entries) one
  in_put one put = filtered (puts row_at) (listed entries ++ nodes entries) one (elim put.0 [
    | inl l ↦ in_front (listed entries) (nodes entries) one l
    | inr n ↦ behind (listed entries) (nodes entries) one n
  ]) put.1

  is_mounted : (one : MountEntry) → IsOneOf (made row_at entries) one → IsMounted row_at entries one
  is_mounted one among = has_one (IsMounted row_at entries) (made row_at entries) one (each_mounted row_at entries) among

  is_a_node : (one : MountEntry) → IsOneOf (nodes entries) one → is_node one.mode ≡ true
  is_a_node one among = has_one (λ m. is_node m.mode ≡ true) (nodes entries) one (nodes_are_nodes entries) among

  -- a made entry that says which object is there, and does not hide it, puts it
  made_put : (one : MountEntry) → IsOneOf (made row_at entries) one → is_origin one.mode ≡ true → hides one.mode ≡ false → IsPut one
  made_put one among says seen = elim (is_mounted one among) [
    | inl own ↦ (inl own.0, puts_it (kept_source row_at (beneath_in row_at (putting row_at entries) one.path) one.path one.mode one.optional own.1))
    | inr node ↦ (inr node.0, puts_it node.1)
  ]
    where
      puts_it : has_source row_at one ≡ true → puts row_at one ≡ true
      puts_it there = and_from (is_origin one.mode && not (hides one.mode)) (has_source row_at one)
          (and_from (is_origin one.mode) (not (hides one.mode)) says (ap not seen)) there

  module _ (normal : AllByRecursion (λ path. is_normal path ≡ true) (map (λ one. one.path) entries)) (settled : AreSettled row_at entries) where
    -- a listed entry that puts an object is made
    listed_made : (one : MountEntry) → IsOneOf (listed entries) one → puts row_at one ≡ true → IsOneOf (made row_at entries) one
    listed_made one among put =
        let kept : is_kept (fate_at row_at entries one) ≡ true =
        put_kept row_at (beneath_in row_at (putting row_at entries) one.path) one.path one.mode one.optional
        (has_one (λ m. refusal_by m (fate_at row_at entries m) ≡ None) (listed entries) one settled among) put in
        made_for one one among (ap (λ b. cond b (Some one) (node_in row_at (nodes entries) one.path)) kept)
      where
        made_for : (own other : MountEntry) → IsOneOf (listed entries) own
            → mounted_in row_at (putting row_at entries) (nodes entries) own ≡ Some other → IsOneOf (made row_at entries) other
        made_for own other among is = has_one
            (λ m. (next : MountEntry) → mounted_in row_at (putting row_at entries) (nodes entries) m ≡ Some next
            → IsOneOf (made row_at entries) next) (listed entries) own
            (picked_among (mounted_in row_at (putting row_at entries) (nodes entries)) (listed entries)) among other is

    -- at the path of an entry that puts an object something is made
    stays : (path : Path) → is_covered entries path ≡ false → (one : MountEntry) → IsOneOf (putting row_at entries) one
        → is_prefix one.path path ≡ true → (m : MountEntry) × IsOneOf (made row_at entries) m × (m.path ≡ one.path)
    stays path bare one among leads = elim (is_put one among).0 [
      | inl own ↦ (one, listed_made one own (is_put one among).1, refl)
      | inr node ↦ over (listed_over entries normal path bare one node leads) node
    ]
      where
        source : has_source row_at one ≡ true
        source = (and_parts (is_origin one.mode && not (hides one.mode)) (has_source row_at one) (is_put one among).1).1

        lost : (own : MountEntry) → own.path ≡ one.path → IsOneOf (nodes entries) one
            → mounted_in row_at (putting row_at entries) (nodes entries) own ≡ None → ⊥
        lost own at node e = by (is_kept (fate_at row_at entries own)) e
          where
            by : (b : Bool) → cond b (Some own) (node_in row_at (nodes entries) own.path) ≡ None → ⊥
            by true e = cc
            by false e = finds_some (λ m. is_same m.path own.path && has_source row_at m) (nodes entries) one node
                (and_from (is_same one.path own.path) (has_source row_at one)
                (subst (λ (p : Path). is_same one.path p ≡ true) (sym at) (same_itself one.path)) source) e

        over : (own : MountEntry) × IsOneOf (listed entries) own × (own.path ≡ one.path) → IsOneOf (nodes entries) one
            → (m : MountEntry) × IsOneOf (made row_at entries) m × (m.path ≡ one.path)
        over own node = by (mounted_in row_at (putting row_at entries) (nodes entries) own.0) refl
          where
            by : (o : Option MountEntry) → mounted_in row_at (putting row_at entries) (nodes entries) own.0 ≡ o
                → (m : MountEntry) × IsOneOf (made row_at entries) m × (m.path ≡ one.path)
            by None e = absurd (lost own.0 own.2 node e)
            by (Some m) e = (
              m,
              has_one (λ x. (next : MountEntry) → mounted_in row_at (putting row_at entries) (nodes entries) x ≡ Some next
                  → IsOneOf (made row_at entries) next) (listed entries) own.0
                  (picked_among (mounted_in row_at (putting row_at entries) (nodes entries)) (listed entries)) own.1 m e,
              mounted_there row_at (putting row_at entries) (nodes entries) own.0 m e ∙ own.2,
            )

    module _ (front : Path) (part : List ℕ) (bare : is_covered entries (front ++ part ∷ []) ≡ false) where
      abbrev path : Path
      path = front ++ part ∷ []

      under : (one : MountEntry) → is_prefix one.path front ≡ true → is_below path one.path ≡ true
      under one leads = below_last one.path front part ∙ leads

      lies : (one : MountEntry) → is_prefix one.path front ≡ true → lies_beneath path one ≡ true
      lies one leads = or_left (is_below path one.path) (is_node one.mode && is_prefix one.path path) (under one leads)

      -- a made entry over the folder does not hide it
      not_hidden : (one : MountEntry) → IsOneOf (made row_at entries) one → is_prefix one.path front ≡ true → hides one.mode ≡ false
      not_hidden one among leads =
          let none = has_one (λ m. (hides m.mode && is_below path m.path) ≡ false) (made row_at entries) one
          (made_is (λ m. (hides m.mode && is_below path m.path) ≡ false) row_at entries
          (none_from_test (λ m. hides m.mode && is_below path m.path) entries bare)) among in
          false_from_ne_true (hides one.mode) (λ is.
          false≢true (sym none ∙ and_from (hides one.mode) (is_below path one.path) is (under one leads)))

      module _ (one : MountEntry) (among : IsOneOf (made row_at entries) one) (leads : is_prefix one.path front ≡ true) where
        weaker : (other : MountEntry) → lies_beneath one.path other ≡ true → lies_beneath path other ≡ true
        weaker other h = lies other (prefix_trans other.path one.path front (lies_leads one.path other h) leads)

        -- an entry at the same path that puts an object is the same, or both are nodes
        same_or_nodes : (other : MountEntry) → IsPut other → other.path ≡ one.path → (other ≡ one) ⊎ IsOneOf (nodes entries) other
        same_or_nodes other put at = elim put.0 [
          | inl own ↦ inl (only_there (made row_at entries) (made_ascends row_at entries) other one (listed_made other own put.1) among at)
          | inr node ↦ inr node
        ]

        -- ---- the made entry mounts what is there anyway
        node_lies : (other : MountEntry) → IsPut other → is_origin one.mode ≡ false → is_prefix other.path one.path ≡ true
            → lies_beneath one.path other ≡ true
        node_lies other put plain up = by (is_same other.path one.path) refl
          where
            by : (b : Bool) → is_same other.path one.path ≡ b → lies_beneath one.path other ≡ true
            by false apart = or_left (is_below one.path other.path) (is_node other.mode && is_prefix other.path one.path)
                (and_from (is_prefix other.path one.path) (not (is_same other.path one.path)) up (ap not apart))
            by true same = elim (same_or_nodes other put (same_path other.path one.path same)) [
              | inl is ↦ absurd (false≢true (sym plain ∙ subst (λ (m : MountEntry). is_origin m.mode ≡ true) is
                  (and_parts (is_origin other.mode) (not (hides other.mode))
                  (and_parts (is_origin other.mode && not (hides other.mode)) (has_source row_at other) put.1).0).0))
              | inr node ↦ or_right (is_below one.path other.path) (is_node other.mode && is_prefix other.path one.path)
                  (and_from (is_node other.mode) (is_prefix other.path one.path) (is_a_node other node) up)
            ]

        none_lies : longest_such (lies_beneath path) (putting row_at entries) ≡ None
            → longest_such (lies_beneath one.path) (putting row_at entries) ≡ None
        none_lies e = by (longest_such (lies_beneath one.path) (putting row_at entries)) refl
          where
            by : (o : Option MountEntry) → longest_such (lies_beneath one.path) (putting row_at entries) ≡ o
                → longest_such (lies_beneath one.path) (putting row_at entries) ≡ None
            by None is = is
            by (Some other) is = absurd (one_is_longest (lies_beneath path) (putting row_at entries) other
                (find_is (IsOneOf (putting row_at entries)) (is_longest_such (lies_beneath one.path) (putting row_at entries))
                (putting row_at entries) other (all_one_of (putting row_at entries)) is)
                (weaker other (longest_passes (lies_beneath one.path) (putting row_at entries) other is)) e)

        plain_shows : is_origin one.mode ≡ false → (o : Option MountEntry) → longest_such (lies_beneath path) (putting row_at entries) ≡ o
            → ((other : MountEntry) → o ≡ Some other → is_prefix other.path one.path ≡ true)
            → object_behind (object_of row_at entries one) (rest_of one.path front) ≡ object_from o front
        plain_shows plain o e up =
            ap (λ b. object_behind (cond b (object_by one.mode one.path one.path) (object_in (putting row_at entries) one.path))
            (rest_of one.path front)) plain ∙ by o e up
          where
            by : (o : Option MountEntry) → longest_such (lies_beneath path) (putting row_at entries) ≡ o
                → ((other : MountEntry) → o ≡ Some other → is_prefix other.path one.path ≡ true)
                → object_behind (object_in (putting row_at entries) one.path) (rest_of one.path front) ≡ object_from o front
            by None e up = ap (λ o. object_behind (object_from o one.path) (rest_of one.path front)) (none_lies e)
                ∙ ap on_host (prefix_and_rest one.path front leads)
            by (Some other) e up =
                let put = is_put other (find_is (IsOneOf (putting row_at entries))
                (is_longest_such (lies_beneath path) (putting row_at entries)) (putting row_at entries) other
                (all_one_of (putting row_at entries)) e) in
                ap (λ o. object_behind (object_from o one.path) (rest_of one.path front))
                (longest_by_less (lies_beneath path) (lies_beneath one.path) (putting row_at entries) other weaker e
                (node_lies other put plain (up other refl)))
                ∙ carried other.mode other.path one.path front (up other refl) leads

        -- ---- the made entry puts an object
        origin_shows : is_origin one.mode ≡ true → (o : Option MountEntry) → longest_such (lies_beneath path) (putting row_at entries) ≡ o
            → ((other : MountEntry) → o ≡ Some other → is_prefix other.path one.path ≡ true)
            → object_behind (object_of row_at entries one) (rest_of one.path front) ≡ object_from o front
        origin_shows says o e up =
            ap (λ b. object_behind (cond b (object_by one.mode one.path one.path) (object_in (putting row_at entries) one.path))
            (rest_of one.path front)) says
            ∙ carried one.mode one.path one.path front (prefix_itself one.path) leads ∙ by o e up
          where
            own : IsPut one
            own = made_put one among says (not_hidden one among leads)

            by : (o : Option MountEntry) → longest_such (lies_beneath path) (putting row_at entries) ≡ o
                → ((other : MountEntry) → o ≡ Some other → is_prefix other.path one.path ≡ true)
                → object_by one.mode one.path front ≡ object_from o front
            by None e up = absurd (one_is_longest (lies_beneath path) (putting row_at entries) one (in_put one own) (lies one leads) e)
            by (Some other) e up = elim (same_or_nodes other put at) [
              | inl is ↦ ap (λ (m : MountEntry). object_by m.mode m.path front) (sym is)
              | inr node ↦ elim own.0 [
                | inl listed' ↦ front_first listed'
                | inr node' ↦ node_object one.mode one.path front (is_a_node one node')
                    ∙ sym (node_object other.mode other.path front (is_a_node other node))
              ]
            ]
              where
                longest : is_longest_such (lies_beneath path) (putting row_at entries) other ≡ true
                longest = find_passes (is_longest_such (lies_beneath path) (putting row_at entries)) (putting row_at entries) other e

                put : IsPut other
                put = is_put other (find_is (IsOneOf (putting row_at entries))
                    (is_longest_such (lies_beneath path) (putting row_at entries)) (putting row_at entries) other
                    (all_one_of (putting row_at entries)) e)

                at : other.path ≡ one.path
                at = as_long other.path one.path (up other refl)
                    (longest_over (lies_beneath path) (putting row_at entries) other one longest (in_put one own) (lies one leads))

                -- the listed entries come before the nodes
                front_first : IsOneOf (listed entries) one → object_by one.mode one.path front ≡ object_by other.mode other.path front
                front_first among' =
                    let test = is_longest_such (lies_beneath path) (putting row_at entries) in
                    let passes = is_longest (lies_beneath path) (putting row_at entries) other one longest (lies one leads)
                    (no_longer other.path one.path (up other refl)) in
                    let found = found_in_front test (filter (puts row_at) (listed entries)) (filter (puts row_at) (nodes entries)) one other
                    (filtered (puts row_at) (listed entries) one among' own.1) passes
                    (ap (find test) (sym (filter-append (puts row_at) (listed entries) (nodes entries))) ∙ e) in
                    let first = has_one (IsOneOf (listed entries)) (filter (puts row_at) (listed entries)) other
                    (all_filtered (IsOneOf (listed entries)) (puts row_at) (listed entries) (all_one_of (listed entries))) found in
                    ap (λ (m : MountEntry). object_by m.mode m.path front)
                    (sym (only_there (made row_at entries) (made_ascends row_at entries) other one (listed_made other first put.1) among at))

      -- the folder shows what lies beneath
      pub view_front : (no_new_privs : Bool) (o : Option MountEntry) → longest_such (lies_beneath path) (putting row_at entries) ≡ o
          → ((other : MountEntry) → o ≡ Some other → is_prefix other.path front ≡ true)
          → (view row_at no_new_privs entries front).object ≡ object_from o front
      view_front no_new_privs o e leads = by (longest_such (leads_to front) (made row_at entries)) refl
        where
          there : (other : MountEntry) → o ≡ Some other → (m : MountEntry) × IsOneOf (made row_at entries) m × (m.path ≡ other.path)
          there other is = stays path bare other
              (find_is (IsOneOf (putting row_at entries)) (is_longest_such (lies_beneath path) (putting row_at entries))
              (putting row_at entries) other (all_one_of (putting row_at entries)) (e ∙ is))
              (prefix_trans other.path front path (leads other is) (prefix-append front (part ∷ [])))

          over : (other : MountEntry) (is : o ≡ Some other) → is_prefix (there other is).0.path front ≡ true
          over other is = subst (λ (p : Path). is_prefix p front ≡ true) (sym (there other is).2) (leads other is)

          none_made : longest_such (leads_to front) (made row_at entries) ≡ None → (own : Option MountEntry) → o ≡ own
              → on_host front ≡ object_from own front
          none_made none None is = refl
          none_made none (Some other) is =
              absurd (one_is_longest (leads_to front) (made row_at entries) (there other is).0 (there other is).1 (over other is) none)

          by : (found : Option MountEntry) → longest_such (leads_to front) (made row_at entries) ≡ found
              → (sight_from row_at no_new_privs entries found front).object ≡ object_from o front
          by None none = none_made none o refl
          by (Some one) is = shows (is_origin one.mode) refl
            where
              fits : IsLast front (made row_at entries) one
              fits = is_last front (made row_at entries) one (made_ascends row_at entries)
                  (sym (longest_is_last front (made row_at entries) (made_ascends row_at entries)) ∙ is)

              up : (other : MountEntry) → o ≡ Some other → is_prefix other.path one.path ≡ true
              up other own = subst (λ (p : Path). is_prefix p one.path ≡ true) (there other own).2
                  (has_one (IsOver front one) (made row_at entries) (there other own).0 fits.each (there other own).1 (over other own)).0

              shows : (b : Bool) → is_origin one.mode ≡ b
                  → object_behind (object_of row_at entries one) (rest_of one.path front) ≡ object_from o front
              shows true says = origin_shows one fits.among fits.leads says o e up
              shows false plain = plain_shows one fits.among fits.leads plain o e up
