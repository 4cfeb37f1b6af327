-- The parts of a host that a plan of entries does not show do not change it.
use Rattle.std.proofs.Common.{◌≡◌, inl, inr, ℕ, Bool, true, false, cond, List, [], ◌∷◌, ◌++◌, filter, find, map, Option, Some, None, Ok, refl}
use Rattle.std.proofs.Common.{sym, ap, ◌∙◌, subst}
use Rattle.std.specs.Prelude.{◌&&◌, is_some, not, option_and_then}
use Rattle.std.specs.List.{AllByRecursion, cons_option, filter_map}
use Rattle.std.specs.Option.{option_map_or}
use Rattle.std.proofs.lemmas.Bool.{false≢true, and_parts, and_from}
use Rattle.path_settings.specs.abs_path.Paths.{Path, is_normal, is_root}
use Rattle.path_settings.specs.abs_path.Prefix.{is_prefix, is_same, is_below, rest_of}
use Rattle.path_settings.specs.declared.systemd.entries.MountEntry.{MountEntry}
use Rattle.path_settings.specs.declared.view_map.rules.Beneath.{Beneath}
use Rattle.path_settings.specs.systemd.Modes.{hides, is_node, is_origin, source_of}
use Rattle.path_settings.specs.systemd.Listed.{is_covered, listed}
use Rattle.path_settings.specs.systemd.Made.{beneath_in, fate_at, fate_in, fate_of, has_source, lies_beneath, longest_such, made}
use Rattle.path_settings.specs.systemd.Made.{made_of, mounted_in, node_in, nodes, object_by, object_from, puts, putting, refusal_by}
use Rattle.path_settings.specs.systemd.Made.{refusals, source_path, source_row, unless_refused}
use Rattle.path_settings.specs.systemd.View.{beginning, view}
use Rattle.path_settings.specs.view_map.Kept.{Host, Refusal, beneath_by, beneath_row, is_kept}
use Rattle.path_settings.specs.view_map.Object.{Object, on_host, empty, hidden, object_behind}
use Rattle.path_settings.proofs.OfAbsPath.Prefixes.{prefix-append, same_path}
use Rattle.path_settings.proofs.SystemdLaws.{listed_is, listed_seen}
use Rattle.path_settings.proofs.ViewMapLists.{all_appended, all_filtered, all_weaker, filter_agree_on}
use Rattle.kern_mounts.specs.Entry.{entry_of}
use Rattle.kern_mounts.specs.Finds.{host_place_by}
use Rattle.kern_mounts.specs.declared.step.What.{What}
use Rattle.kern_mounts.specs.declared.step.What.TheVariants as what
use Rattle.kern_mounts.specs.declared.step.MountStep.{MountStep}
use Rattle.mount_plan.specs.AsView.{shown_by}
use Rattle.mount_plan.specs.Plan.{hides_dir, what_of}
use Rattle.mount_plan.specs.Resting.{AgreeButBelow, ShowsNothingOf}
use Rattle.mount_plan.specs.systemd.Table.{flags_among, object_among, root_step, step_among, steps_among, table_of}
use Rattle.mount_plan.proofs.EntriesBeneath.{carried, node_object}
use Rattle.mount_plan.proofs.EntriesFound.{finds_as_view, root_beneath}
use Rattle.mount_plan.proofs.EntriesMade.{either, lies_leads, longest_has, longest_passes, nodes_is, picked_is, putting_is}
use Rattle.mount_plan.proofs.EntriesSeen.{AreSettled, view_front}
use Rattle.mount_plan.proofs.EntriesTable.{LeaveTheRoot, mounted_there, others}
use Rattle.mount_plan.proofs.PlanIsBlind.{LastOf, a_part, no_part, below_last, empty_differs, hidden_differs, last_part, rest_last, root_not_below}

-- ---- lists
picked_same : {X Y : Type 0} (f g : X → Option Y) (xs : List X) → AllByRecursion (λ x. f x ≡ g x) xs → filter_map f xs ≡ filter_map g xs
picked_same f g [] same = refl
picked_same f g (x ∷ xs) same = ap (λ o. cons_option o (filter_map f xs)) same.0 ∙ ap (cons_option (g x)) (picked_same f g xs same.1)

found_same : (p q : MountEntry → Bool) (some : List MountEntry) → AllByRecursion (λ one. p one ≡ q one) some → find p some ≡ find q some
found_same p q [] same = refl
found_same p q (one ∷ some) same = ap (λ b. cond b (Some one) (find p some)) same.0
    ∙ ap (λ o. cond (q one) (Some one) o) (found_same p q some same.1)

mapped_same : (f g : MountEntry → MountStep) (some : List MountEntry) → AllByRecursion (λ one. f one ≡ g one) some → map f some ≡ map g some
mapped_same f g [] same = refl
mapped_same f g (one ∷ some) same = ap (λ (step : MountStep). step ∷ map f some) same.0
    ∙ ap (λ (steps : List MountStep). g one ∷ steps) (mapped_same f g some same.1)

-- ---- sources
node_row : (row_at : Host) (one : MountEntry) → is_node one.mode ≡ true → source_row row_at one ≡ row_at one.path
node_row row_at one is = ap (λ b. option_and_then row_at (cond b (Some one.path) (source_of one.mode))) is

same_source : (row_at other : Host) (one : MountEntry) → source_row other one ≡ source_row row_at one
    → has_source other one ≡ has_source row_at one
same_source row_at other one same = by (source_path one) same
  where
    by : (o : Option Path) → option_and_then other o ≡ option_and_then row_at o
        → option_map_or (λ path. is_some (other path)) o true ≡ option_map_or (λ path. is_some (row_at path)) o true
    by None e = refl
    by (Some path) e = ap is_some e

module _ (folder : Path) (row_at other : Host) (no_new_privs : Bool) (entries : List MountEntry) (free : LeaveTheRoot entries) (settled : AreSettled row_at entries) (normal : AllByRecursion (λ path. is_normal path ≡ true) (map (λ one. one.path) entries)) (sources : AllByRecursion (λ one. source_row other one ≡ source_row row_at one) entries) (agree : AgreeButBelow folder row_at other) (nothing : ShowsNothingOf (table_of row_at no_new_privs entries) folder) where
  -- the object of the view at a path does not lie at the folder or below it
  not_below : (path own : Path) → (view row_at no_new_privs entries path).object ≡ on_host own → is_prefix folder own ≡ false
  not_below path own shows =
      let found = finds_as_view row_at no_new_privs entries free path in
      by found.0 found.0.what refl found.1 (found.2.origin ∙ shows)
    where
      by : (step : MountStep) (what' : What) → step.what ≡ what' → entry_of (table_of row_at no_new_privs entries) path ≡ Some step
          → shown_by step.what step.place path ≡ on_host own → is_prefix folder own ≡ false
      by step (what.Host source) is belongs shown =
          let place : on_host (source ++ rest_of step.place path) ≡ on_host own = sym (ap (λ (w : What). shown_by w step.place path) is) ∙ shown in
          let same : source ++ rest_of step.place path ≡ own = cc in
          nothing path own (ap (option_and_then (λ (s : MountStep). host_place_by s.what s.place path)) belongs
          ∙ ap (λ (w : What). host_place_by w step.place path) is ∙ ap (λ (p : Path). Some p) same)
      by step what.Empty is belongs shown = absurd (empty_differs own (sym (ap (λ (w : What). shown_by w step.place path) is) ∙ shown))
      by step (what.Hidden directory) is belongs shown = absurd
          (hidden_differs own (sym (ap (λ (w : What). shown_by w step.place path) is) ∙ shown))

  abbrev IsSameBeneath : Path → Type 0
  IsSameBeneath path = beneath_in other (putting row_at entries) path ≡ beneath_in row_at (putting row_at entries) path

  -- the object beneath a path is the same in both hosts
  by_folder : (front : Path) (part : List ℕ) (object : Object) → (view row_at no_new_privs entries front).object ≡ object
      → beneath_by other (object_behind object (rest_of front (front ++ part ∷ [])))
      ≡ beneath_by row_at (object_behind object (rest_of front (front ++ part ∷ [])))
  by_folder front part (on_host own) is = ap beneath_row (agree (own ++ rest_of front (front ++ part ∷ []))
      (ap (λ (rest : Path). is_below (own ++ rest) folder) (rest_last front part) ∙ below_last folder own part ∙ not_below front own is))
  by_folder front part empty is = refl
  by_folder front part hidden is = refl

  same_beneath : (path : Path) → is_covered entries path ≡ false → LastOf path → IsSameBeneath path
  same_beneath _ bare no_part =
      let root = root_beneath row_at entries free in
      ap (beneath_by other) root ∙ ap beneath_row (agree [] (root_not_below folder)) ∙ sym (ap (beneath_by row_at) root)
  same_beneath _ bare (a_part front part) = by (longest_such (lies_beneath (front ++ part ∷ [])) (putting row_at entries)) refl
    where
      path : Path
      path = front ++ part ∷ []

      none : (other' : MountEntry) → None ≡ Some other' → is_prefix other'.path front ≡ true
      none other' e = let bad : ⊥ = cc in absurd bad

      by : (o : Option MountEntry) → longest_such (lies_beneath (front ++ part ∷ [])) (putting row_at entries) ≡ o
          → IsSameBeneath (front ++ part ∷ [])
      by None e =
          let at = not_below front front (view_front row_at entries normal settled front part bare no_new_privs None e none) in
          ap (λ o. beneath_by other (object_from o (front ++ part ∷ []))) e
          ∙ ap beneath_row (agree (front ++ part ∷ []) (below_last folder front part ∙ at))
          ∙ sym (ap (λ o. beneath_by row_at (object_from o (front ++ part ∷ []))) e)
      by (Some one) e = apart (is_same one.path (front ++ part ∷ [])) refl
        where
          lies : lies_beneath (front ++ part ∷ []) one ≡ true
          lies = longest_passes (lies_beneath (front ++ part ∷ [])) (putting row_at entries) one e

          own : source_row other one ≡ source_row row_at one
          own = longest_has (λ m. source_row other m ≡ source_row row_at m) (lies_beneath (front ++ part ∷ [])) (putting row_at entries) one
              (putting_is (λ m. source_row other m ≡ source_row row_at m) row_at entries sources) e

          -- what is found decides
          found : beneath_by other (object_by one.mode one.path (front ++ part ∷ []))
              ≡ beneath_by row_at (object_by one.mode one.path (front ++ part ∷ [])) → IsSameBeneath (front ++ part ∷ [])
          found same = ap (λ o. beneath_by other (object_from o (front ++ part ∷ []))) e ∙ same
              ∙ sym (ap (λ o. beneath_by row_at (object_from o (front ++ part ∷ []))) e)

          is_its_node : is_same one.path (front ++ part ∷ []) ≡ true → is_node one.mode ≡ true
          is_its_node same = elim (either (is_below (front ++ part ∷ []) one.path)
              (is_node one.mode && is_prefix one.path (front ++ part ∷ [])) lies) [
                | inl over ↦ absurd (false≢true (sym (ap not same)
                    ∙ (and_parts (is_prefix one.path (front ++ part ∷ [])) (not (is_same one.path (front ++ part ∷ []))) over).1))
                | inr node ↦ (and_parts (is_node one.mode) (is_prefix one.path (front ++ part ∷ [])) node).0
              ]

          apart : (b : Bool) → is_same one.path (front ++ part ∷ []) ≡ b → IsSameBeneath (front ++ part ∷ [])
          apart true same =
              let node = is_its_node same in
              let shown = node_object one.mode one.path (front ++ part ∷ []) node in
              let row : other one.path ≡ row_at one.path = sym (node_row other one node) ∙ own ∙ node_row row_at one node in
              found (ap (beneath_by other) shown
              ∙ ap beneath_row (subst (λ (p : Path). other p ≡ row_at p) (same_path one.path (front ++ part ∷ []) same) row)
              ∙ sym (ap (beneath_by row_at) shown))
          apart false away =
              let over : is_prefix one.path front ≡ true = sym (below_last one.path front part)
              ∙ and_from (is_prefix one.path (front ++ part ∷ [])) (not (is_same one.path (front ++ part ∷ [])))
              (lies_leads (front ++ part ∷ []) one lies) (ap not away) in
              let carry = carried one.mode one.path front (front ++ part ∷ []) over (prefix-append front (part ∷ [])) in
              let same : (next : MountEntry) → Some one ≡ Some next → is_prefix next.path front ≡ true =
              λ next is. (let at : one ≡ next = cc in subst (λ (m : MountEntry). is_prefix m.path front ≡ true) at over) in
              found (ap (beneath_by other) (sym carry)
              ∙ by_folder front part (object_by one.mode one.path front)
              (view_front row_at entries normal settled front part bare no_new_privs (Some one) e same)
              ∙ ap (beneath_by row_at) carry)

  -- ---- so both hosts make the same entries
  listed_beneath : AllByRecursion (λ one. IsSameBeneath one.path) (listed entries)
  listed_beneath = all_weaker (λ one. is_covered entries one.path ≡ false) (λ one. IsSameBeneath one.path) (listed entries)
      (λ one bare. same_beneath one.path bare (last_part one.path)) (listed_seen entries)

  abbrev IsSameSource : MountEntry → Type 0
  IsSameSource one = source_row other one ≡ source_row row_at one

  same_put : putting other entries ≡ putting row_at entries
  same_put = filter_agree_on (puts other) (puts row_at) (listed entries ++ nodes entries)
      (all_weaker IsSameSource (λ one. puts other one ≡ puts row_at one) (listed entries ++ nodes entries)
      (λ one same. ap (λ b. (is_origin one.mode && not (hides one.mode)) && b) (same_source row_at other one same))
      (all_appended IsSameSource (listed entries) (nodes entries) (listed_is IsSameSource entries sources)
      (nodes_is IsSameSource entries sources)))

  same_node : (path : Path) → node_in other (nodes entries) path ≡ node_in row_at (nodes entries) path
  same_node path = found_same (λ one. is_same one.path path && has_source other one) (λ one. is_same one.path path && has_source row_at one)
      (nodes entries) (all_weaker IsSameSource
      (λ one. (is_same one.path path && has_source other one) ≡ (is_same one.path path && has_source row_at one)) (nodes entries)
      (λ one same. ap (λ b. is_same one.path path && b) (same_source row_at other one same)) (nodes_is IsSameSource entries sources))

  abbrev HasSameFate : MountEntry → Type 0
  HasSameFate one = fate_in other (putting row_at entries) one ≡ fate_in row_at (putting row_at entries) one

  same_fates : AllByRecursion HasSameFate (listed entries)
  same_fates = both (listed entries) (listed_is IsSameSource entries sources) listed_beneath
    where
      both : (some : List MountEntry) → AllByRecursion IsSameSource some → AllByRecursion (λ one. IsSameBeneath one.path) some
          → AllByRecursion HasSameFate some
      both [] s b = tt
      both (one ∷ some) s b = (
        ap (λ (source : Option Bool). fate_of source (beneath_in other (putting row_at entries) one.path) one) s.0
            ∙ ap (λ (here : Beneath). fate_of (source_row row_at one) here one) b.0,
        both some s.1 b.1,
      )

  same_refusals : refusals other entries ≡ refusals row_at entries
  same_refusals = ap (λ (put : List MountEntry). filter_map (λ one. refusal_by one (fate_in other put one)) (listed entries)) same_put
      ∙ picked_same (λ one. refusal_by one (fate_in other (putting row_at entries) one))
      (λ one. refusal_by one (fate_in row_at (putting row_at entries) one)) (listed entries)
      (all_weaker HasSameFate (λ one. refusal_by one (fate_in other (putting row_at entries) one)
      ≡ refusal_by one (fate_in row_at (putting row_at entries) one)) (listed entries) (λ one same. ap (refusal_by one) same) same_fates)

  same_made : made other entries ≡ made row_at entries
  same_made = ap (λ (put : List MountEntry). filter_map (mounted_in other put (nodes entries)) (listed entries)) same_put
      ∙ picked_same (mounted_in other (putting row_at entries) (nodes entries)) (mounted_in row_at (putting row_at entries) (nodes entries))
      (listed entries) (all_weaker HasSameFate (λ one. mounted_in other (putting row_at entries) (nodes entries) one
      ≡ mounted_in row_at (putting row_at entries) (nodes entries) one) (listed entries)
      (λ one same. ap (λ fate. cond (is_kept fate) (Some one) (node_in other (nodes entries) one.path)) same
      ∙ ap (λ (o : Option MountEntry). cond (is_kept (fate_in row_at (putting row_at entries) one)) (Some one) o) (same_node one.path))
      same_fates)

  same_beginning : beginning other entries ≡ beginning row_at entries
  same_beginning = ap (λ (some : List MountEntry). some ++ filter (has_source other) (nodes entries)) same_made
      ∙ ap (λ (some : List MountEntry). made row_at entries ++ some) (filter_agree_on (has_source other) (has_source row_at) (nodes entries)
      (all_weaker IsSameSource (λ one. has_source other one ≡ has_source row_at one) (nodes entries) (same_source row_at other)
      (nodes_is IsSameSource entries sources)))

  -- what is made lies at the path of a listed entry
  made_beneath : AllByRecursion (λ one. IsSameBeneath one.path) (made row_at entries)
  made_beneath = picked_is (mounted_in row_at (putting row_at entries) (nodes entries)) (λ one. IsSameBeneath one.path) (listed entries)
      (all_weaker (λ one. IsSameBeneath one.path)
      (λ one. (next : MountEntry) → mounted_in row_at (putting row_at entries) (nodes entries) one ≡ Some next → IsSameBeneath next.path)
      (listed entries) (λ one same next e.
      subst IsSameBeneath (sym (mounted_there row_at (putting row_at entries) (nodes entries) one next e)) same) listed_beneath)

  pub same_table : table_of other no_new_privs entries ≡ table_of row_at no_new_privs entries
  same_table =
      let put : List MountEntry = putting row_at entries in
      let begun : List MountEntry = beginning row_at entries in
      ap (λ (some : List MountEntry). steps_among other no_new_privs entries some (beginning other entries) (made other entries)) same_put
      ∙ ap (λ (some : List MountEntry). steps_among other no_new_privs entries put some (made other entries)) same_beginning
      ∙ ap (λ (some : List MountEntry). steps_among other no_new_privs entries put begun some) same_made
      ∙ ap (λ (steps : List MountStep). root_step no_new_privs entries begun (made row_at entries) (made row_at entries) ∷ steps)
      (mapped_same (step_among other no_new_privs entries put begun (made row_at entries)) (step_among row_at no_new_privs entries put begun (made row_at entries)) (others row_at entries)
      (all_weaker (λ one. IsSameBeneath one.path) (λ one. step_among other no_new_privs entries put begun (made row_at entries) one
      ≡ step_among row_at no_new_privs entries put begun (made row_at entries) one)
      (others row_at entries)
      (λ one same. ap (λ (here : Beneath). record {
        place = one.path;
        what = what_of (object_among put one) (hides_dir here);
        flags = flags_among no_new_privs entries begun (made row_at entries) one;
      }) same)
      (all_filtered (λ one. IsSameBeneath one.path) (λ one. not (is_root one.path)) (made row_at entries) made_beneath)))

  pub same_made_of : made_of other entries ≡ made_of row_at entries
  same_made_of = ap (λ (none : List Refusal). unless_refused none (made other entries)) same_refusals
      ∙ ap (unless_refused (refusals row_at entries)) same_made

-- ---- a plan that is not refused
not_refused : (f : MountEntry → Option Refusal) (some : List MountEntry) → filter_map f some ≡ []
    → AllByRecursion (λ one. f one ≡ None) some
not_refused f [] e = tt
not_refused f (one ∷ some) e = by (f one) refl e (not_refused f some)
  where
    by : (o : Option Refusal) → f one ≡ o → cons_option o (filter_map f some) ≡ []
        → (filter_map f some ≡ [] → AllByRecursion (λ m. f m ≡ None) some) → (f one ≡ None) × AllByRecursion (λ m. f m ≡ None) some
    by None is e more = (is, more e)
    by (Some refusal) is e more = let bad : ⊥ = cc in absurd bad

pub are_settled : (row_at : Host) (entries found : List MountEntry) → made_of row_at entries ≡ Ok found → AreSettled row_at entries
are_settled row_at entries found e = not_refused (λ one. refusal_by one (fate_at row_at entries one)) (listed entries)
    (by (refusals row_at entries) refl e)
  where
    by : (none : List Refusal) → refusals row_at entries ≡ none → unless_refused none (made row_at entries) ≡ Ok found
        → refusals row_at entries ≡ []
    by [] is e = is
    by (refusal ∷ more) is e = let bad : ⊥ = cc in absurd bad
