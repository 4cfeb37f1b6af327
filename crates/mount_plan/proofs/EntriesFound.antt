-- The table of the made entries shows exactly the view.
use Rattle.std.proofs.Common.{◌≡◌, Bool, true, false, cond, List, [], ◌∷◌, filter, map, find, Option, Some, None, refl, sym, ap, ◌∙◌}
use Rattle.std.proofs.Common.{subst}
use Rattle.std.specs.Prelude.{◌&&◌, ◌||◌, length, nat_le, not}
use Rattle.std.specs.List.{AllByRecursion, last_or, list_all}
use Rattle.std.specs.Option.{option_map_or}
use Rattle.std.proofs.lemmas.Bool.{false≢true}
use Rattle.path_settings.specs.abs_path.Paths.{Path, is_root, tail_of}
use Rattle.path_settings.specs.abs_path.Prefix.{is_prefix, is_same, rest_of}
use Rattle.path_settings.specs.abs_path.ByteOrder.{is_before, AreAscending}
use Rattle.path_settings.specs.declared.systemd.entries.MountEntry.{MountEntry}
use Rattle.path_settings.specs.declared.systemd.modes.MountMode.{MountMode}
use Rattle.path_settings.specs.declared.systemd.modes.MountMode.TheVariants.{Hidden, Node}
use Rattle.path_settings.specs.systemd.Modes.{hides, is_node, is_origin}
use Rattle.path_settings.specs.systemd.Made.{beneath_in, is_longest_such, lies_beneath, made, object_by, object_from, object_in, putting}
use Rattle.path_settings.specs.systemd.View.{beginning, is_no_exec, is_no_suid, is_read_only, leads_to, object_of, sight_from, view}
use Rattle.path_settings.specs.view_map.Kept.{Host}
use Rattle.path_settings.specs.view_map.Object.{Object, on_host, empty, hidden, object_behind}
use Rattle.path_settings.proofs.OfAbsPath.Prefixes.{prefix_and_rest}
use Rattle.path_settings.proofs.ViewMapLists.{all_weaker, filter_all, mapped_all}
use Rattle.kern_mounts.specs.Entry.{entry_of}
use Rattle.kern_mounts.specs.Entry as entry
use Rattle.kern_mounts.specs.declared.step.MountStep.{MountStep}
use Rattle.kern_mounts.specs.declared.step.What.TheVariants as what
use Rattle.mount_plan.specs.AsView.{Agrees, FindsAsView}
use Rattle.mount_plan.specs.Plan.{flags_in, hides_dir}
use Rattle.kern_mounts.specs.Table.{no_flags}
use Rattle.mount_plan.specs.systemd.Table.{flags_among, root_flags, root_step, step_among, table_of}
use Rattle.mount_plan.proofs.EntriesAsView.{find_none, last_leading, longest_is_last}
use Rattle.mount_plan.proofs.EntriesMade.{IsSeen, made_is, putting_is}
use Rattle.mount_plan.proofs.EntriesTable.{LeaveTheRoot, made_ascends, object_seen, others}
use Rattle.mount_plan.proofs.FindsAsView.{shown_behind}

-- ---- lists

last_some : {X : Type 0} (one : X) (some : List X) → last_or (Some one) some ≡ Some (option_map_or (λ x. x) (last_or None some) one)
last_some one [] = refl
last_some one (next ∷ some) = last_some next some ∙ sym (ap (λ o. Some (option_map_or (λ x. x) o one)) (last_some next some))

last_step : {X Y : Type 0} (step : X → Y) (first : Y) (some : List X)
    → last_or (Some first) (map step some) ≡ Some (option_map_or step (last_or None some) first)
last_step step first [] = refl
last_step {X = X} step first (one ∷ some) = last_step step (step one) some
    ∙ ap Some (after (last_or None some)) ∙ sym (ap (λ o. Some (option_map_or step o first)) (last_some one some))
  where
    after : (o : Option X) → option_map_or step o (step one) ≡ step (option_map_or (λ x. x) o one)
    after None = refl
    after (Some last) = refl

-- ---- the made entry at the root comes first
none_before_root : (path : Path) → is_before path [] ≡ false
none_before_root [] = refl
none_before_root (part ∷ path) = refl

root_is : (path : Path) → is_root path ≡ true → path ≡ []
root_is [] h = refl
root_is (part ∷ path) h = absurd (false≢true h)

below_all : (front : Path) (some : List MountEntry) → AllByRecursion (λ one. is_before front one.path ≡ true) some
    → AllByRecursion (λ one. not (is_root one.path) ≡ true) some
below_all front [] before = tt
below_all front (one ∷ some) before = (by one.path before.0, below_all front some before.1)
  where
    by : (path : Path) → is_before front path ≡ true → not (is_root path) ≡ true
    by [] h = absurd (false≢true (sym (none_before_root front) ∙ h))
    by (part ∷ path) h = refl

-- the made entries with one at the root, or without
pub data RootFirst : List MountEntry → Type 0 where
  no_root : (some : List MountEntry) → AllByRecursion (λ one. not (is_root one.path) ≡ true) some → RootFirst some
  one_root : (root : MountEntry) (some : List MountEntry) → root.path ≡ []
      → AllByRecursion (λ one. not (is_root one.path) ≡ true) some → RootFirst (root ∷ some)

pub root_first : (some : List MountEntry) → AreAscending (map (λ one. one.path) some) → RootFirst some
root_first [] up = no_root [] tt
root_first (first ∷ some) up = by (is_root first.path) refl
    (below_all first.path some (mapped_all (λ (one : MountEntry). one.path) (λ path. is_before first.path path ≡ true) some up.0))
  where
    by : (b : Bool) → is_root first.path ≡ b → AllByRecursion (λ one. not (is_root one.path) ≡ true) some → RootFirst (first ∷ some)
    by true is rest = one_root first some (root_is first.path is) rest
    by false is rest = no_root (first ∷ some) (ap not is, rest)

-- ---- the object and the flags of an entry
hides_object : (mode : MountMode) (place path : Path) → hides mode ≡ true
    → (is_origin mode ≡ true) × (object_by mode place path ≡ hidden)
hides_object Hidden place path h = (refl, refl)
hides_object _ place path h = absurd (false≢true h)

seen_flags : (object : Object) (rest : Path) (read_only no_exec no_suid : Bool) → IsSeen object
    → flags_in (object_behind object rest) read_only no_exec no_suid
    ≡ record { read_only = read_only; no_exec = no_exec; no_suid = no_suid }
seen_flags (on_host path) rest read_only no_exec no_suid seen = refl
seen_flags empty rest read_only no_exec no_suid seen = refl
seen_flags hidden rest read_only no_exec no_suid seen = absurd seen

-- ---- the host's root beneath the made entries
and_nothing : (b : Bool) → (b && false) ≡ false
and_nothing true = refl
and_nothing false = refl

node_is_origin : (mode : MountMode) → is_origin mode ≡ false → is_node mode ≡ false
node_is_origin Node h = absurd (false≢true (sym h))
node_is_origin _ h = refl

nothing_below_root : (one : MountEntry) → (one.path ≡ [] → is_origin one.mode ≡ false) → lies_beneath [] one ≡ false
nothing_below_root one free = by one.path (λ at. node_is_origin one.mode (free at))
  where
    by : (path : Path) → (path ≡ [] → is_node one.mode ≡ false)
        → ((is_prefix path [] && not (is_same path [])) || (is_node one.mode && is_prefix path [])) ≡ false
    by [] bare = ap (λ b. b && true) (bare refl)
    by (part ∷ path) bare = and_nothing (is_node one.mode)

pub root_beneath : (row_at : Host) (entries : List MountEntry) → LeaveTheRoot entries → object_in (putting row_at entries) [] ≡ on_host []
root_beneath row_at entries free = ap (λ o. object_from o []) (find_none (is_longest_such (lies_beneath []) (putting row_at entries))
    (putting row_at entries) (none (putting row_at entries) (putting row_at entries)
    (putting_is (λ one. lies_beneath [] one ≡ false) row_at entries
    (all_weaker (λ one. one.path ≡ [] → is_origin one.mode ≡ false) (λ one. lies_beneath [] one ≡ false) entries nothing_below_root free))))
  where
    none : (whole some : List MountEntry) → AllByRecursion (λ one. lies_beneath [] one ≡ false) some
        → AllByRecursion (λ one. is_longest_such (lies_beneath []) whole one ≡ false) some
    none whole [] h = tt
    none whole (one ∷ some) h = (
      ap (λ b. b && list_all (λ other. not (lies_beneath [] other)
          || nat_le (length (tail_of other.path)) (length (tail_of one.path))) whole) h.0,
      none whole some h.1,
    )

module _ (row_at : Host) (no_new_privs : Bool) (entries : List MountEntry) (free : LeaveTheRoot entries) where
  abbrev step : MountEntry → MountStep
  step = step_among row_at no_new_privs entries (putting row_at entries) (beginning row_at entries) (made row_at entries)

  -- ---- one entry
  flags_agree : (one : MountEntry) (rest : Path) → flags_among no_new_privs entries (beginning row_at entries) (made row_at entries) one
      ≡ flags_in (object_behind (object_of row_at entries one) rest) (is_read_only entries one) (is_no_exec row_at entries one)
      (is_no_suid row_at no_new_privs entries one)
  flags_agree one rest = by (hides one.mode) refl
    where
      by : (b : Bool) → hides one.mode ≡ b → flags_among no_new_privs entries (beginning row_at entries) (made row_at entries) one
          ≡ flags_in (object_behind (object_of row_at entries one) rest) (is_read_only entries one) (is_no_exec row_at entries one)
          (is_no_suid row_at no_new_privs entries one)
      by true is =
          let h = hides_object one.mode one.path one.path is in
          ap (λ b. cond b no_flags (record {
            read_only = is_read_only entries one;
            no_exec = is_no_exec row_at entries one;
            no_suid = is_no_suid row_at no_new_privs entries one;
          })) is
          ∙ sym (ap (λ b. flags_in (object_behind (cond b (object_by one.mode one.path one.path)
          (object_in (putting row_at entries) one.path)) rest) (is_read_only entries one) (is_no_exec row_at entries one)
          (is_no_suid row_at no_new_privs entries one)) h.0
          ∙ ap (λ (o : Object). flags_in (object_behind o rest) (is_read_only entries one) (is_no_exec row_at entries one)
          (is_no_suid row_at no_new_privs entries one)) h.1)
      by false is =
          ap (λ b. cond b no_flags (record {
            read_only = is_read_only entries one;
            no_exec = is_no_exec row_at entries one;
            no_suid = is_no_suid row_at no_new_privs entries one;
          })) is
          ∙ sym (seen_flags (object_of row_at entries one) rest (is_read_only entries one) (is_no_exec row_at entries one)
          (is_no_suid row_at no_new_privs entries one) (object_seen row_at entries one is))

  agree_at : (one : MountEntry) (path : Path) → Agrees (sight_from row_at no_new_privs entries (Some one) path) path (step one)
  agree_at one path = record {
    origin = shown_behind (object_of row_at entries one) (hides_dir (beneath_in row_at (putting row_at entries) one.path)) one.path path;
    flags = flags_agree one (rest_of one.path path);
  }

  -- ---- the root
  host_at : (path : Path) → Agrees (sight_from row_at no_new_privs entries None path) path (root_step no_new_privs entries (beginning row_at entries) (made row_at entries) [])
  host_at path = record {
    origin = shown_behind (on_host []) true [] path ∙ ap on_host (prefix_and_rest [] path refl);
    flags = refl;
  }

  root_object : (root : MountEntry) → root.path ≡ [] → is_origin root.mode ≡ false → object_of row_at entries root ≡ on_host []
  root_object root at plain =
      ap (λ b. cond b (object_by root.mode root.path root.path) (object_in (putting row_at entries) root.path)) plain
      ∙ ap (object_in (putting row_at entries)) at ∙ root_beneath row_at entries free

  root_at : (root : MountEntry) (some : List MountEntry) (path : Path) → root.path ≡ [] → is_origin root.mode ≡ false
      → Agrees (sight_from row_at no_new_privs entries (Some root) path) path (root_step no_new_privs entries (beginning row_at entries) (made row_at entries) (root ∷ some))
  root_at root some path at plain = record {
    origin = shown_behind (on_host []) true [] path
        ∙ ap (λ (p : Path). object_behind (on_host []) (rest_of p path)) (sym at)
        ∙ ap (λ (o : Object). object_behind o (rest_of root.path path)) (sym (root_object root at plain));
    flags = ap (λ o. root_flags no_new_privs entries (beginning row_at entries) (made row_at entries) o)
        (ap (λ b. cond b (Some root) (find (λ one. is_root one.path) some)) (ap is_root at))
        ∙ flags_agree root (rest_of root.path path);
  }

  -- ---- all entries
  leading : (path : Path) (some : List MountEntry)
      → filter (entry.leads_to path) (map step some) ≡ map step (filter (leads_to path) some)
  leading path [] = refl
  leading path (one ∷ some) = by (is_prefix one.path path) (leading path some)
    where
      by : (b : Bool) → filter (entry.leads_to path) (map step some) ≡ map step (filter (leads_to path) some)
          → cond b (step one ∷ filter (entry.leads_to path) (map step some)) (filter (entry.leads_to path) (map step some))
          ≡ map step (cond b (one ∷ filter (leads_to path) some) (filter (leads_to path) some))
      by true rest = ap (λ (steps : List MountStep). step one ∷ steps) rest
      by false rest = rest

  pub entry_is : (path : Path) → entry_of (table_of row_at no_new_privs entries) path
      ≡ Some (option_map_or step (last_leading (others row_at entries) path) (root_step no_new_privs entries (beginning row_at entries) (made row_at entries) (made row_at entries)))
  entry_is path = ap (last_or (Some (root_step no_new_privs entries (beginning row_at entries) (made row_at entries) (made row_at entries)))) (leading path (others row_at entries))
      ∙ last_step step (root_step no_new_privs entries (beginning row_at entries) (made row_at entries) (made row_at entries)) (filter (leads_to path) (others row_at entries))

  bare_root : (some : List MountEntry) → AllByRecursion (λ one. not (is_root one.path) ≡ true) some
      → AllByRecursion (λ one. is_root one.path ≡ false) some
  bare_root [] bare = tt
  bare_root (one ∷ some) bare = (by (is_root one.path) bare.0, bare_root some bare.1)
    where
      by : (b : Bool) → not b ≡ true → b ≡ false
      by true h = absurd (false≢true h)
      by false h = refl

  -- without an entry at the root
  hostly : (some : List MountEntry) (path : Path) → find (λ one. is_root one.path) some ≡ None → (o : Option MountEntry)
      → Agrees (sight_from row_at no_new_privs entries o path) path (option_map_or step o (root_step no_new_privs entries (beginning row_at entries) (made row_at entries) some))
  hostly some path none None = subst (λ (found : Option MountEntry). Agrees (sight_from row_at no_new_privs entries None path) path (record {
    place = [];
    what = what.Host [];
    flags = root_flags no_new_privs entries (beginning row_at entries) (made row_at entries) found;
  })) (sym none) (host_at path)
  hostly some path none (Some one) = agree_at one path

  -- with one
  rooted : (root : MountEntry) (some : List MountEntry) (path : Path) → root.path ≡ [] → is_origin root.mode ≡ false → (o : Option MountEntry)
      → Agrees (sight_from row_at no_new_privs entries (Some (option_map_or (λ one. one) o root)) path) path
      (option_map_or step o (root_step no_new_privs entries (beginning row_at entries) (made row_at entries) (root ∷ some)))
  rooted root some path at plain None = root_at root some path at plain
  rooted root some path at plain (Some one) = agree_at one path

  abbrev AgreeAt : List MountEntry → Path → Option MountEntry → List MountEntry → Type 0
  AgreeAt some path last found = Agrees (sight_from row_at no_new_privs entries last path) path
      (option_map_or step (last_leading found path) (root_step no_new_privs entries (beginning row_at entries) (made row_at entries) some))

  agree_all : (some : List MountEntry) → RootFirst some → LeaveTheRoot some → (path : Path)
      → AgreeAt some path (last_leading some path) (filter (λ one. not (is_root one.path)) some)
  agree_all _ (no_root some bare) plain path =
      subst (AgreeAt some path (last_leading some path)) (sym (filter_all (λ one. not (is_root one.path)) some bare))
      (hostly some path (find_none (λ one. is_root one.path) some (bare_root some bare)) (last_leading some path))
  agree_all _ (one_root root some at bare) plain path =
      let rest : List MountEntry = filter (λ one. not (is_root one.path)) some in
      let lead : List MountEntry = filter (leads_to path) some in
      subst (AgreeAt (root ∷ some) path (last_leading (root ∷ some) path))
      (sym (ap (λ b. cond (not b) (root ∷ rest) rest) (ap is_root at) ∙ filter_all (λ one. not (is_root one.path)) some bare))
      (subst (λ (last : Option MountEntry). AgreeAt (root ∷ some) path last some)
      (sym (ap (λ (p : Path). last_or None (cond (is_prefix p path) (root ∷ lead) lead)) at ∙ last_some root lead))
      (rooted root some path at (plain.0 at) (last_leading some path)))

  -- each path belongs to the entry that shows what the view has there
  pub finds_as_view : FindsAsView (view row_at no_new_privs entries) (table_of row_at no_new_privs entries)
  finds_as_view path = (
    option_map_or step (last_leading (others row_at entries) path) (root_step no_new_privs entries (beginning row_at entries) (made row_at entries) (made row_at entries)),
    entry_is path,
    subst (λ (last : Option MountEntry). AgreeAt (made row_at entries) path last (others row_at entries))
        (sym (longest_is_last path (made row_at entries) (made_ascends row_at entries)))
        (agree_all (made row_at entries) (root_first (made row_at entries) (made_ascends row_at entries))
        (made_is (λ one. one.path ≡ [] → is_origin one.mode ≡ false) row_at entries free) path),
  )
