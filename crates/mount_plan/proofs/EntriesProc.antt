-- On the table of the made entries /proc is found as a directory, or is the place of a hidden one.
use Rattle.std.proofs.Common.{◌≡◌, inl, inr, Bool, true, false, cond, List, [], ◌∷◌, ◌++◌, Option, Some, None, refl, sym, ap, ◌∙◌}
use Rattle.std.proofs.Common.{subst, append-nil}
use Rattle.std.specs.Prelude.{◌&&◌, ◌||◌, length, nat_le, not, option_and_then}
use Rattle.std.specs.List.{AllByRecursion, list_all}
use Rattle.std.specs.Option.{option_map_or}
use Rattle.std.proofs.lemmas.Bool.{false≢true, and_parts, false_from_ne_true}
use Rattle.path_settings.specs.abs_path.Paths.{Path, proc, tail_of}
use Rattle.path_settings.specs.abs_path.Prefix.{is_prefix, is_same, is_below}
use Rattle.path_settings.proofs.OfAbsPath.Prefixes.{same_path}
use Rattle.path_settings.specs.declared.systemd.entries.MountEntry.{MountEntry}
use Rattle.path_settings.specs.declared.systemd.modes.MountMode.{MountMode}
use Rattle.path_settings.specs.declared.systemd.modes.MountMode.TheVariants.{Hidden, Bind, DisconnectedTmp, RecursiveBind, PrivateTmp}
use Rattle.path_settings.specs.declared.systemd.modes.MountMode.TheVariants.{PrivateDevices, Tmpfs, Node}
use Rattle.path_settings.specs.declared.view_map.rules.Beneath.TheVariants as beneath
use Rattle.path_settings.specs.systemd.Modes.{grants_the_same, hides, is_node, is_origin, is_private_devices}
use Rattle.path_settings.specs.systemd.Chosen.{chosen_at, is_nearest_above, is_strongest_at, nearest_above}
use Rattle.path_settings.specs.systemd.Listed.{chosen_above, is_vain, is_vain_below, listed}
use Rattle.path_settings.specs.systemd.Made.{has_source, is_longest_such, lies_beneath, mode_fate, nodes}
use Rattle.path_settings.specs.systemd.Made.{object_by, object_from, object_in, puts, putting, source_row}
use Rattle.path_settings.specs.view_map.Kept.{Host, is_kept}
use Rattle.path_settings.specs.view_map.Object.{Object, on_host}
use Rattle.path_settings.specs.view_map.Rules.{bind_fate}
use Rattle.path_settings.proofs.SystemdLaws.{listed_is, listed_new}
use Rattle.path_settings.proofs.ViewMapLists.{all_appended, all_weaker, filter_is, find_is, find_passes}
use Rattle.mount_plan.specs.Plan.{what_of}
use Rattle.mount_plan.proofs.EntriesAsView.{find_none}
use Rattle.mount_plan.proofs.EntriesMade.{either}
use Rattle.mount_plan.proofs.EntriesTable.{LeaveTheRoot}
use Rattle.mount_plan.proofs.FindsProc.{ShowsDirectory, above_proc}

-- a path above /proc is the root
over_proc : (path : Path) → is_below proc path ≡ true → path ≡ []
over_proc path over = elim (above_proc path (and_parts _ _ over).0) [
  | inl root ↦ root
  | inr same ↦ absurd (false≢true (sym (ap not (ap (λ (p : Path). is_same p proc) same)) ∙ (and_parts _ _ over).1))
]

private_is_origin : (mode : MountMode) → is_origin mode ≡ false → is_private_devices mode ≡ false
private_is_origin PrivateDevices h = absurd (false≢true (sym h))
private_is_origin _ h = refl

node_is_origin : (mode : MountMode) → is_node mode ≡ true → is_origin mode ≡ true
node_is_origin Node h = refl
node_is_origin _ h = absurd (false≢true h)

or_true : (a b c : Bool) → b ≡ true → c ≡ false → (a || (b && not c)) ≡ true
or_true true b c is out = refl
or_true false true false is out = refl
or_true false true true is out = absurd (false≢true (sym out))
or_true false false c is out = absurd (false≢true is)

module _ (entries : List MountEntry) (free : LeaveTheRoot entries) where
  -- no private /dev is above /proc, so a node at /proc says nothing
  lost_node : (one : MountEntry) → is_node one.mode ≡ true → one.path ≡ proc → is_vain entries one ≡ true
  lost_node one node at = ap (λ (p : Path). option_map_or (is_vain_below one) (chosen_above entries p) (is_node one.mode)) at
      ∙ near (nearest_above entries proc) refl
    where
      under : (over : MountEntry) → over.path ≡ [] → (over.path ≡ [] → is_origin over.mode ≡ false) → is_vain_below one over ≡ true
      under over root plain = or_true (grants_the_same one.mode over.mode) (is_node one.mode) (is_private_devices over.mode) node
          (private_is_origin over.mode (plain root))

      chosen : (front : MountEntry) → front.path ≡ [] → (o : Option MountEntry) → chosen_at entries front.path ≡ o
          → option_map_or (is_vain_below one) o (is_node one.mode) ≡ true
      chosen front root None is = node
      chosen front root (Some over) is =
          let test = find_passes (is_strongest_at entries front.path) entries over is in
          under over (same_path over.path front.path (and_parts _ _ test).0 ∙ root)
          (find_is (λ other. other.path ≡ [] → is_origin other.mode ≡ false) (is_strongest_at entries front.path) entries over free is)

      near : (o : Option MountEntry) → nearest_above entries proc ≡ o
          → option_map_or (is_vain_below one) (option_and_then (λ front. chosen_at entries front.path) o) (is_node one.mode) ≡ true
      near None is = node
      near (Some front) is =
          let test = find_passes (is_nearest_above entries proc) entries front is in
          chosen front (over_proc front.path (and_parts _ _ test).0) (chosen_at entries front.path) refl

  -- so nothing that is put lies beneath /proc
  not_beneath : (row_at : Host) (one : MountEntry) → (one.path ≡ [] → is_origin one.mode ≡ false) → is_vain entries one ≡ false
      → puts row_at one ≡ true → lies_beneath proc one ≡ false
  not_beneath row_at one plain new put = false_from_ne_true (lies_beneath proc one) (λ lies.
      elim (either (is_below proc one.path) (is_node one.mode && is_prefix one.path proc) lies) [
        | inl over ↦ false≢true (sym (plain (over_proc one.path over)) ∙ (and_parts (is_origin one.mode) (not (hides one.mode))
            (and_parts (is_origin one.mode && not (hides one.mode)) (has_source row_at one) put).0).0)
        | inr node ↦ (
            let both = and_parts (is_node one.mode) (is_prefix one.path proc) node in
            elim (above_proc one.path both.1) [
              | inl root ↦ false≢true (sym (plain root) ∙ node_is_origin one.mode both.0)
              | inr same ↦ false≢true (sym new ∙ lost_node one both.0 same)
            ])
      ])

  abbrev IsFree : MountEntry → Type 0
  IsFree one = (one.path ≡ [] → is_origin one.mode ≡ false) × (is_vain entries one ≡ false)

  listed_free : AllByRecursion IsFree (listed entries)
  listed_free = both (listed entries) (listed_is (λ one. one.path ≡ [] → is_origin one.mode ≡ false) entries free) (listed_new entries)
    where
      both : (some : List MountEntry) → AllByRecursion (λ one. one.path ≡ [] → is_origin one.mode ≡ false) some
          → AllByRecursion (λ one. is_vain entries one ≡ false) some → AllByRecursion IsFree some
      both [] h g = tt
      both (one ∷ some) h g = ((h.0, g.0), both some h.1 g.1)

  nodes_free : AllByRecursion IsFree (nodes entries)
  nodes_free = filter_is (λ one. is_node one.mode && not (is_vain entries one)) IsFree entries
      (all_weaker (λ one. one.path ≡ [] → is_origin one.mode ≡ false)
      (λ one. (is_node one.mode && not (is_vain entries one)) ≡ true → IsFree one) entries
      (λ one plain live. (plain, bare (is_vain entries one) (and_parts (is_node one.mode) (not (is_vain entries one)) live).1)) free)
    where
      bare : (b : Bool) → not b ≡ true → b ≡ false
      bare true h = absurd (false≢true h)
      bare false h = refl

  pub proc_beneath : (row_at : Host) → object_in (putting row_at entries) proc ≡ on_host proc
  proc_beneath row_at = ap (λ o. object_from o proc) (find_none (is_longest_such (lies_beneath proc) (putting row_at entries))
      (putting row_at entries) (none (putting row_at entries) (putting row_at entries)
      (filter_is (puts row_at) (λ one. lies_beneath proc one ≡ false) (listed entries ++ nodes entries)
      (all_weaker IsFree (λ one. puts row_at one ≡ true → lies_beneath proc one ≡ false) (listed entries ++ nodes entries)
      (λ one own put. not_beneath row_at one own.0 own.1 put)
      (all_appended IsFree (listed entries) (nodes entries) listed_free nodes_free)))))
    where
      none : (whole some : List MountEntry) → AllByRecursion (λ one. lies_beneath proc one ≡ false) some
          → AllByRecursion (λ one. is_longest_such (lies_beneath proc) whole one ≡ false) some
      none whole [] h = tt
      none whole (one ∷ some) h = (
        ap (λ b. b && list_all (λ other. not (lies_beneath proc other)
            || nat_le (length (tail_of other.path)) (length (tail_of one.path))) whole) h.0,
        none whole some h.1,
      )

-- ---- the entry at /proc shows a directory
abbrev pub BindsDirectory : Host → MountMode → Type 0
BindsDirectory row_at (Bind source read_only) = row_at source ≡ Some true
BindsDirectory row_at (RecursiveBind source read_only) = row_at source ≡ Some true
BindsDirectory row_at _ = Unit {0}

dir_bound : (o : Option Bool) (optional : Bool) → is_kept (bind_fate o (beneath.Row true) optional) ≡ true → o ≡ Some true
dir_bound None true h = absurd (false≢true h)
dir_bound None false h = absurd (false≢true h)
dir_bound (Some true) optional h = refl
dir_bound (Some false) optional h = absurd (false≢true h)

pub binds_directory : (row_at : Host) (path : Path) (mode : MountMode) (optional : Bool)
    → is_kept (mode_fate (source_row row_at (record { path = path; mode = mode; optional = optional })) (beneath.Row true) optional mode)
    ≡ true → BindsDirectory row_at mode
binds_directory row_at path (Bind source read_only) optional h = dir_bound (row_at source) optional h
binds_directory row_at path (RecursiveBind source read_only) optional h = dir_bound (row_at source) optional h
binds_directory row_at path _ optional h = tt

pub node_binds : (row_at : Host) (mode : MountMode) → is_node mode ≡ true → BindsDirectory row_at mode
node_binds row_at Node h = tt
node_binds row_at _ h = absurd (false≢true h)

pub shows_by : (row_at : Host) (mode : MountMode) (here : Object) (is_dir : Bool) → row_at proc ≡ Some true → here ≡ on_host proc
    → is_dir ≡ true → BindsDirectory row_at mode
    → ShowsDirectory row_at proc (what_of (cond (is_origin mode) (object_by mode proc proc) here) is_dir) proc
shows_by row_at Hidden here is_dir row at dir binds = (refl, dir)
shows_by row_at (Bind source read_only) here is_dir row at dir binds = ap row_at (append-nil (source ++ []) ∙ append-nil source) ∙ binds
shows_by row_at DisconnectedTmp here is_dir row at dir binds = refl
shows_by row_at (RecursiveBind source read_only) here is_dir row at dir binds =
    ap row_at (append-nil (source ++ []) ∙ append-nil source) ∙ binds
shows_by row_at PrivateTmp here is_dir row at dir binds = refl
shows_by row_at PrivateDevices here is_dir row at dir binds = refl
shows_by row_at (Tmpfs read_only no_exec no_suid) here is_dir row at dir binds = refl
shows_by row_at Node here is_dir row at dir binds = row
shows_by row_at _ here is_dir row at dir binds =
    subst (λ (o : Object). ShowsDirectory row_at proc (what_of o is_dir) proc) (sym at) row
