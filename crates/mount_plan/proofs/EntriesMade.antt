-- Properties of the entries that are made.
use Rattle.std.proofs.Common.{◌≡◌, ◌⊎◌, inl, inr, Bool, true, false, cond, List, [], ◌∷◌, ◌++◌, Option, Some, None, refl}
use Rattle.std.proofs.Common.{Err, sym, ap, ◌∙◌, subst, append-nil, append_assoc}
use Rattle.std.specs.Prelude.{◌&&◌, ◌||◌, not}
use Rattle.std.specs.List.{AllByRecursion, cons_option, filter_map}
use Rattle.std.proofs.lemmas.Bool.{false≢true, and_parts}
use Rattle.path_settings.specs.abs_path.Paths.{Path}
use Rattle.path_settings.specs.abs_path.Prefix.{is_prefix, is_same, is_below}
use Rattle.path_settings.specs.declared.systemd.entries.MountEntry.{MountEntry}
use Rattle.path_settings.specs.declared.systemd.modes.MountMode.{MountMode}
use Rattle.path_settings.specs.declared.systemd.modes.MountMode.TheVariants.{Hidden, Bind, DisconnectedTmp, RecursiveBind, PrivateTmp}
use Rattle.path_settings.specs.declared.systemd.modes.MountMode.TheVariants.{PrivateDevices, Tmpfs}
use Rattle.path_settings.specs.systemd.Modes.{hides, is_node, is_origin}
use Rattle.path_settings.specs.systemd.Listed.{is_vain, listed}
use Rattle.path_settings.specs.systemd.Made.{is_longest_such, longest_such, lies_beneath, object_by, object_from, object_in, has_source}
use Rattle.path_settings.specs.systemd.Made.{nodes, node_in, mounted_in, puts, putting, fate_in, fate_at, refusal_by, made}
use Rattle.path_settings.specs.declared.view_map.rules.Fate.{Fate}
use Rattle.path_settings.specs.view_map.Kept.{Host, Refusal, is_kept}
use Rattle.mount_plan.specs.Answers.{Refuses, first_of}
use Rattle.mount_plan.specs.declared.error.PlanError.{PlanError}
use Rattle.mount_plan.specs.declared.error.PlanError.TheVariants.{Missing, Kind, Memory}
use Rattle.path_settings.specs.view_map.Object.{Object, on_host, empty, hidden}
use Rattle.path_settings.proofs.SystemdLaws.{listed_is}
use Rattle.path_settings.proofs.ViewMapLists.{all_weaker, all_appended, all_filtered, filter_is, find_is, find_passes}
use Rattle.mount_plan.proofs.EntriesAsView.{IsOneOf, all_one_of, has_one}

-- the refusals of some entries
abbrev pub refusals_in : Host → List MountEntry → List MountEntry → List Refusal
refusals_in row_at put entries = filter_map (λ one. refusal_by one (fate_in row_at put one)) entries

-- an entry that is not refused leaves the refusals of the others
pub goes_past : (row_at : Host) (put : List MountEntry) (one : MountEntry) (rest : List MountEntry) (fate : Fate)
    → fate ≡ fate_in row_at put one → refusal_by one fate ≡ None
    → first_of (refusals_in row_at put rest) ≡ first_of (refusals_in row_at put (one ∷ rest))
goes_past row_at put one rest fate e h = sym (ap (λ (o : Option Refusal). first_of (cons_option o (refusals_in row_at put rest)))
    (ap (refusal_by one) (sym e) ∙ h))

-- the refusal of an entry comes first
pub stops_at : (row_at : Host) (put : List MountEntry) (one : MountEntry) (rest : List MountEntry) (fate : Fate) (error : PlanError)
    → fate ≡ fate_in row_at put one → Refuses (refusal_by one fate) (Err error)
    → Refuses (first_of (refusals_in row_at put (one ∷ rest))) (Err error)
stops_at row_at put one rest fate Memory e h = tt
stops_at row_at put one rest fate (Missing path) e h = ap (λ (o : Option Refusal). first_of (cons_option o (refusals_in row_at put rest)))
    (ap (refusal_by one) (sym e) ∙ h)
stops_at row_at put one rest fate (Kind path) e h = ap (λ (o : Option Refusal). first_of (cons_option o (refusals_in row_at put rest)))
    (ap (refusal_by one) (sym e) ∙ h)

-- what is picked for the next one is added
pub adds_picked : (f : MountEntry → Option MountEntry) (old new : List MountEntry) (one : MountEntry) (rest whole : List MountEntry)
    (o : Option MountEntry) → o ≡ f one → new ≡ old ++ cons_option o [] → old ++ filter_map f (one ∷ rest) ≡ whole
    → new ++ filter_map f rest ≡ whole
adds_picked f old new one rest whole o is e h =
    ap (λ (some : List MountEntry). some ++ filter_map f rest) e ∙ by o
    ∙ ap (λ (o : Option MountEntry). old ++ cons_option o (filter_map f rest)) is ∙ h
  where
    by : (o : Option MountEntry) → (old ++ cons_option o []) ++ filter_map f rest ≡ old ++ cons_option o (filter_map f rest)
    by None = ap (λ (some : List MountEntry). some ++ filter_map f rest) (append-nil old)
    by (Some own) = append_assoc old (own ∷ []) (filter_map f rest)

pub either : (a b : Bool) → (a || b) ≡ true → (a ≡ true) ⊎ (b ≡ true)
either true b e = inl refl
either false b e = inr e

-- an entry that lies beneath a path leads to it
pub lies_leads : (path : Path) (one : MountEntry) → lies_beneath path one ≡ true → is_prefix one.path path ≡ true
lies_leads path one h = elim (either (is_below path one.path) (is_node one.mode && is_prefix one.path path) h) [
  | inl over ↦ (and_parts (is_prefix one.path path) (not (is_same one.path path)) over).0
  | inr node ↦ (and_parts (is_node one.mode) (is_prefix one.path path) node).1
]

-- the longest of the entries that pass a test passes it, and has each property that all entries have
pub longest_passes : (test : MountEntry → Bool) (entries : List MountEntry) (one : MountEntry) → longest_such test entries ≡ Some one
    → test one ≡ true
longest_passes test entries one e = (and_parts _ _ (find_passes (is_longest_such test entries) entries one e)).0

pub longest_has : (P : MountEntry → Type 0) (test : MountEntry → Bool) (entries : List MountEntry) (one : MountEntry)
    → AllByRecursion P entries → longest_such test entries ≡ Some one → P one
longest_has P test entries one each e = find_is P (is_longest_such test entries) entries one each e

pub longest_leads : (put : List MountEntry) (path : Path) (one : MountEntry) → longest_such (lies_beneath path) put ≡ Some one
    → is_prefix one.path path ≡ true
longest_leads put path one e = lies_leads path one (longest_passes (lies_beneath path) put one e)

-- ---- properties of all entries
pub nodes_is : (P : MountEntry → Type 0) (entries : List MountEntry) → AllByRecursion P entries → AllByRecursion P (nodes entries)
nodes_is P entries each = all_filtered P _ entries each

pub putting_is : (P : MountEntry → Type 0) (row_at : Host) (entries : List MountEntry) → AllByRecursion P entries
    → AllByRecursion P (putting row_at entries)
putting_is P row_at entries each = all_filtered P (puts row_at) (listed entries ++ nodes entries)
    (all_appended P (listed entries) (nodes entries) (listed_is P entries each) (nodes_is P entries each))

-- ---- what is mounted
-- a property of each element that is picked
pub picked_is : (f : MountEntry → Option MountEntry) (P : MountEntry → Type 0) (some : List MountEntry)
    → AllByRecursion (λ one. (other : MountEntry) → f one ≡ Some other → P other) some → AllByRecursion P (filter_map f some)
picked_is f P [] each = tt
picked_is f P (one ∷ some) each = by (f one) refl (picked_is f P some each.1)
  where
    by : (o : Option MountEntry) → f one ≡ o → AllByRecursion P (filter_map f some) → AllByRecursion P (cons_option o (filter_map f some))
    by None e rest = rest
    by (Some other) e rest = (each.0 other e, rest)

-- a listed entry is mounted itself, or the node at its path stays
pub mounted_cases : (row_at : Host) (put among : List MountEntry) (one other : MountEntry) → mounted_in row_at put among one ≡ Some other
    → ((one ≡ other) × (is_kept (fate_in row_at put one) ≡ true)) ⊎ (node_in row_at among one.path ≡ Some other)
mounted_cases row_at put among one other e = by (is_kept (fate_in row_at put one)) refl e
  where
    by : (b : Bool) → is_kept (fate_in row_at put one) ≡ b → cond b (Some one) (node_in row_at among one.path) ≡ Some other
        → ((one ≡ other) × (is_kept (fate_in row_at put one) ≡ true)) ⊎ (node_in row_at among one.path ≡ Some other)
    by true kept e = let same : one ≡ other = cc in inl (same, kept)
    by false lost e = inr e

-- a mounted entry is listed and kept, or it is a node whose object exists
abbrev pub IsMounted : Host → List MountEntry → MountEntry → Type 0
IsMounted row_at entries one = (IsOneOf (listed entries) one × (is_kept (fate_at row_at entries one) ≡ true))
    ⊎ (IsOneOf (nodes entries) one × (has_source row_at one ≡ true))

pub each_mounted : (row_at : Host) (entries : List MountEntry) → AllByRecursion (IsMounted row_at entries) (made row_at entries)
each_mounted row_at entries = picked_is (mounted_in row_at (putting row_at entries) (nodes entries)) (IsMounted row_at entries) (listed entries)
    (all_weaker (IsOneOf (listed entries))
    (λ one. (other : MountEntry) → mounted_in row_at (putting row_at entries) (nodes entries) one ≡ Some other → IsMounted row_at entries other)
    (listed entries) by (all_one_of (listed entries)))
  where
    by : (one : MountEntry) → IsOneOf (listed entries) one → (other : MountEntry)
        → mounted_in row_at (putting row_at entries) (nodes entries) one ≡ Some other → IsMounted row_at entries other
    by one among other e = elim (mounted_cases row_at (putting row_at entries) (nodes entries) one other e) [
      | inl kept ↦ inl (
        subst (IsOneOf (listed entries)) kept.0 among,
        subst (λ (m : MountEntry). is_kept (fate_at row_at entries m) ≡ true) kept.0 kept.1,
      )
      | inr node ↦ inr (
        find_is (IsOneOf (nodes entries)) (λ m. is_same m.path one.path && has_source row_at m) (nodes entries) other
            (all_one_of (nodes entries)) node,
        (and_parts (is_same other.path one.path) (has_source row_at other)
            (find_passes (λ m. is_same m.path one.path && has_source row_at m) (nodes entries) other node)).1,
      )
    ]

pub made_is : (P : MountEntry → Type 0) (row_at : Host) (entries : List MountEntry) → AllByRecursion P entries
    → AllByRecursion P (made row_at entries)
made_is P row_at entries each = all_weaker (IsMounted row_at entries) P (made row_at entries) by (each_mounted row_at entries)
  where
    by : (one : MountEntry) → IsMounted row_at entries one → P one
    by one mounted = elim mounted [
      | inl kept ↦ has_one P (listed entries) one (listed_is P entries each) kept.0
      | inr node ↦ has_one P (nodes entries) one (nodes_is P entries each) node.0
    ]

pub nodes_are_nodes : (entries : List MountEntry) → AllByRecursion (λ one. is_node one.mode ≡ true) (nodes entries)
nodes_are_nodes entries = filter_is (λ one. is_node one.mode && not (is_vain entries one)) (λ one. is_node one.mode ≡ true) entries
    (each entries)
  where
    each : (some : List MountEntry)
        → AllByRecursion (λ one. (is_node one.mode && not (is_vain entries one)) ≡ true → is_node one.mode ≡ true) some
    each [] = tt
    each (one ∷ some) = ((λ live. (and_parts (is_node one.mode) (not (is_vain entries one)) live).0), each some)

-- it is kept, or it is a node
pub each_kept : (row_at : Host) (entries : List MountEntry)
    → AllByRecursion (λ one. (is_kept (fate_at row_at entries one) ≡ true) ⊎ (is_node one.mode ≡ true)) (made row_at entries)
each_kept row_at entries = all_weaker (IsMounted row_at entries)
    (λ one. (is_kept (fate_at row_at entries one) ≡ true) ⊎ (is_node one.mode ≡ true)) (made row_at entries) by (each_mounted row_at entries)
  where
    by : (one : MountEntry) → IsMounted row_at entries one → (is_kept (fate_at row_at entries one) ≡ true) ⊎ (is_node one.mode ≡ true)
    by one mounted = elim mounted [
      | inl kept ↦ inl kept.1
      | inr node ↦ inr (has_one (λ m. is_node m.mode ≡ true) (nodes entries) one (nodes_are_nodes entries) node.0)
    ]

-- what puts an object does not hide it
pub none_hides : (row_at : Host) (entries : List MountEntry) → AllByRecursion (λ one. hides one.mode ≡ false) (putting row_at entries)
none_hides row_at entries = filter_is (puts row_at) (λ one. hides one.mode ≡ false) (listed entries ++ nodes entries)
    (each (listed entries ++ nodes entries))
  where
    bare : (b : Bool) → not b ≡ true → b ≡ false
    bare true h = absurd (false≢true h)
    bare false h = refl

    each : (some : List MountEntry) → AllByRecursion (λ one. puts row_at one ≡ true → hides one.mode ≡ false) some
    each [] = tt
    each (one ∷ some) = (
      (λ put. bare (hides one.mode) (and_parts (is_origin one.mode) (not (hides one.mode))
          (and_parts (is_origin one.mode && not (hides one.mode)) (has_source row_at one) put).0).1),
      each some,
    )

-- an object that is put is not hidden
abbrev pub IsSeen : Object → Type 0
IsSeen (on_host path) = Unit {0}
IsSeen empty = Unit {0}
IsSeen hidden = ⊥

pub seen_by : (mode : MountMode) (place path : Path) → hides mode ≡ false → IsSeen (object_by mode place path)
seen_by Hidden place path h = absurd (false≢true (sym h))
seen_by (Bind source read_only) place path h = tt
seen_by DisconnectedTmp place path h = tt
seen_by (RecursiveBind source read_only) place path h = tt
seen_by PrivateTmp place path h = tt
seen_by PrivateDevices place path h = tt
seen_by (Tmpfs read_only no_exec no_suid) place path h = tt
seen_by _ place path h = tt

pub seen_in : (put : List MountEntry) (path : Path) → AllByRecursion (λ one. hides one.mode ≡ false) put → IsSeen (object_in put path)
seen_in put path none = by (longest_such (lies_beneath path) put) refl
  where
    by : (o : Option MountEntry) → longest_such (lies_beneath path) put ≡ o → IsSeen (object_from o path)
    by None e = tt
    by (Some one) e = seen_by one.mode one.path path
        (longest_has (λ other. hides other.mode ≡ false) (lies_beneath path) put one none e)
