-- The form of the table of the made entries.
use Rattle.std.proofs.Common.{◌≡◌, ◌≤◌, ◌⊎◌, inl, inr, ◌+◌, Bool, true, false, cond, List, [], ◌∷◌, filter, map, length, Option}
use Rattle.std.proofs.Common.{Some, None, refl, sym, ap, ◌∙◌, subst, arith}
use Rattle.std.specs.Prelude.{◌&&◌, not}
use Rattle.std.specs.List.{AllByRecursion, Contains, cons_option, filter_map}
use Rattle.std.proofs.lemmas.Bool.{false≢true, and_parts}
use Rattle.std.proofs.lemmas.List.Elements.{recursion_from_All, All-contains_itself}
use Rattle.path_settings.specs.abs_path.Paths.{Path, is_normal, is_root, text_of}
use Rattle.path_settings.specs.abs_path.ByteOrder.{is_before, AreAscending}
use Rattle.path_settings.specs.declared.mentioned.Mentioned.TheVariants.{Systemd}
use Rattle.path_settings.specs.declared.systemd.entries.MountEntry.{MountEntry}
use Rattle.path_settings.specs.systemd.Entries.{leaves_the_root}
use Rattle.path_settings.specs.systemd.Modes.{hides, is_origin}
use Rattle.path_settings.specs.systemd.Listed.{listed, listed_at, paths_of}
use Rattle.path_settings.specs.systemd.Made.{beneath_in, has_source, longest_such, made, mounted_in, nodes, object_by, object_in, putting}
use Rattle.path_settings.specs.systemd.View.{begins_by, begins_for, beginning, is_read_only, set_no_suid}
use Rattle.path_settings.specs.abs_path.Prefix.{is_same}
use Rattle.path_settings.proofs.OfAbsPath.Prefixes.{same_path}
use Rattle.path_settings.specs.view_map.Kept.{Host}
use Rattle.path_settings.specs.view_map.Object.{Object, on_host, empty, hidden}
use Rattle.path_settings.proofs.SystemdLaws.{listed_ascends}
use Rattle.path_settings.proofs.ViewMapLists.{all_filtered, all_mapped, all_weaker, mapped_all, filter_is, find_passes}
use Rattle.kern_mounts.specs.Launch.{BeginsAtRoot, HasShortPlace, IsPlainIfHidden, OnHidden}
use Rattle.kern_mounts.specs.declared.step.Flags.{Flags}
use Rattle.mount_plan.specs.Form.{HasPlacesOf}
use Rattle.mount_plan.specs.Plan.{hides_dir, what_of}
use Rattle.mount_plan.proofs.Counted.{with_placed_length}
use Rattle.kern_mounts.specs.Table.{no_flags}
use Rattle.mount_plan.specs.systemd.Table.{object_among, flags_among, no_exec_among, step_among, table_of}
use Rattle.mount_plan.proofs.EntriesMade.{IsSeen, made_is, mounted_cases, none_hides, seen_by, seen_in}

-- the made entries that are not at the root
abbrev pub others : Host → List MountEntry → List MountEntry
others row_at entries = filter (λ one. not (is_root one.path)) (made row_at entries)

pub begins_at_root : (row_at : Host) (no_new_privs : Bool) (entries : List MountEntry) → BeginsAtRoot (table_of row_at no_new_privs entries)
begins_at_root row_at no_new_privs entries = (refl, refl)

-- ---- places
-- fewer elements of an ascending list ascend
filter_ascends : (test : MountEntry → Bool) (entries : List MountEntry) → AreAscending (map (λ one. one.path) entries)
    → AreAscending (map (λ one. one.path) (filter test entries))
filter_ascends test [] up = tt
filter_ascends test (one ∷ entries) up = by (test one) (filter_ascends test entries up.1)
    (all_mapped (λ (other : MountEntry). other.path) (λ path. is_before one.path path ≡ true) (filter test entries)
    (all_filtered (λ other. is_before one.path other.path ≡ true) test entries
    (mapped_all (λ (other : MountEntry). other.path) (λ path. is_before one.path path ≡ true) entries up.0)))
  where
    by : (b : Bool) → AreAscending (map (λ one. one.path) (filter test entries))
        → AllByRecursion (λ path. is_before one.path path ≡ true) (map (λ one. one.path) (filter test entries))
        → AreAscending (map (λ one. one.path) (cond b (one ∷ filter test entries) (filter test entries)))
    by true rest later = (later, rest)
    by false rest later = rest

-- what is mounted for a listed entry is at its path
pub mounted_there : (row_at : Host) (put among : List MountEntry) (one other : MountEntry) → mounted_in row_at put among one ≡ Some other
    → other.path ≡ one.path
mounted_there row_at put among one other e = elim (mounted_cases row_at put among one other e) [
  | inl kept ↦ ap (λ (m : MountEntry). m.path) (sym kept.0)
  | inr node ↦ same_path other.path one.path (and_parts (is_same other.path one.path) (has_source row_at other)
      (find_passes (λ m. is_same m.path one.path && has_source row_at m) among other node)).0
]

-- entries that are picked for others at the same paths ascend as these
picked_ascend : (f : MountEntry → Option MountEntry) → ((one other : MountEntry) → f one ≡ Some other → other.path ≡ one.path)
    → (some : List MountEntry) → AreAscending (map (λ one. one.path) some) → AreAscending (map (λ one. one.path) (filter_map f some))
picked_ascend f there [] up = tt
picked_ascend f there (one ∷ some) up = by (f one) refl (picked_ascend f there some up.1) (later some up.0)
  where
    later : (some : List MountEntry) → AllByRecursion (λ path. is_before one.path path ≡ true) (map (λ other. other.path) some)
        → AllByRecursion (λ path. is_before one.path path ≡ true) (map (λ other. other.path) (filter_map f some))
    later [] before = tt
    later (next ∷ some) before = pick (f next) refl (later some before.1)
      where
        pick : (o : Option MountEntry) → f next ≡ o
            → AllByRecursion (λ path. is_before one.path path ≡ true) (map (λ other. other.path) (filter_map f some))
            → AllByRecursion (λ path. is_before one.path path ≡ true) (map (λ other. other.path) (cons_option o (filter_map f some)))
        pick None e rest = rest
        pick (Some other) e rest = (subst (λ (p : Path). is_before one.path p ≡ true) (sym (there next other e)) before.0, rest)

    by : (o : Option MountEntry) → f one ≡ o → AreAscending (map (λ one. one.path) (filter_map f some))
        → AllByRecursion (λ path. is_before one.path path ≡ true) (map (λ other. other.path) (filter_map f some))
        → AreAscending (map (λ one. one.path) (cons_option o (filter_map f some)))
    by None e rest before = rest
    by (Some other) e rest before = (
      subst (λ (p : Path). AllByRecursion (λ path. is_before p path ≡ true) (map (λ next. next.path) (filter_map f some)))
          (sym (there one other e)) before,
      rest,
    )

pub made_ascends : (row_at : Host) (entries : List MountEntry) → AreAscending (map (λ one. one.path) (made row_at entries))
made_ascends row_at entries = picked_ascend (mounted_in row_at (putting row_at entries) (nodes entries))
    (mounted_there row_at (putting row_at entries) (nodes entries)) (listed entries) (listed_ascends entries)

-- ---- byte order of the places
root_before : (path : Path) → not (is_root path) ≡ true → is_before [] path ≡ true
root_before [] h = absurd (false≢true h)
root_before (part ∷ path) h = refl

-- each of the others is not at the root
pub others_below : (row_at : Host) (entries : List MountEntry) → AllByRecursion (λ one. not (is_root one.path) ≡ true) (others row_at entries)
others_below row_at entries = filter_is (λ one. not (is_root one.path)) (λ one. not (is_root one.path) ≡ true) (made row_at entries)
    (each (made row_at entries))
  where
    each : (some : List MountEntry) → AllByRecursion (λ one. not (is_root one.path) ≡ true → not (is_root one.path) ≡ true) some
    each [] = tt
    each (one ∷ some) = ((λ h. h), each some)

pub others_ascend : (row_at : Host) (entries : List MountEntry) → AreAscending (map (λ one. one.path) (others row_at entries))
others_ascend row_at entries = filter_ascends (λ one. not (is_root one.path)) (made row_at entries) (made_ascends row_at entries)

-- the places of the steps are the paths of their entries
pub places_again : (row_at : Host) (no_new_privs : Bool) (entries put begun found some : List MountEntry)
    → map (λ step. step.place) (map (step_among row_at no_new_privs entries put begun found) some) ≡ map (λ one. one.path) some
places_again row_at no_new_privs entries put begun found [] = refl
places_again row_at no_new_privs entries put begun found (one ∷ some) =
    ap (λ (more : List Path). one.path ∷ more) (places_again row_at no_new_privs entries put begun found some)

pub table_ascends : (row_at : Host) (no_new_privs : Bool) (entries : List MountEntry) → AreAscending (map (λ step. step.place) (table_of row_at no_new_privs entries))
table_ascends row_at no_new_privs entries =
    subst (λ (paths : List Path). AllByRecursion (λ path. is_before [] path ≡ true) paths × AreAscending paths)
    (sym (places_again row_at no_new_privs entries (putting row_at entries) (beginning row_at entries) (made row_at entries) (others row_at entries))) (
      all_mapped (λ (one : MountEntry). one.path) (λ path. is_before [] path ≡ true) (others row_at entries)
          (all_weaker (λ one. not (is_root one.path) ≡ true) (λ one. is_before [] one.path ≡ true) (others row_at entries)
          (λ one bare. root_before one.path bare) (others_below row_at entries)),
      others_ascend row_at entries,
    )

-- ---- properties of the places
-- each place is the root or the path of an entry
pub places_mentioned : (row_at : Host) (no_new_privs : Bool) (entries : List MountEntry)
    → HasPlacesOf (Systemd entries no_new_privs) (table_of row_at no_new_privs entries)
places_mentioned row_at no_new_privs entries =
    let IsOne : Path → Type 0 = λ place. (place ≡ []) ⊎ Contains (map (λ (one : MountEntry). one.path) entries) place in (
      inl refl,
      all_mapped (step_among row_at no_new_privs entries (putting row_at entries) (beginning row_at entries) (made row_at entries)) (λ step. IsOne step.place)
          (others row_at entries)
          (all_filtered (λ one. IsOne one.path) (λ one. not (is_root one.path)) (made row_at entries)
          (made_is (λ one. IsOne one.path) row_at entries
          (mapped_all (λ (one : MountEntry). one.path) IsOne entries
          (all_weaker (Contains (map (λ (one : MountEntry). one.path) entries)) IsOne (map (λ (one : MountEntry). one.path) entries)
          (λ place among. inr among)
          (recursion_from_All (Contains (map (λ (one : MountEntry). one.path) entries)) (map (λ (one : MountEntry). one.path) entries)
          (All-contains_itself (map (λ (one : MountEntry). one.path) entries))))))),
    )

-- each place is a normal path, and as short as the paths of the entries
pub short_places_of : (row_at : Host) (no_new_privs : Bool) (entries : List MountEntry)
    → AllByRecursion (λ one. (is_normal one.path ≡ true) × (length (text_of one.path) ≤ 250)) entries
    → AllByRecursion HasShortPlace (table_of row_at no_new_privs entries)
short_places_of row_at no_new_privs entries fit = (
  record { normal = refl; short = omega arith },
  all_mapped (step_among row_at no_new_privs entries (putting row_at entries) (beginning row_at entries) (made row_at entries)) HasShortPlace (others row_at entries)
      (all_weaker (λ one. (is_normal one.path ≡ true) × (length (text_of one.path) ≤ 250))
      (λ one. HasShortPlace (step_among row_at no_new_privs entries (putting row_at entries) (beginning row_at entries) (made row_at entries) one)) (others row_at entries)
      (λ one fits. record { normal = fits.0; short = fits.1 })
      (all_filtered (λ one. (is_normal one.path ≡ true) × (length (text_of one.path) ≤ 250)) (λ one. not (is_root one.path))
      (made row_at entries)
      (made_is (λ one. (is_normal one.path ≡ true) × (length (text_of one.path) ≤ 250)) row_at entries fit))),
)

-- ---- a hidden entry has no flags
pub object_seen : (row_at : Host) (entries : List MountEntry) (one : MountEntry) → hides one.mode ≡ false
    → IsSeen (object_among (putting row_at entries) one)
object_seen row_at entries one bare = by (is_origin one.mode)
  where
    by : (b : Bool) → IsSeen (cond b (object_by one.mode one.path one.path) (object_in (putting row_at entries) one.path))
    by true = seen_by one.mode one.path one.path bare
    by false = seen_in (putting row_at entries) one.path (none_hides row_at entries)

plain_if_seen : (object : Object) (is_dir : Bool) (flags : Flags) → IsSeen object → OnHidden (what_of object is_dir) (flags ≡ no_flags)
plain_if_seen (on_host path) is_dir flags seen = tt
plain_if_seen empty is_dir flags seen = tt
plain_if_seen hidden is_dir flags seen = absurd seen

plain_anyway : (object : Object) (is_dir : Bool) (flags : Flags) → flags ≡ no_flags → OnHidden (what_of object is_dir) (flags ≡ no_flags)
plain_anyway (on_host path) is_dir flags is = tt
plain_anyway empty is_dir flags is = tt
plain_anyway hidden is_dir flags is = is

pub hidden_plain : (row_at : Host) (no_new_privs : Bool) (entries : List MountEntry) → AllByRecursion IsPlainIfHidden (table_of row_at no_new_privs entries)
hidden_plain row_at no_new_privs entries = (tt, each (others row_at entries))
  where
    own : (one : MountEntry) (b : Bool) → hides one.mode ≡ b → IsPlainIfHidden (step_among row_at no_new_privs entries (putting row_at entries) (beginning row_at entries) (made row_at entries) one)
    own one true is = plain_anyway (object_among (putting row_at entries) one) (hides_dir (beneath_in row_at (putting row_at entries) one.path)) (flags_among no_new_privs entries (beginning row_at entries) (made row_at entries) one)
        (ap (λ b. cond b no_flags (record {
          read_only = is_read_only entries one;
          no_exec = no_exec_among entries one (begins_by (longest_such (begins_for one.path) (beginning row_at entries))).no_exec;
          no_suid = set_no_suid no_new_privs (made row_at entries) one.path
              (begins_by (longest_such (begins_for one.path) (beginning row_at entries))).no_suid;
        })) is)
    own one false is = plain_if_seen (object_among (putting row_at entries) one) (hides_dir (beneath_in row_at (putting row_at entries) one.path)) (flags_among no_new_privs entries (beginning row_at entries) (made row_at entries) one)
        (object_seen row_at entries one is)

    each : (some : List MountEntry) → AllByRecursion IsPlainIfHidden (map (step_among row_at no_new_privs entries (putting row_at entries) (beginning row_at entries) (made row_at entries)) some)
    each [] = tt
    each (one ∷ some) = (own one (hides one.mode) refl, each some)

-- ---- there is at most one more place than entries
filter_few : {X : Type 0} (p : X → Bool) (xs : List X) → length (filter p xs) ≤ length xs
filter_few p [] = omega arith
filter_few p (x ∷ xs) = by (p x) (filter_few p xs)
  where
    by : (b : Bool) → length (filter p xs) ≤ length xs → length (cond b (x ∷ filter p xs) (filter p xs)) ≤ length (x ∷ xs)
    by true h = omega (arith, h)
    by false h = omega (arith, h)

picked_few : {X Y : Type 0} (f : X → Option Y) (xs : List X) → length (filter_map f xs) ≤ length xs
picked_few f [] = omega arith
picked_few {Y = Y} f (x ∷ xs) = by (f x) (picked_few f xs)
  where
    by : (o : Option Y) → length (filter_map f xs) ≤ length xs → length (cons_option o (filter_map f xs)) ≤ length (x ∷ xs)
    by None h = omega (arith, h)
    by (Some y) h = omega (arith, h)

pub mapped_length : {X Y : Type 0} (f : X → Y) (xs : List X) → length (map f xs) ≡ length xs
mapped_length f [] = refl
mapped_length f (x ∷ xs) = let rest = mapped_length f xs in omega arith

pub one_more : (row_at : Host) (no_new_privs : Bool) (entries : List MountEntry) → length (table_of row_at no_new_privs entries) ≤ length entries + 1
one_more row_at no_new_privs entries =
    let steps = mapped_length (step_among row_at no_new_privs entries (putting row_at entries) (beginning row_at entries) (made row_at entries)) (others row_at entries) in
    let a = filter_few (λ one. not (is_root one.path)) (made row_at entries) in
    let b = picked_few (mounted_in row_at (putting row_at entries) (nodes entries)) (listed entries) in
    let c = picked_few (listed_at entries) (paths_of entries) in
    let d = with_placed_length [] (map (λ (one : MountEntry). one.path) entries) in
    let e = mapped_length (λ (one : MountEntry). one.path) entries in
    omega (arith, steps, a, b, c, d, e)

-- ---- /proc is found as a directory, or is the place of a hidden one
-- no entry says which object is at the root
abbrev pub LeaveTheRoot : List MountEntry → Type 0
LeaveTheRoot entries = AllByRecursion (λ one. one.path ≡ [] → is_origin one.mode ≡ false) entries

pub leave_the_root : (entries : List MountEntry) → leaves_the_root entries ≡ true → LeaveTheRoot entries
leave_the_root [] h = tt
leave_the_root (one ∷ entries) h =
    let both = and_parts _ _ h in (here one.path (is_origin one.mode) both.0, leave_the_root entries both.1)
  where
    here : (path : Path) (says : Bool) → not (is_root path && says) ≡ true → path ≡ [] → says ≡ false
    here path true h root = absurd (false≢true (sym (ap (λ p. not (is_root p && true)) root) ∙ h))
    here path false h root = refl
