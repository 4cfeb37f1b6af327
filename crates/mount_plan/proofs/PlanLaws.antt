-- Properties of the table of the kept mentions.
use Rattle.std.proofs.Common.{◌≡◌, ◌≤◌, ◌⊎◌, inl, inr, Bool, true, false, List, [], ◌∷◌, map, length, Ok, refl, sym, ap, ◌∙◌, subst, arith}
use Rattle.std.specs.Prelude.{◌&&◌, not}
use Rattle.std.specs.List.{AllByRecursion, Contains, enumerate_from}
use Rattle.std.proofs.lemmas.Bool.{false≢true, and_parts}
use Rattle.std.proofs.lemmas.List.Elements.{recursion_from_All, All-contains_itself}
use Rattle.path_settings.specs.abs_path.Paths.{is_root, Path, text_of, is_normal}
use Rattle.path_settings.specs.abs_path.Prefix.{is_prefix}
use Rattle.path_settings.specs.abs_path.ByteOrder.{AreAscending}
use Rattle.path_settings.proofs.OfAbsPath.Placed.{in_byte_order_is, in_byte_order_was, in_byte_order_ascending, root_first}
use Rattle.path_settings.specs.declared.mentions.Mention.{Mention}
use Rattle.path_settings.specs.Mentions.{leaves_the_root, is_origin}
use Rattle.path_settings.specs.view_map.View.{leading_to}
use Rattle.path_settings.specs.view_map.Object.{Object, on_host, empty, hidden, object_from, object_at}
use Rattle.path_settings.specs.view_map.Kept.{Host, kept_of}
use Rattle.path_settings.proofs.ViewMapLists.{filter_is, all_weaker, all_mapped, mapped_all, all_enumerated}
use Rattle.path_settings.proofs.Deciding.{longest_none}
use Rattle.path_settings.proofs.KeptLaws.{kept_is}
use Rattle.kern_mounts.specs.Table.{StartsAtRoot}
use Rattle.kern_mounts.specs.Launch.{BeginsAtRoot, HasShortPlace, IsNotNoSuid, IsPlainIfHidden}
use Rattle.mount_plan.specs.Plan.{what_of, flags_of, step_at, hides_dir_at, places_of, table_of}
use Rattle.mount_plan.specs.AsView.{FindsAsView}
use Rattle.mount_plan.specs.Form.{HasPlacesOf}
use Rattle.mount_plan.specs.Planned.{base_view}
use Rattle.path_settings.specs.declared.mentioned.Mentioned.TheVariants.{Base}
use Rattle.mount_plan.proofs.FindsAsView.{EntryOf, finds_entry, places_again}

abbrev pub paths_of : List Mention → List Path
paths_of mentions = map (λ mention. mention.path) mentions

abbrev pub AreNormal : List Mention → Type 0
AreNormal mentions = AllByRecursion (λ mention. is_normal mention.path ≡ true) mentions

-- each kept path is a place
pub kept_places : (kept : List Mention) → AreNormal kept → AllByRecursion (λ mention. Contains (places_of kept) mention.path) kept
kept_places kept normal =
    mapped_all (λ mention. mention.path) (Contains (places_of kept)) kept
    (in_byte_order_was (Contains (places_of kept)) ([] ∷ paths_of kept)
    (refl, all_mapped (λ mention. mention.path) (λ path. is_normal path ≡ true) kept normal)
    (recursion_from_All (Contains (places_of kept)) (places_of kept) (All-contains_itself (places_of kept)))).1

-- the first place is the root
starts_at_root : (row_at : Host) (kept : List Mention) → StartsAtRoot (table_of row_at kept)
starts_at_root row_at kept =
    let first = root_first (paths_of kept) in
    subst (λ (places : List Path). StartsAtRoot (map (step_at kept (hides_dir_at row_at kept)) places)) (sym first.1) refl

pub table_entry : (row_at : Host) (kept : List Mention) → AreNormal kept → (path : Path)
    → EntryOf kept (hides_dir_at row_at kept) (table_of row_at kept) path
table_entry row_at kept normal path =
    finds_entry kept (hides_dir_at row_at kept) (places_of kept) (starts_at_root row_at kept)
    (in_byte_order_ascending ([] ∷ paths_of kept)) (kept_places kept normal) path

pub table_finds : (row_at : Host) (kept : List Mention) → AreNormal kept → FindsAsView (base_view kept) (table_of row_at kept)
table_finds row_at kept normal path = let entry = table_entry row_at kept normal path in (entry.step, entry.belongs, entry.agrees)

pub table_ascends : (row_at : Host) (kept : List Mention) → AreAscending (map (λ step. step.place) (table_of row_at kept))
table_ascends row_at kept = subst AreAscending (sym (places_again kept (hides_dir_at row_at kept) (places_of kept)))
    (in_byte_order_ascending ([] ∷ paths_of kept))

-- no mention says which object is at the root
abbrev pub LeaveTheRoot : List Mention → Type 0
LeaveTheRoot mentions = AllByRecursion (λ mention. mention.path ≡ [] → is_origin mention.kind ≡ false) mentions

pub leave_the_root : (mentions : List Mention) → leaves_the_root mentions ≡ true → LeaveTheRoot mentions
leave_the_root [] h = tt
leave_the_root (mention ∷ mentions) h = let both = and_parts _ _ h in (here mention.path (is_origin mention.kind) both.0, leave_the_root mentions both.1)
  where
    here : (path : Path) (says : Bool) → not (is_root path && says) ≡ true → path ≡ [] → says ≡ false
    here path true h root = absurd (false≢true (sym (ap (λ p. not (is_root p && true)) root) ∙ h))
    here path false h root = refl

under_root : (path : Path) → is_prefix path [] ≡ true → path ≡ []
under_root [] h = refl
under_root (part ∷ path) h = absurd (false≢true h)

pub root_on_host : (kept : List Mention) → LeaveTheRoot kept → object_at kept [] ≡ on_host []
root_on_host kept free = ap (λ o. object_from o []) (longest_none is_origin (leading_to [] kept)
    (filter_is (λ one. is_prefix one.1.path []) (λ one. is_origin one.1.kind ≡ false) (enumerate_from 0 kept)
    (all_enumerated (λ mention. is_prefix mention.path [] ≡ true → is_origin mention.kind ≡ false) 0 kept
    (all_weaker (λ mention. mention.path ≡ [] → is_origin mention.kind ≡ false)
    (λ mention. is_prefix mention.path [] ≡ true → is_origin mention.kind ≡ false) kept
    (λ mention h leads. h (under_root mention.path leads)) free))))

pub begins_at_root : (row_at : Host) (kept : List Mention) → LeaveTheRoot kept → BeginsAtRoot (table_of row_at kept)
begins_at_root row_at kept free =
    let first = root_first (paths_of kept) in
    subst (λ (places : List Path). BeginsAtRoot (map (step_at kept (hides_dir_at row_at kept)) places)) (sym first.1)
    (refl, ap (λ object. what_of object (hides_dir_at row_at kept [])) (root_on_host kept free))

-- each place is the root or the path of a mention
pub places_mentioned : (row_at : Host) (mentions kept : List Mention) → kept_of row_at mentions ≡ Ok kept
    → HasPlacesOf (Base mentions) (table_of row_at kept)
places_mentioned row_at mentions kept e =
    let IsOne : Path → Type 0 = λ place. (place ≡ []) ⊎ Contains (paths_of mentions) place in
    all_mapped (step_at kept (hides_dir_at row_at kept)) (λ step. IsOne step.place) (places_of kept)
    (in_byte_order_is IsOne ([] ∷ paths_of kept) (
      inl refl,
      all_mapped (λ mention. mention.path) IsOne kept
          (kept_is (λ mention. IsOne mention.path) row_at mentions kept
          (mapped_all (λ mention. mention.path) IsOne mentions
          (all_weaker (Contains (paths_of mentions)) IsOne (paths_of mentions) (λ place among. inr among)
          (recursion_from_All (Contains (paths_of mentions)) (paths_of mentions) (All-contains_itself (paths_of mentions)))))
          e),
    ))

-- a hidden entry has no flags
pub hidden_plain : (row_at : Host) (kept : List Mention) → AllByRecursion IsPlainIfHidden (table_of row_at kept)
hidden_plain row_at kept = each (places_of kept)
  where
    by : (kept : List Mention) (place : Path) (is_dir read_only no_exec : Bool) (object : Object)
        → IsPlainIfHidden (record { place = place; what = what_of object is_dir; flags = flags_of object read_only no_exec })
    by kept place is_dir read_only no_exec (on_host path) = tt
    by kept place is_dir read_only no_exec empty = tt
    by kept place is_dir read_only no_exec hidden = refl

    each : (places : List Path) → AllByRecursion IsPlainIfHidden (map (step_at kept (hides_dir_at row_at kept)) places)
    each [] = tt
    each (place ∷ places) = (by kept place _ _ _ (object_at kept place), each places)

-- no entry takes privileges from programs
pub keep_user_ids : (row_at : Host) (kept : List Mention) → AllByRecursion IsNotNoSuid (table_of row_at kept)
keep_user_ids row_at kept = each (places_of kept)
  where
    by : (object : Object) (read_only no_exec : Bool) → (flags_of object read_only no_exec).no_suid ≡ false
    by (on_host path) read_only no_exec = refl
    by empty read_only no_exec = refl
    by hidden read_only no_exec = refl

    each : (places : List Path) → AllByRecursion IsNotNoSuid (map (step_at kept (hides_dir_at row_at kept)) places)
    each [] = tt
    each (place ∷ places) = (by (object_at kept place) _ _, each places)

-- each place is a normal path, and as short as the mentions' paths
pub short_places_of : (row_at : Host) (mentions kept : List Mention) → AreNormal mentions
    → AllByRecursion (λ mention. length (text_of mention.path) ≤ 250) mentions → kept_of row_at mentions ≡ Ok kept →
    AllByRecursion HasShortPlace (table_of row_at kept)
short_places_of row_at mentions kept normal short e =
    let IsPlace : Path → Type 0 = λ place. (is_normal place ≡ true) × (length (text_of place) ≤ 250) in
    all_mapped (step_at kept (hides_dir_at row_at kept)) HasShortPlace (places_of kept)
    (all_weaker IsPlace (λ place. HasShortPlace (step_at kept (hides_dir_at row_at kept) place)) (places_of kept)
    (λ place fits. record { normal = fits.0; short = fits.1 })
    (in_byte_order_is IsPlace ([] ∷ paths_of kept) (
      (refl, omega arith),
      all_mapped (λ mention. mention.path) IsPlace kept
          (all_both (λ mention. is_normal mention.path ≡ true) (λ mention. length (text_of mention.path) ≤ 250) kept
          (kept_is (λ mention. is_normal mention.path ≡ true) row_at mentions kept normal e)
          (kept_is (λ mention. length (text_of mention.path) ≤ 250) row_at mentions kept short e)),
    )))
  where
    all_both : {X : Type 0} (P Q : X → Type 0) (xs : List X) → AllByRecursion P xs → AllByRecursion Q xs
        → AllByRecursion (λ x. P x × Q x) xs
    all_both P Q [] h g = tt
    all_both P Q (x ∷ xs) h g = ((h.0, g.0), all_both P Q xs h.1 g.1)
