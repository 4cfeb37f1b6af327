-- The parts of a host that a plan does not show do not change it.
use Rattle.std.proofs.Common.{◌≡◌, ◌∙◌, ℕ, Bool, true, false, List, [], ◌∷◌, ◌++◌, Some, refl, ap, sym, subst}
use Rattle.std.specs.Prelude.{◌&&◌, not, map, option_and_then, Ok}
use Rattle.std.specs.Str.{bytes_eq}
use Rattle.std.specs.List.{AllByRecursion, enumerate_from}
use Rattle.path_settings.specs.abs_path.Paths.{Path, is_normal}
use Rattle.path_settings.specs.abs_path.Prefix.{is_prefix, is_same, is_below, rest_of}
use Rattle.path_settings.specs.abs_path.ByteOrder.{in_byte_order}
use Rattle.path_settings.proofs.OfAbsPath.Prefixes.{prefix-append}
use Rattle.path_settings.specs.declared.mentions.Mention.{Mention}
use Rattle.path_settings.specs.Mentions.{is_origin}
use Rattle.path_settings.specs.view_map.Asked.{place_of, beneath_place, beneath_places, asked_of}
use Rattle.path_settings.specs.view_map.Kept.{Host, kept_of}
use Rattle.path_settings.specs.view_map.Object.{Object, on_host, empty, hidden, object_from, object_at, object_behind}
use Rattle.path_settings.specs.view_map.Resting.{AreSame, AreSameSources}
use Rattle.path_settings.specs.view_map.View.{above, leading_to, longest, origin_of}
use Rattle.path_settings.proofs.Carries.{object_carries}
use Rattle.path_settings.proofs.Deciding.{origin_is}
use Rattle.path_settings.proofs.KeptLaws.{kept_is, asks_beneath}
use Rattle.path_settings.proofs.Resting.{kept_rests}
use Rattle.path_settings.proofs.ViewMapLists.{filter_agree_on, filter_none, all_enumerated, all_trivial, all_appended}
use Rattle.kern_mounts.specs.Entry.{entry_of}
use Rattle.kern_mounts.specs.Finds.{host_place_by}
use Rattle.kern_mounts.specs.declared.step.What.{What}
use Rattle.kern_mounts.specs.declared.step.What.TheVariants as what
use Rattle.kern_mounts.specs.declared.step.MountStep.{MountStep}
use Rattle.mount_plan.specs.AsView.{shown_by}
use Rattle.mount_plan.specs.Plan.{table_of, places_of}
use Rattle.mount_plan.proofs.PlanLaws.{table_finds}
use Rattle.mount_plan.specs.Resting.{AgreeButBelow, ShowsNothingOf}
use Rattle.mount_plan.proofs.Resting.{plan_rests}

-- a path that leads strictly to another leads to the folder of that path
pub below_last : (one path : Path) (part : List ℕ) → is_below (path ++ part ∷ []) one ≡ is_prefix one path
below_last [] [] part = refl
below_last [] (own ∷ path) part = refl
below_last (own ∷ []) [] part = by (bytes_eq own part)
  where
    by : (b : Bool) → (b && true && not (b && true)) ≡ false
    by true = refl
    by false = refl
below_last (own ∷ (next ∷ one)) [] part = by (bytes_eq own part)
  where
    by : (b : Bool) → (b && false && not (b && false)) ≡ false
    by true = refl
    by false = refl
below_last (own ∷ one) (other ∷ path) part = by (bytes_eq own other) (below_last one path part)
  where
    by : (b : Bool) → is_below (path ++ part ∷ []) one ≡ is_prefix one path
        → ((b && is_prefix one (path ++ part ∷ [])) && not (b && is_same one (path ++ part ∷ []))) ≡ (b && is_prefix one path)
    by true more = more
    by false more = refl

pub rest_last : (path : Path) (part : List ℕ) → rest_of path (path ++ part ∷ []) ≡ part ∷ []
rest_last [] part = refl
rest_last (own ∷ path) part = rest_last path part

pub root_not_below : (one : Path) → is_below [] one ≡ false
root_not_below [] = refl
root_not_below (part ∷ one) = refl

pub data LastOf : Path → Type 0 where
  no_part : LastOf []
  a_part : (front : Path) (part : List ℕ) → LastOf (front ++ part ∷ [])

pub last_part : (path : Path) → LastOf path
last_part [] = no_part
last_part (part ∷ path) = by path (last_part path)
  where
    by : (path : Path) → LastOf path → LastOf (part ∷ path)
    by _ no_part = a_part [] part
    by _ (a_part front own) = a_part (part ∷ front) own

pub empty_differs : (own : Path) → empty ≡ on_host own → ⊥
empty_differs own e = cc

pub hidden_differs : (own : Path) → hidden ≡ on_host own → ⊥
hidden_differs own e = cc

abbrev IsOutside : Path → Path → Type 0
IsOutside folder path = is_below path folder ≡ false

module _ (folder : Path) (row_at : Host) (kept : List Mention) (normal : AllByRecursion (λ mention. is_normal mention.path ≡ true) kept) (nothing : ShowsNothingOf (table_of row_at kept) folder) where
  -- the object of the view at a path does not lie at the folder or below it
  not_below : (path own : Path) → object_at kept path ≡ on_host own → is_prefix folder own ≡ false
  not_below path own shows =
      let found = table_finds row_at kept normal path in
      by found.0 found.0.what refl found.1 (found.2.origin ∙ shows)
    where
      by : (step : MountStep) (what' : What) → step.what ≡ what' → entry_of (table_of row_at kept) path ≡ Some step
          → shown_by step.what step.place path ≡ on_host own → is_prefix folder own ≡ false
      by step (what.Host source) is belongs shown =
          let place : on_host (source ++ rest_of step.place path) ≡ on_host own = sym (ap (λ (w : What). shown_by w step.place path) is) ∙ shown in
          let same : source ++ rest_of step.place path ≡ own = cc in
          nothing path own (ap (option_and_then (λ (s : MountStep). host_place_by s.what s.place path)) belongs
          ∙ ap (λ (w : What). host_place_by w step.place path) is ∙ ap (λ (p : Path). Some p) same)
      by step what.Empty is belongs shown = absurd (empty_differs own (sym (ap (λ (w : What). shown_by w step.place path) is) ∙ shown))
      by step (what.Hidden directory) is belongs shown = absurd
          (hidden_differs own (sym (ap (λ (w : What). shown_by w step.place path) is) ∙ shown))

  behind : (front : Path) (part : List ℕ) (object : Object) → object_at kept front ≡ object
      → AllByRecursion (IsOutside folder) (place_of (object_behind object (rest_of front (front ++ part ∷ []))))
  behind front part (on_host own) is =
      let out : is_below (own ++ part ∷ []) folder ≡ false = below_last folder own part ∙ not_below front own is in
      (ap (λ (rest : Path). is_below (own ++ rest) folder) (rest_last front part) ∙ out, tt)
  behind front part empty is = tt
  behind front part hidden is = tt

  none_above_root : (mentions : List Mention) → AllByRecursion (λ mention. is_below [] mention.path ≡ false) mentions
  none_above_root [] = tt
  none_above_root (mention ∷ mentions) = (root_not_below mention.path, none_above_root mentions)

  -- the object beneath a path lies where its folder leads, and so outside
  asked_outside : (path : Path) → LastOf path → AllByRecursion (IsOutside folder) (beneath_place kept path)
  asked_outside _ no_part =
      let none : above [] kept ≡ [] = filter_none (λ one. is_below [] one.1.path) (enumerate_from 0 kept) (all_enumerated (λ mention. is_below [] mention.path ≡ false) 0 kept (none_above_root kept)) in
      subst (λ found. AllByRecursion (IsOutside folder) (place_of (object_from (longest is_origin found) []))) (sym none)
      (root_not_below folder, tt)
  asked_outside _ (a_part front part) =
      let path : Path = front ++ part ∷ [] in
      let same : above path kept ≡ leading_to front kept =
      filter_agree_on (λ one. is_below path one.1.path) (λ one. is_prefix one.1.path front) (enumerate_from 0 kept) (all_enumerated (λ mention. is_below path mention.path ≡ is_prefix mention.path front) 0 kept (each front part kept)) in
      let carried : object_behind (object_at kept front) (rest_of front path) ≡ object_from (longest is_origin (leading_to front kept)) path =
      object_carries (origin_of kept front) front path (λ one e. (origin_is (λ _. Unit {0}) kept front one (all_trivial kept) e).1) (prefix-append front (part ∷ [])) in
      subst (λ found. AllByRecursion (IsOutside folder) (place_of (object_from (longest is_origin found) path))) (sym same)
      (subst (λ (o : Object). AllByRecursion (IsOutside folder) (place_of o)) carried (behind front part (object_at kept front) refl))
    where
      each : (front : Path) (part : List ℕ) (mentions : List Mention)
          → AllByRecursion (λ mention. is_below (front ++ part ∷ []) mention.path ≡ is_prefix mention.path front) mentions
      each front part [] = tt
      each front part (mention ∷ mentions) = (below_last mention.path front part, each front part mentions)

  places_outside : (places : List Path) → AllByRecursion (IsOutside folder) (beneath_places kept places)
  places_outside [] = tt
  places_outside (place ∷ places) = all_appended (IsOutside folder) (beneath_place kept place) (beneath_places kept places)
      (asked_outside place (last_part place)) (places_outside places)

same_there : (folder : Path) (row_at other : Host) → AgreeButBelow folder row_at other → (paths : List Path)
    → AllByRecursion (IsOutside folder) paths → AreSame row_at other paths
same_there folder row_at other agree [] out = tt
same_there folder row_at other agree (path ∷ paths) out = (agree path out.0, same_there folder row_at other agree paths out.1)

pub base_is_blind : (folder : Path) (row_at other : Host) (mentions kept : List Mention)
    → AllByRecursion (λ mention. is_normal mention.path ≡ true) mentions → kept_of row_at mentions ≡ Ok kept
    → AreSameSources row_at other mentions → AgreeButBelow folder row_at other → ShowsNothingOf (table_of row_at kept) folder
    → (kept_of other mentions ≡ Ok kept) × (table_of other kept ≡ table_of row_at kept)
base_is_blind folder row_at other mentions kept normal e sources agree nothing =
    let own : AllByRecursion (λ mention. is_normal mention.path ≡ true) kept = kept_is (λ mention. is_normal mention.path ≡ true) row_at mentions kept normal e in
    let outside = places_outside folder row_at kept own nothing in
    let asked : AllByRecursion (IsOutside folder) (asked_of row_at mentions) = subst (AllByRecursion (IsOutside folder)) (sym (asks_beneath row_at mentions kept e)) (outside (in_byte_order (map (λ mention. mention.path) mentions))) in (
      kept_rests row_at other mentions sources (same_there folder row_at other agree (asked_of row_at mentions) asked) ∙ e,
      plan_rests row_at other kept (same_there folder row_at other agree (beneath_places kept (places_of kept)) (outside (places_of kept))),
    )
