-- On a plan /proc is found as a directory, or is the place of a hidden one.
use Rattle.std.proofs.Common.{◌≡◌, ◌⊎◌, inl, inr, ℕ, Bool, true, false, cond, List, [], ◌∷◌, ◌++◌, Option, Some, None, Ok, refl, sym, ap}
use Rattle.std.proofs.Common.{◌∙◌, subst, append-nil}
use Rattle.std.specs.Prelude.{not, codes}
use Rattle.std.specs.List.{AllByRecursion, enumerate_from}
use Rattle.std.proofs.lemmas.Bool.{false≢true, and_parts}
use Rattle.path_settings.specs.abs_path.Paths.{Path, is_normal, proc}
use Rattle.path_settings.specs.abs_path.Prefix.{is_prefix, is_same, rest_of, is_below}
use Rattle.path_settings.proofs.OfAbsPath.Prefixes.{same_part, same_itself}
use Rattle.path_settings.specs.declared.mentions.Kind.{Kind}
use Rattle.path_settings.specs.declared.mentions.Kind.TheVariants.{Hide, Tmp, Bind}
use Rattle.path_settings.specs.declared.mentions.Mention.{Mention}
use Rattle.path_settings.specs.Mentions.{is_origin}
use Rattle.path_settings.specs.view_map.View.{above, origin_of}
use Rattle.path_settings.specs.view_map.Object.{Object, object_by, object_from}
use Rattle.path_settings.specs.declared.view_map.rules.Beneath.{Beneath}
use Rattle.path_settings.specs.declared.view_map.rules.Beneath.TheVariants as beneath
use Rattle.path_settings.specs.view_map.Rules.{fate_of, bind_fate}
use Rattle.path_settings.specs.view_map.Kept.{Host, at_path, unbeaten, beneath_row, beneath_by, beneath_at, source_row, is_kept, fate_among}
use Rattle.path_settings.specs.view_map.Kept.{kept_of}
use Rattle.path_settings.proofs.ViewMapLists.{filter_is, all_weaker, all_enumerated}
use Rattle.path_settings.proofs.Deciding.{origin_is, longest_none}
use Rattle.path_settings.proofs.KeptLaws.{kept_is, keeps_by_rules, each_kept}
use Rattle.kern_mounts.specs.linux_numbers.Errnos.{enoent}
use Rattle.kern_mounts.specs.declared.step.MountStep.{MountStep}
use Rattle.kern_mounts.specs.declared.step.What.{What}
use Rattle.kern_mounts.specs.declared.step.What.TheVariants as what
use Rattle.kern_mounts.specs.Entry.{entry_of}
use Rattle.kern_mounts.specs.Finds.{row_or_nothing, empty_directory, nothing, found_by, found_at, finds}
use Rattle.kern_mounts.specs.Launch.{IsDirectory, IsHiddenDirectory, FindsProc}
use Rattle.mount_plan.specs.Plan.{what_of, hides_dir, hides_dir_at, step_at, table_of}
use Rattle.mount_plan.proofs.PlanLaws.{AreNormal, LeaveTheRoot, root_on_host, table_entry}

-- the path is found as a directory of the host or an empty one, or it is the place of a hidden directory
abbrev pub ShowsDirectory : Host → Path → What → Path → Type 0
ShowsDirectory row_at path (what.Host source) place = row_at (source ++ rest_of place path) ≡ Some true
ShowsDirectory row_at path what.Empty place = place ≡ path
ShowsDirectory row_at path (what.Hidden is_dir) place = (place ≡ path) × (is_dir ≡ true)

abbrev BindsDirectory : Host → Kind → Type 0
BindsDirectory row_at (Bind source read_only recursive) = row_at source ≡ Some true
BindsDirectory row_at _ = Unit {0}

-- a bind that is kept over a directory binds a directory
binds_directory : (row_at : Host) (put : Bool) (path : Path) (kind : Kind) (optional : Bool) →
    is_kept (fate_of (source_row row_at kind) (beneath.Row true) put (record { path = path; kind = kind; optional = optional })) ≡ true
    → BindsDirectory row_at kind
binds_directory row_at put path (Bind source read_only recursive) optional h = by (row_at source) optional refl h
  where
    by : (o : Option Bool) (b : Bool) → row_at source ≡ o → is_kept (bind_fate o (beneath.Row true) b) ≡ true → row_at source ≡ Some true
    by None true e h = absurd (false≢true h)
    by None false e h = absurd (false≢true h)
    by (Some true) b e h = e
    by (Some false) b e h = absurd (false≢true h)
binds_directory row_at put path _ optional h = tt

pub above_proc : (path : Path) → is_prefix path proc ≡ true → (path ≡ []) ⊎ (path ≡ proc)
above_proc [] h = inl refl
above_proc (part ∷ []) h = inr (ap (λ x. x ∷ []) (same_part part (codes "proc") (and_parts _ _ h).0))
above_proc (part ∷ next ∷ path) h = absurd (false≢true (and_parts _ _ h).1)

only_root : (mention : Mention) → (mention.path ≡ [] → is_origin mention.kind ≡ false) → is_below proc mention.path ≡ true
    → is_origin mention.kind ≡ false
only_root mention h over = elim (above_proc mention.path (and_parts _ _ over).0) [
  | inl root ↦ h root
  | inr same ↦ absurd (false≢true (sym (ap not (ap (λ (p : Path). is_same p proc) same)) ∙ (and_parts _ _ over).1))
]

-- no mention above /proc says which object is there
beneath_proc : (row_at : Host) (kept : List Mention) → LeaveTheRoot kept → row_at proc ≡ Some true
    → beneath_at row_at kept proc ≡ beneath.Row true
beneath_proc row_at kept free row = ap (λ o. beneath_by row_at (object_from o proc)) (longest_none is_origin (above proc kept)
    (filter_is (λ one. is_below proc one.1.path) (λ one. is_origin one.1.kind ≡ false) (enumerate_from 0 kept)
    (all_enumerated (λ mention. is_below proc mention.path ≡ true → is_origin mention.kind ≡ false) 0 kept
    (all_weaker (λ mention. mention.path ≡ [] → is_origin mention.kind ≡ false)
    (λ mention. is_below proc mention.path ≡ true → is_origin mention.kind ≡ false) kept only_root free)))) ∙ ap beneath_row row

-- the entry at a place shows a directory at /proc
abbrev Shows : Host → List Mention → Path → Type 0
Shows row_at kept place = ShowsDirectory row_at proc (step_at kept (hides_dir_at row_at kept) place).what place

at_root : (row_at : Host) (kept : List Mention) → LeaveTheRoot kept → row_at proc ≡ Some true → Shows row_at kept []
at_root row_at kept free row = subst (λ (object : Object). ShowsDirectory row_at proc (what_of object (hides_dir_at row_at kept [])) [])
    (sym (root_on_host kept free)) row

shows_by : (row_at : Host) (kind : Kind) (front : Path) (is_dir : Bool) → front ≡ proc → is_origin kind ≡ true → is_dir ≡ true
    → BindsDirectory row_at kind →
    ShowsDirectory row_at proc (what_of (object_by kind front proc) is_dir) proc
shows_by row_at Hide front is_dir same says dir binds = (refl, dir)
shows_by row_at (Tmp read_only no_exec no_suid) front is_dir same says dir binds = refl
shows_by row_at (Bind source read_only recursive) front is_dir same says dir binds =
    ap (λ (p : Path). row_at ((source ++ rest_of p proc) ++ [])) same ∙ ap row_at (append-nil (source ++ []) ∙ append-nil source) ∙ binds
shows_by row_at _ front is_dir same says dir binds = absurd (false≢true says)

-- the rules keep the mention, if they look at all kept mentions
abbrev pub IsKeptAtAll : Host → List Mention → List Mention → Mention → Type 0
IsKeptAtAll row_at mentions kept mention =
    is_kept (fate_among row_at (beneath_at row_at kept mention.path) (unbeaten (at_path mention.path mentions)) mention) ≡ true

at_proc : (row_at : Host) (mentions kept : List Mention) → LeaveTheRoot kept → row_at proc ≡ Some true
    → AllByRecursion (IsKeptAtAll row_at mentions kept) kept → Shows row_at kept proc
at_proc row_at mentions kept free row keeps = by (origin_of kept proc) refl
  where
    by : (o : Option (ℕ × Mention)) → origin_of kept proc ≡ o
        → ShowsDirectory row_at proc (what_of (object_from o proc) (hides_dir_at row_at kept proc)) proc
    by None e = ap row_at (append-nil proc) ∙ row
    by (Some one) e =
        let free_one = origin_is (λ mention. mention.path ≡ [] → is_origin mention.kind ≡ false) kept proc one free e in
        let kept_one = origin_is (IsKeptAtAll row_at mentions kept) kept proc one keeps e in
        let here = beneath_proc row_at kept free row in
        elim (above_proc one.1.path free_one.1) [
          | inl root ↦ absurd (false≢true (sym (free_one.0 root) ∙ free_one.2))
          | inr same ↦ shows_by row_at one.1.kind one.1.path (hides_dir_at row_at kept proc) same free_one.2 (ap hides_dir here)
              (binds_directory row_at _ one.1.path one.1.kind one.1.optional
              (let beneath : beneath_at row_at kept one.1.path ≡ beneath.Row true = ap (beneath_at row_at kept) same ∙ here in
              subst (λ (b : Beneath). is_kept (fate_among row_at b (unbeaten (at_path one.1.path mentions)) one.1) ≡ true) beneath
              kept_one.0))
        ]

-- the object that the entry shows is found
pub shown_found : (row_at : Host) (table : List MountStep) (path : Path) (step : MountStep) → entry_of table path ≡ Some step
    → ShowsDirectory row_at path step.what step.place →
    IsDirectory (finds row_at table path) ⊎ IsHiddenDirectory table path
shown_found row_at table path step e shows = by step.what refl shows
  where
    found : (w : What) → step.what ≡ w → finds row_at table path ≡ found_by row_at w step.place path
    found w same = ap (found_at row_at path) e ∙ ap (λ w. found_by row_at w step.place path) same

    by : (w : What) → step.what ≡ w → ShowsDirectory row_at path w step.place
        → IsDirectory (finds row_at table path) ⊎ IsHiddenDirectory table path
    by (what.Host source) same shows = inl (subst IsDirectory (sym (found (what.Host source) same ∙ ap row_or_nothing shows)) refl)
    by what.Empty same shows = inl (subst IsDirectory
        (sym (found what.Empty same ∙ ap (λ b. cond b empty_directory (nothing enoent))
        (subst (λ (p : Path). is_same step.place p ≡ true) shows (same_itself step.place)))) tt)
    by (what.Hidden is_dir) same shows = inr (step, e, shows.0, same ∙ ap what.Hidden shows.1)

pub finds_proc : (row_at : Host) (mentions kept : List Mention) → LeaveTheRoot mentions → AreNormal mentions → row_at proc ≡ Some true
    → kept_of row_at mentions ≡ Ok kept → FindsProc row_at (table_of row_at kept)
finds_proc row_at mentions kept leave normal row e =
    let clean = kept_is (λ mention. is_normal mention.path ≡ true) row_at mentions kept normal e in
    let free = kept_is (λ mention. mention.path ≡ [] → is_origin mention.kind ≡ false) row_at mentions kept leave e in
    let entry = table_entry row_at kept clean proc in
    let step : MountStep = entry.step in
    shown_found row_at (table_of row_at kept) proc step entry.belongs
    (subst (λ (s : MountStep). ShowsDirectory row_at proc s.what s.place) entry.own
    (elim (above_proc step.place entry.leads) [
      | inl root ↦ subst (Shows row_at kept) (sym root) (at_root row_at kept free row)
      | inr same ↦ subst (Shows row_at kept) (sym same)
          (at_proc row_at mentions kept free row (each_kept row_at mentions kept (keeps_by_rules row_at mentions kept normal e)))
    ]))
