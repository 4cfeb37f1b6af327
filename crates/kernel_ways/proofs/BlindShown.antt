-- What is not blind by the launched table calls expose: no call, calls of umount2(2), or one of mount(2).
use Rattle.std.proofs.Common.{◌≡◌, ◌∙◌, ◌≤◌, ℕ, Bool, true, false, List, map, [], ◌∷◌, ◌++◌, Option, Some, None, Result, Ok, Err, refl, cond, ap}
use Rattle.std.proofs.Common.{sym, subst, length, length-append, arith}
use Rattle.std.specs.Prelude.{codes, slice_get, option_and_then, ◌+◌, ◌-◌}
use Rattle.std.specs.List.{AllByRecursion}
use Rattle.std.proofs.lemmas.Bool.{and_from, not-false}
use Rattle.std.proofs.lemmas.List.Folds.{list_all-append}
use Rattle.launcher.specs.linux_numbers.Errnos.{enotdir}
use Rattle.launcher.specs.abs_path.Paths.{Path, tail_of, text_of, is_part, proc}
use Rattle.launcher.specs.abs_path.Prefix.{is_prefix, is_below, rest_of}
use Rattle.launcher.proofs.OfAbsPath.ByteOrder.{tail-append}
use Rattle.launcher.proofs.OfAbsPath.Prefixes.{prefix-append}
use Rattle.launcher.specs.cap_sets.Sets.{has}
use Rattle.launcher.specs.site_table.declared.row.Row.{Row}
use Rattle.launcher.specs.site_table.Table.{row_at}
use Rattle.launcher.specs.kern_creds.declared.creds.Creds.{Creds}
use Rattle.launcher.specs.kern_mounts.Bind.{bound_entry, object_at, after_bind}
use Rattle.launcher.specs.kern_mounts.Entry.{leads_to, entry_of}
use Rattle.launcher.specs.kern_mounts.Finds.{finds, host_place, host_place_by}
use Rattle.launcher.specs.kern_mounts.Launch.{BeginsAtRoot, HasShortPlace}
use Rattle.launcher.specs.kern_mounts.Mounts.{Mounts, plain, steps_of}
use Rattle.launcher.proofs.OfKernMounts.Plain.{steps_plain}
use Rattle.launcher.specs.kern_mounts.Split.{Table, Split, split_at}
use Rattle.launcher.specs.kern_mounts.Unmounts.{IsOrdered, IsPart}
use Rattle.launcher.specs.kern_mounts.declared.step.MountStep.{MountStep}
use Rattle.launcher.specs.kern_mounts.declared.step.What.TheVariants.{Host}
use Rattle.launcher.proofs.OfKernMounts.Entries.{entry_push}
use Rattle.launcher.proofs.OfKernMounts.Leaving.{ascending_is_ordered}
use Rattle.launcher.proofs.OfKernMounts.Showing.{bind_made}
use Rattle.launcher.proofs.OfKernMounts.Splits.{IsSplit, split_some}
use Rattle.launcher.proofs.OfKernMounts.Unmounting.{append_all, trimmed_part, unmounts_trim}
use Rattle.launcher.specs.kernel_model.kern_files.MountCall.{ms_bind, ms_remount_bind, kind_found, is_same_kind, target_kind, bind_found}
use Rattle.launcher.specs.kernel_model.kern_files.MountCall.{mount_onto, after_mount}
use Rattle.launcher.specs.kernel_model.kernel_calls.Calls.{IsPath}
use Rattle.launcher.specs.kernel_model.declared.kernel_calls.call.Call.{Call}
use Rattle.launcher.specs.kernel_model.Runs.{run}
use Rattle.launcher.specs.kernel_model.MountNamespaces.{namespace_or}
use Rattle.launcher.specs.kernel_model.World.{World, table_of}
use Rattle.launcher.specs.kernel_laws.Blind.{exposes, blind_at, is_blind, IsSmall, IsFolder}
use Rattle.launcher.specs.kernel_laws.Bound.{caps_at, power_of}
use Rattle.launcher.specs.kernel_laws.Denied.{Exposes, IsBlind}
use Rattle.launcher.specs.kernel_laws.declared.question_types.kind.CallKind.TheVariants.{ChangesMounts, RemovesMounts}
use Rattle.launcher.specs.kernel_laws.declared.question_types.power.Power.{Power}
use Rattle.launcher.specs.kernel_laws.declared.question_types.power.Power.TheVariants.{None as Nowise, Unmount as Unmounting}
use Rattle.launcher.specs.kernel_laws.declared.question_types.power.Power.TheVariants.{Mount as Mounting}
use Rattle.launcher.specs.kernel_laws.Launched.{Launch, IsLaunched, launch_of, lets}
use Rattle.launcher.proofs.OfKernelLaws.Blind.{blind_is_sound, seen_exposes}
use Rattle.launcher.proofs.OfKernelLaws.Exposed.{below_by_part, exposed_at_once, exposes_by_unmounts, exposes_seen}
use Rattle.reach_paths.proofs.Mounted.{mounted_twice}
use Rattle.reach_paths.proofs.Parts.{part_all}
use Rattle.kernel_ways.specs.Blindness.{IsExposed, IsBlindExactly, BlindIsExact}
use Rattle.kernel_ways.specs.Laws.{IsServedWorld}
use Rattle.kernel_ways.specs.Offers.{Offers}
use Rattle.kernel_ways.specs.Ways.{Way, here, by_table, IsSolo, solo_world, solo_process}
use Rattle.kernel_ways.proofs.Attained.{admin_gained}
use Rattle.kernel_ways.proofs.Exposing.{root_named, proc_named, way_unmounts, unmounts_pass, mounts_pass}
use Rattle.kernel_ways.proofs.Lines.{some_line}
use Rattle.kernel_ways.proofs.Privileged.{mount_call}
use Rattle.kernel_ways.proofs.Solo.{way_join, way_runs}
use Rattle.kernel_ways.proofs.Starts.{starts_solo}
use Rattle.kernel_ways.proofs.Uncovering.{part_length}

-- ---- a bind of the root at the folder of the processes
-- it adds the object of the entry that the root belongs to
record AddsAtProc (table now : Table) : Type 0 where
  split : Split
  own : split_at [] table ≡ Some split
  now_is : now ≡ table ++ bound_entry [] proc split.entry ∷ []

adds_at_proc : (rows : Path → Option Row) (table now : Table) → after_mount rows (map plain table) [] proc ms_bind ≡ Ok (map plain now)
    → AddsAtProc table now
adds_at_proc rows table now e = by_target (target_kind rows (steps_of (map plain table)) proc) e
  where
    by_bind : after_bind (map plain table) [] proc false ≡ Ok (map plain now) → AddsAtProc table now
    by_bind e =
        let b = bind_made (map plain table) (map plain now) [] proc false e in
        let P : Table → Type 0 = λ t. AddsAtProc t now in
        let Q : Table → Type 0 = λ t. AddsAtProc (steps_of (map plain table)) t in
        subst P (steps_plain table) (subst Q (steps_plain now) (record { split = b.split; own = b.found; now_is = b.made }))

    by_kind : (same : Bool) → cond {A = Result Mounts ℕ} same (after_bind (map plain table) [] proc false) (Err enotdir)
        ≡ Ok (map plain now) → AddsAtProc table now
    by_kind true e = by_bind e
    by_kind false e = cc

    by_source : (own : Result Bool ℕ) (directory : Bool) → bind_found (map plain table) [] proc false directory own ≡ Ok (map plain now)
        → AddsAtProc table now
    by_source (Err errno) directory e = cc
    by_source (Ok own) directory e = by_kind (is_same_kind own directory) e

    by_target : (target : Result Bool ℕ) → mount_onto rows (map plain table) [] proc ms_bind target ≡ Ok (map plain now)
        → AddsAtProc table now
    by_target (Err errno) e = cc
    by_target (Ok directory) e = by_source (kind_found (finds rows (steps_of (map plain table)) [])) directory e

-- and that is the first entry, the root of the host
record IsHostRoot (entry : MountStep) : Type 0 where
  place : entry.place ≡ []
  host : entry.what ≡ Host []

leads_root : (place : Path) → is_prefix place [] ≡ true → place ≡ []
leads_root [] h = refl
leads_root (part ∷ place) h = cc

root_entry : (table : Table) → BeginsAtRoot table → IsOrdered table → (split : Split) → split_at [] table ≡ Some split
    → IsHostRoot split.entry
root_entry [] begins ordered split e = absurd begins
root_entry (first ∷ rest) begins ordered split e = by split.earlier is.whole
  where
    is : IsSplit (leads_to []) (first ∷ rest) split
    is = split_some (leads_to []) (first ∷ rest) split e

    by : (earlier : Table) → first ∷ rest ≡ earlier ++ split.entry ∷ split.later → IsHostRoot split.entry
    by [] whole =
        let same : first ≡ split.entry = cc in
        subst (λ (step : MountStep). IsHostRoot step) same (record { place = begins.0; host = begins.1 })
    by (head ∷ earlier) whole =
        let tail : rest ≡ earlier ++ split.entry ∷ split.later = cc in
        let apart : is_prefix split.entry.place first.place ≡ false = append_all (λ other. is_prefix other.place first.place ≡ false) earlier split.entry split.later (subst (AllByRecursion (λ other. is_prefix other.place first.place ≡ false)) tail ordered.0) in
        let clash : true ≡ false = ap (λ (place : Path). is_prefix place first.place) (sym (leads_root split.entry.place is.has)) ∙ apart in
        cc

-- so each path of the host is shown below that folder
shown_below_proc : (table now : Table) → BeginsAtRoot table → IsOrdered table → AddsAtProc table now → (path : Path)
    → host_place now (proc ++ path) ≡ Some path
shown_below_proc table now begins ordered adds path =
    let entry = adds.split.entry in
    let root = root_entry table begins ordered adds.split adds.own in
    let new = bound_entry [] proc entry in
    let what : new.what ≡ Host [] = ap (object_at [] entry) root.host ∙ ap (λ (place : Path). Host (rest_of place [])) root.place in
    let own : entry_of (table ++ new ∷ []) (proc ++ path) ≡ Some new = entry_push table new (proc ++ path) ∙ ap (λ b. cond b (Some new) (entry_of table (proc ++ path))) (prefix-append proc path) in
    ap (λ (t : Table). host_place t (proc ++ path)) adds.now_is
    ∙ ap (λ o. option_and_then (λ step. host_place_by step.what step.place (proc ++ path)) o) own
    ∙ ap (λ w. host_place_by w proc (proc ++ path)) what

-- ---- paths that a call can name
tail_short : (path : Path) → length (text_of path) ≤ 250 → length (tail_of path) ≤ 250
tail_short [] h = omega arith
tail_short (part ∷ path) h = h

abbrev part : List ℕ
part = codes "x"

-- a part below the folder, below the folder of the processes
part_named : (folder : Path) → IsFolder folder → IsPath (proc ++ (folder ++ part ∷ []))
part_named folder f =
    let tail : tail_of (folder ++ part ∷ []) ≡ tail_of folder ++ tail_of (part ∷ []) = tail-append folder (part ∷ []) in
    let size : length (tail_of (folder ++ part ∷ [])) ≡ length (tail_of folder) + 2 = ap (λ (text : List ℕ). length text) tail ∙ length-append (tail_of folder) (tail_of (part ∷ [])) in
    let whole : length (tail_of (proc ++ (folder ++ part ∷ []))) ≡ 5 + length (tail_of (folder ++ part ∷ [])) = omega (arith, length-append (codes "proc") (tail_of (folder ++ part ∷ []))) in
    record {
      normal = list_all-append is_part folder (part ∷ []) ∙ and_from _ _ f.normal refl;
      short = omega (arith, whole, size, tail_short folder f.short);
    }

-- ---- tables of ways
-- a path that a call can name shows a place below the folder
record Sees (folder : Path) (table : Table) : Type 0 where
  path : Path
  fits : IsPath path
  place : Path
  shown : host_place table path ≡ Some place
  below : is_below place folder ≡ true

sees_exposes : (launch : Launch) (creds : Creds) (table : Table) (world : World) → IsSolo launch creds table world → (folder : Path)
    → Sees folder table → Exposes folder world
sees_exposes launch creds table world s folder sees =
    let own : World = solo_world launch creds s.namespace s.spaces in
    let table_is : table_of own s.namespace ≡ table = ap (λ b. steps_of (namespace_or (cond b None (slice_get s.spaces (s.namespace - 1)))).table) s.numbered ∙ ap (λ o. steps_of (namespace_or o).table) s.own ∙ steps_plain table in
    subst (λ (w : World). Exposes folder w) (sym s.is) (record {
      pid = 1;
      process = solo_process launch creds s.namespace;
      lives = refl;
      path = sees.path;
      fits = sees.fits;
      place = sees.place;
      shown = ap (λ (t : Table). host_place t sees.path) table_is ∙ sees.shown;
      below = sees.below;
    })

module _ (world : World) (s : IsServedWorld world) (folder : Path) (f : IsFolder folder) where
  abbrev launch : Launch
  launch = launch_of world

  abbrev l : IsLaunched launch
  l = s.launched.launched

  abbrev o : Offers launch
  o = s.offers

  small : IsSmall launch.table
  small = record { few = o.plan.few; places = o.plan.places_are_short }

  ordered : IsOrdered launch.table
  ordered = ascending_is_ordered launch.table o.plan.places_ascend

  -- a part of the launched table is as small
  small_part : (now : Table) → IsPart now launch.table → IsSmall now
  small_part now part = record
      { few = omega (arith, part_length part, o.plan.few); places = part_all HasShortPlace part o.plan.places_are_short }

  by_way : (calls : List Call) (creds : Creds) (now : Table) → Way launch launch.creds launch.table calls creds now → Sees folder now
      → IsExposed world folder
  by_way calls creds now way sees =
      let w = way_runs way world (starts_solo world s.launched s.few) in
      (calls, record { fit = w.fit; done = w.done; exposes = sees_exposes launch creds now (run world calls) w.solo folder sees })

  by_unmounts : power_of launch ≡ Unmounting → exposes true folder launch.table ≡ true → IsExposed world folder
  by_unmounts e shown =
      let admin = admin_gained launch l o Unmounting e (λ x. cc) in
      let pass = unmounts_pass (has (caps_at launch Nowise) 21) (lets launch ChangesMounts) (lets launch RemovesMounts) e in
      let m = exposes_by_unmounts folder launch.table ordered shown in
      let way = way_unmounts launch o admin.creds admin.holds (some_line launch l RemovesMounts pass.1) l.rooted o.plan.places_are_short m.1 in
      let sees = exposes_seen folder m.0 (small_part m.0 (trimmed_part (unmounts_trim m.1 l.rooted))) f (seen_exposes folder m.0 m.2) in
      by_way (admin.calls ++ way.calls) admin.creds m.0 (way_join admin.way way.way)
      (record { path = sees.seen.path; fits = sees.fits; place = sees.seen.place; shown = sees.seen.shown; below = sees.seen.below })

  by_mount : power_of launch ≡ Mounting → IsExposed world folder
  by_mount e =
      let admin = admin_gained launch l o Mounting e (λ x. cc) in
      let pass = mounts_pass (has (caps_at launch Nowise) 21) (lets launch ChangesMounts) (lets launch RemovesMounts) e in
      let two = mounted_twice launch.site launch.table ms_remount_bind o.site o.plan refl refl in
      let one = mount_call launch o admin.creds launch.table admin.holds (some_line launch l ChangesMounts pass.1) [] proc root_named proc_named ms_bind (omega arith) two.middle two.bound in
      let adds = adds_at_proc (row_at launch.site.rows) launch.table two.middle two.bound in
      let shown = shown_below_proc launch.table two.middle o.plan.begins_at_root ordered adds (folder ++ part ∷ []) in
      by_way (admin.calls ++ one.call ∷ []) admin.creds two.middle (way_join admin.way (by_table one.call one.makes here)) (record { path = proc ++ (folder ++ part ∷ []); fits = part_named folder f; place = folder ++ part ∷ []; shown = shown; below = below_by_part folder part })

  by_power : (power : Power) → power_of launch ≡ power → blind_at power launch.table folder ≡ false → IsExposed world folder
  by_power Nowise e off = ([], record { fit = tt; done = tt; exposes = exposed_at_once world folder s.launched small f off })
  by_power Unmounting e off = by_unmounts e (not-false (exposes true folder launch.table) off)
  by_power Mounting e off = by_mount e

  exposed : is_blind launch folder ≡ false → IsExposed world folder
  exposed off = by_power (power_of launch) refl off

  -- where no list exposes it, it is not that some list does
  hidden : (b : Bool) → is_blind launch folder ≡ b → IsBlind world folder → is_blind launch folder ≡ true
  hidden true is blind = is
  hidden false is blind = (let x = exposed is in absurd (blind x.0 x.1.fit x.1.exposes))

  shown : (b : Bool) → is_blind launch folder ≡ b → IsExposed world folder → is_blind launch folder ≡ false
  shown true is x = absurd (blind_is_sound world folder s.launched is x.0 x.1.fit x.1.exposes)
  shown false is x = is

  pub exactly_blind : IsBlindExactly world folder
  exactly_blind = record {
    hides = blind_is_sound world folder s.launched;
    stays_hidden = hidden (is_blind launch folder) refl;
    exposes = exposed;
    stays_exposed = shown (is_blind launch folder) refl;
  }

pub blind_is_exact : BlindIsExact
blind_is_exact world folder s f = exactly_blind world s folder f
