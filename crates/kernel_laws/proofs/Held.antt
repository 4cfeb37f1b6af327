-- The launched world is held, and what a world has that is held is within the bounds.
use Rattle.std.proofs.Common.{◌≡◌, ℕ, Bool, true, false, List, [], ◌∷◌, Some, ◌⊎◌, inl, inr, refl, ap, ◌∙◌, sym, subst, zero, suc}
use Rattle.std.proofs.Common.{append-nil, eqb}
use Rattle.std.specs.Prelude.{slice_get, not, ◌-◌}
use Rattle.std.specs.List.{list_any, AllByRecursion}
use Rattle.std.proofs.lemmas.Bool.{or_cases, eqb-true}
use Rattle.kernel_model.specs.cap_sets.Sets.{has}
use Rattle.kernel_model.specs.kern_mounts.Split.{Table}
use Rattle.kernel_model.specs.kern_mounts.Mounts.{Mounts}
use Rattle.kernel_model.specs.kern_mounts.Table.{StartsAtRoot}
use Rattle.kernel_model.proofs.OfKernMounts.Unmounting.{trimmed_self}
use Rattle.kernel_model.specs.declared.kernel_calls.call.Call.{Call}
use Rattle.kernel_model.specs.kernel_calls.Calls.{IsCall, AreCalls}
use Rattle.kernel_laws.specs.Bound.{bounds_by, power_of, ceiling}
use Rattle.kernel_laws.specs.Bounds.{Bounds, Keeps, KeepsIds, KeepsIn}
use Rattle.kernel_laws.specs.Ceiling.{CanHave, IsClosed, IsStable, IsHeld, AreHeld, TableIn}
use Rattle.kernel_laws.specs.Denied.{Holds, SomeLiving, HasGid}
use Rattle.kernel_laws.specs.declared.question_types.kind.CallKind.TheVariants.{TakesUid, TakesGid}
use Rattle.kernel_laws.specs.declared.question_types.power.Power.{Power}
use Rattle.kernel_laws.specs.declared.question_types.power.Power.TheVariants.{None as Nowise, Unmount as Unmounting, Mount as Mounting}
use Rattle.kernel_laws.specs.declared.question_types.question.Question.TheVariants as asking
use Rattle.kernel_laws.specs.Launched.{Launch, lets, launch_of, first_of, IsLaunched, IsLaunchedWorld}
use Rattle.kernel_model.specs.Runs.{run}
use Rattle.kernel_model.specs.Step.{step}
use Rattle.kernel_model.specs.World.{World, namespace_of, mounts_of, is_newer}
use Rattle.kernel_model.specs.declared.process.Process.{Process}
use Rattle.kernel_laws.proofs.Bound.{is_closed, kept_launch}
use Rattle.kernel_laws.proofs.Filters.{lets_through}
use Rattle.kernel_laws.proofs.Newer.{ids_of}
use Rattle.kernel_laws.proofs.Numbered.{number_get, lives}
use Rattle.kernel_laws.proofs.Runs.{held_step, held_run}

have_own : (power : Power) (table : Table) → StartsAtRoot table → CanHave power table table
have_own Nowise table root = refl
have_own Unmounting table root = trimmed_self table root
have_own Mounting table root = tt

module _ (world : World) (s : IsLaunchedWorld world) (uids gids : Bool) (power : Power) (below : Mounts → Type 0) where
  abbrev first : Process
  first = first_of world

  abbrev Held : Process → Type 0
  Held = IsHeld (launch_of world) power (bounds_by (launch_of world) uids gids power) below world.namespaces

  first_held : Held first
  first_held =
      let place = number_get world.namespaces first.namespace (namespace_of world first.namespace) s.own in
      record {
        creds = let P : Bool → Type 0 = λ b. KeepsIn b (bounds_by (launch_of world) uids gids power) first.creds in subst P (sym not_newer) (kept_launch (launch_of world) uids gids power s.launched);
        newer = [];
        stack = sym (append-nil first.stack);
        space = namespace_of world first.namespace;
        numbered = place.0;
        own = place.1;
        allowed = let P : ℕ → Type 0 = λ o. TableIn (eqb o 1) (launch_of world) power below (mounts_of world first.namespace) in subst P (sym s.home) (record { plain = s.plain; entries = have_own power (launch_of world).table s.launched.rooted });
        home = λ e. s.home;
        made = λ e. let no' : true ≡ false = sym e ∙ not_newer in cc;
      }
    where
      not_newer : is_newer first ≡ false
      not_newer = ap (λ u. not (eqb u 1)) s.user

  pub start_held : AreHeld (launch_of world) power (bounds_by (launch_of world) uids gids power) below world
  start_held = record { calls = refl; site = refl; each = λ at process e. by at process (ap (λ (ps : List Process). slice_get ps at) (sym s.alone) ∙ e) }
    where
      by : (at : ℕ) (process : Process) → slice_get (first ∷ []) at ≡ Some process → Held process
      by zero process e = let same : first ≡ process = cc in subst Held same first_held
      by (suc at) process e = cc

module _ (launch : Launch) (power : Power) (top : Bounds) (below : Mounts → Type 0) (now : World) (held : AreHeld launch power top below now) where
  some_held : (P : Process → Type 0) → (s : SomeLiving P now) → IsHeld launch power top below now.namespaces s.process
  some_held P s = held.each (s.pid - 1) s.process (lives now s.pid s.process s.lives).place

  some_ids : (P : Process → Type 0) → (s : SomeLiving P now) → KeepsIds top s.process.creds
  some_ids P s = ids_of (is_newer s.process) top s.process.creds (some_held P s).creds

  among : (id : ℕ) (groups : List ℕ) → AllByRecursion (λ id. top.gid id ≡ true) groups → list_any (λ group. eqb group id) groups ≡ true
      → top.gid id ≡ true
  among id [] all e = cc
  among id (group ∷ groups) all e = either (or_cases (eqb group id) (list_any (λ group. eqb group id) groups) e) (among id groups all.1)
    where
      either : (eqb group id ≡ true) ⊎ (list_any (λ group. eqb group id) groups ≡ true)
          → (list_any (λ group. eqb group id) groups ≡ true → top.gid id ≡ true) → top.gid id ≡ true
      either (inl e) more = ap top.gid (sym (eqb-true group id e)) ∙ all.0
      either (inr e) more = more e

  pub gid_within : (id : ℕ) → Holds (asking.Gid id) now → top.gid id ≡ true
  gid_within id s = let h = some_ids (λ process. HasGid id process.creds) s in by h.gids.effective h.groups s.has
    where
      by : top.gid s.process.creds.gids.effective ≡ true → AllByRecursion (λ id. top.gid id ≡ true) s.process.creds.groups
          → HasGid id s.process.creds → top.gid id ≡ true
      by own all (inl e) = ap top.gid (sym e) ∙ own
      by own all (inr e) = among id s.process.creds.groups all e

  pub uid_within : (id : ℕ) → Holds (asking.Uid id) now → top.uid id ≡ true
  uid_within id s = ap top.uid (sym s.has) ∙ (some_ids (λ process. process.creds.uids.effective ≡ id) s).uids.effective

  pub cap_within : (number : ℕ) → Holds (asking.Cap number) now → has top.effective number ≡ true
  cap_within number s =
      let h = some_held (λ process. (has process.creds.effective number ≡ true) × (process.user ≡ 1)) s in
      let first : is_newer s.process ≡ false = ap (λ u. not (eqb u 1)) s.has.1 in
      let P : Bool → Type 0 = λ b. KeepsIn b top s.process.creds in
      let kept : Keeps top s.process.creds = subst P first h.creds in
      kept.effective.each number s.has.0

-- ---- by the ceiling, over all runs
abbrev pub AllHeld : Launch → (Mounts → Type 0) → World → Type 0
AllHeld launch below world = AreHeld launch (power_of launch) (ceiling launch) below world

pub launched_held : (world : World) (below : Mounts → Type 0) → IsLaunchedWorld world → AllHeld (launch_of world) below world
launched_held world below s = start_held world s (lets (launch_of world) TakesUid) (lets (launch_of world) TakesGid)
    (power_of (launch_of world)) below

module _ (launch : Launch) (l : IsLaunched launch) (below : Mounts → Type 0) (stable : IsStable launch (power_of launch) below) where
  closed : IsClosed launch (lets launch TakesUid) (lets launch TakesGid) (power_of launch) (ceiling launch)
  closed = is_closed launch (lets launch TakesUid) (lets launch TakesGid) l

  pub ceiling_step : (world : World) (call : Call) → IsCall call → AllHeld launch below world → AllHeld launch below (step world call).1
  ceiling_step = held_step launch (power_of launch) (ceiling launch) below (lets_through launch l) stable closed

  pub ceiling_run : (list : List Call) (world : World) → AreCalls list → AllHeld launch below world → AllHeld launch below (run world list)
  ceiling_run = held_run launch (power_of launch) (ceiling launch) below (lets_through launch l) stable closed
