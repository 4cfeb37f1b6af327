-- A process that may mount makes the tables that the rules make of its own, call by call.
use Rattle.std.proofs.Common.{◌≡◌, ◌∙◌, ℕ, zero, suc, Bool, true, false, List, [], ◌∷◌, ◌++◌, Some, Ok, refl, cond, ap, sym, subst, arith}
use Rattle.std.proofs.Common.{map, eqb, Option}
use Rattle.std.specs.Prelude.{slice_get, slice_set, ◌-◌}
use Rattle.std.specs.List.{AllByRecursion}
use Rattle.kernel_laws.specs.abs_path.Paths.{Path, proc}
use Rattle.kernel_laws.specs.site_table.Table.{row_at}
use Rattle.kernel_laws.specs.kern_mounts.Launch.{HasShortPlace}
use Rattle.kernel_laws.specs.kern_mounts.Mounts.{Mounts, plain}
use Rattle.kernel_laws.specs.kern_mounts.Split.{Table}
use Rattle.kernel_laws.specs.kern_mounts.Table.{StartsAtRoot}
use Rattle.kernel_laws.specs.kern_mounts.Umount.{after_umount}
use Rattle.kernel_laws.specs.kern_mounts.Unmounts.{Unmounts, still, then_one}
use Rattle.kernel_laws.proofs.OfKernMounts.Unmounting.{removes_plain, trims_plain, trimmed_part, trimmed_top, append_all}
use Rattle.kernel_laws.specs.kernel_model.kern_files.MountCall.{ms_bind, after_mount}
use Rattle.kernel_laws.specs.kernel_model.kern_files.UmountCall.{umount_answer}
use Rattle.kernel_laws.specs.kernel_model.kernel_calls.Calls.{IsPath}
use Rattle.kernel_laws.specs.kernel_model.kernel_calls.Operation.{Operation, Mount, Umount}
use Rattle.kernel_laws.specs.kernel_model.declared.kernel_calls.call.Call.{Call}
use Rattle.kernel_laws.specs.kernel_model.Effects.{Effect, Refuse, SetTable, table_effect, effect_of}
use Rattle.kernel_laws.specs.kernel_model.Runs.{moments, run, IsDone, AllDone}
use Rattle.kernel_laws.specs.kernel_model.Step.{step, step_by, decided, answered, applied}
use Rattle.kernel_laws.specs.kernel_model.MountNamespaces.{namespace_or, with_other_table}
use Rattle.kernel_laws.specs.kernel_model.World.{World, living_of, namespace_of, mounts_of, owner_of, with_table, host_of, caller_of}
use Rattle.kernel_laws.specs.kernel_model.declared.mount_namespace.MountNamespace.{MountNamespace}
use Rattle.kernel_laws.specs.kernel_model.declared.process.Process.{Process}
use Rattle.kernel_laws.specs.kernel_model.declared.reply.Reply.{Reply}
use Rattle.kernel_laws.specs.kernel_model.declared.reply.Reply.TheVariants.{Done}
use Rattle.kernel_laws.specs.cap_sets.Sets.{has}
use Rattle.kernel_laws.proofs.Numbered.{number_get, get_number}
use Rattle.reach_paths.specs.Processes.{CanMount, AsksFor, LeadsTo, MountingShowsAll, umount_flags, CanAskToUnmount, UnmountingIsDone}
use Rattle.reach_paths.proofs.Mounted.{mounted_twice}
use Rattle.reach_paths.proofs.Parts.{part_all, starts}

pub put_own : {X : Type 0} (xs : List X) (i : ℕ) (x y : X) → slice_get xs i ≡ Some x → slice_get (slice_set xs i y) i ≡ Some y
put_own [] i x y e = cc
put_own (z ∷ xs) zero x y e = refl
put_own (z ∷ xs) (suc i) x y e = put_own xs i x y e

module _ (world : World) (pid : ℕ) (process : Process) (table : Table) (can : CanMount world pid process table) where
  mounts_are : mounts_of world process.namespace ≡ map plain table
  mounts_are = ap (λ (o : Option MountNamespace). (namespace_or o).table) can.own ∙ can.mounts

  owns_it : (eqb (owner_of world process.namespace) process.user) ≡ true
  owns_it = ap (λ (o : Option MountNamespace). eqb (namespace_or o).owner process.user) can.own ∙ can.owns

  -- the world in which the namespace has another table
  abbrev after : Table → World
  after next = with_table world process.namespace (map plain next)

  still_can : (next : Table) → CanMount (after next) pid process next
  still_can next =
      let at = number_get world.namespaces process.namespace can.space can.own in
      let there : MountNamespace = with_other_table (namespace_of world process.namespace) (map plain next) in
      record {
        lives = can.lives;
        admin = can.admin;
        space = there;
        own = get_number (slice_set world.namespaces (process.namespace - 1) there) process.namespace there at.0
            (put_own world.namespaces (process.namespace - 1) can.space there at.1);
        owns = owns_it;
        mounts = refl;
      }

  -- a call that asks for a change of the table makes it
  steps : (call : Call) (operation : Operation) (next : Table) → AsksFor world pid process call operation
      → effect_of (host_of world) (caller_of world process) operation ≡ SetTable (map plain next)
      → step world call ≡ (Done 0, after next)
  steps call operation next asks makes =
      ap (λ p. step_by world call (living_of world p)) asks.caller
      ∙ ap (step_by world call) can.lives
      ∙ ap (decided world call process) asks.through
      ∙ ap (answered world call.pid process) asks.asks
      ∙ ap (applied world call.pid process) makes

  mount_makes : (source target : Path) (flags : ℕ) (next : Table) → after_mount (row_at world.site.rows) (map plain table) source target flags ≡ Ok (map plain next)
      → effect_of (host_of world) (caller_of world process) (Mount source target flags) ≡ SetTable (map plain next)
  mount_makes source target flags next e =
      ap (λ b. cond {A = Effect} b
      (cond (has process.creds.effective 21)
      (table_effect (after_mount (row_at world.site.rows) (mounts_of world process.namespace) source target flags)) (Refuse 1))
      (Refuse 1)) owns_it
      ∙ ap (λ b. cond {A = Effect} b
      (table_effect (after_mount (row_at world.site.rows) (mounts_of world process.namespace) source target flags)) (Refuse 1))
      can.admin
      ∙ ap (λ (t : Mounts). table_effect (after_mount (row_at world.site.rows) t source target flags)) mounts_are
      ∙ ap table_effect e

  umount_is : (detach : Bool) (path : Path) (next : Table) → after_umount (map plain table) path detach ≡ Ok (map plain next)
      → umount_answer (map plain table) path (umount_flags detach) ≡ Ok (map plain next)
  umount_is true path next e = e
  umount_is false path next e = e

  umount_makes : (path : Path) (detach : Bool) (next : Table) → after_umount (map plain table) path detach ≡ Ok (map plain next)
      → effect_of (host_of world) (caller_of world process) (Umount path (umount_flags detach)) ≡ SetTable (map plain next)
  umount_makes path detach next e =
      ap (λ b. cond {A = Effect} b
      (cond (has process.creds.effective 21)
      (table_effect (umount_answer (mounts_of world process.namespace) path (umount_flags detach))) (Refuse 1)) (Refuse 1))
      owns_it
      ∙ ap (λ b. cond {A = Effect} b (table_effect (umount_answer (mounts_of world process.namespace) path (umount_flags detach)))
      (Refuse 1)) can.admin
      ∙ ap (λ (t : Mounts). table_effect (umount_answer t path (umount_flags detach))) mounts_are
      ∙ ap table_effect (umount_is detach path next e)

  -- and then further calls
  one_more : (call : Call) (operation : Operation) (next : Table) → AsksFor world pid process call operation
      → effect_of (host_of world) (caller_of world process) operation ≡ SetTable (map plain next)
      → (calls : List Call) (now : Table) → LeadsTo (after next) pid process calls now → LeadsTo world pid process (call ∷ calls) now
  one_more call operation next asks makes calls now more =
      let is = steps call operation next asks makes in
      let P : Reply × World → Type 0 = λ out. IsDone out.0 × AllDone (moments out.1 calls) in
      let Q : Reply × World → Type 0 = λ out. CanMount (run out.1 calls) pid process now in
      record { done = subst P (sym is) (tt, more.done); can = subst Q (sym is) more.can }

-- the tables and filters stay, so a call asks for the same later
later_asks : (world : World) (pid : ℕ) (process : Process) (next : Table) (call : Call) (operation : Operation)
    → AsksFor world pid process call operation → AsksFor (with_table world process.namespace (map plain next)) pid process call operation
later_asks world pid process next call operation asks = record { caller = asks.caller; through = asks.through; asks = asks.asks }

nothing_more : (world : World) (pid : ℕ) (process : Process) (table : Table) → CanMount world pid process table
    → LeadsTo world pid process [] table
nothing_more world pid process table can = record { done = tt; can = can }

pub mounting_shows_all : MountingShowsAll
mounting_shows_all world pid process table bind remount flags can is form all other asks again =
    let two = mounted_twice world.site table flags is form all other in
    let one = mount_makes world pid process table can [] proc ms_bind two.middle two.bound in
    let can_again = still_can world pid process table can two.middle in
    let next = mount_makes (with_table world process.namespace (map plain two.middle)) pid process two.middle can_again [] proc flags two.last two.remounted in
    record {
      now = two.last;
      leads = one_more world pid process table can bind (Mount [] proc ms_bind) two.middle asks one (remount ∷ []) two.last
          (one_more (with_table world process.namespace (map plain two.middle)) pid process two.middle can_again remount
          (Mount [] proc flags) two.last (later_asks world pid process two.middle remount (Mount [] proc flags) again) next [] two.last
          (nothing_more (with_table (with_table world process.namespace (map plain two.middle)) process.namespace (map plain two.last))
          pid process two.last (still_can (with_table world process.namespace (map plain two.middle)) pid process two.middle can_again
          two.last)));
      each_row = two.each_row;
    }

-- the entries stay short, so each can be named
unmounting : (world : World) (pid : ℕ) (process : Process) {table now : Table} → CanMount world pid process table → StartsAtRoot table
    → AllByRecursion HasShortPlace table → CanAskToUnmount world pid process
    → Unmounts table now → (calls : List Call) × LeadsTo world pid process calls now
unmounting world pid process {table = table} can top short asks still = ([], nothing_more world pid process table can)
unmounting world pid process {table = table} {now = now} can top short asks (then_one {next = next} path detach e more) =
    let r = removes_plain path detach table next e in
    let all : AllByRecursion HasShortPlace (r.earlier ++ r.entry ∷ r.later) = subst (AllByRecursion HasShortPlace) r.whole short in
    let place : HasShortPlace r.entry = append_all HasShortPlace r.earlier r.entry r.later all in
    let named : IsPath r.entry.place = record { normal = place.normal; short = omega (arith, place.short) } in
    let call = asks path detach (subst IsPath (sym r.place) named) in
    let part = trims_plain path detach table next top e in
    let can' = still_can world pid process table can next in
    let more' = unmounting (with_table world process.namespace (map plain next)) pid process can' (trimmed_top part top) (part_all HasShortPlace (trimmed_part part) short)
    (λ path detach fits. let own = asks path detach fits in (own.0, later_asks world pid process next own.0 (Umount path (umount_flags detach)) own.1)) more in
    (call.0 ∷ more'.0, one_more world pid process table can call.0 (Umount path (umount_flags detach)) next call.1 (umount_makes world pid process table can path detach next e) more'.0 now more'.1)

pub unmounting_is_done : UnmountingIsDone
unmounting_is_done world pid process table now can form asks run =
    unmounting world pid process can (starts table form.begins_at_root) form.places_are_short asks run
