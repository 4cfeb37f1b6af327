-- The mounts of a launch, one after another.
use Rattle.std.proofs.Common.{◌≡◌, ℕ, zero, suc, Bool, true, false, cond, codes, List, [], ◌∷◌, ◌++◌, Option, Some, None, Ok, refl, ap, ◌∙◌}
use Rattle.std.proofs.Common.{sym, subst, length, drop, get_or, drop-cons, add-one, ◌<◌, ◌≤◌, arith, eqb}
use Rattle.std.specs.Prelude.{map, slice_get, slice_set, ◌+◌, ◌-◌}
use Rattle.std.proofs.lemmas.List.{length-append}
use Rattle.exec_settings.specs.abs_path.Paths.{is_root}
use Rattle.kernel_laws.specs.call_table.declared.listed.CallLine.{CallLine}
use Rattle.kernel_laws.specs.call_table.Facts.{IsWhole}
use Rattle.kernel_laws.specs.kern_creds.declared.creds.Creds.{Creds}
use Rattle.kernel_laws.specs.kern_creds.Start as creds
use Rattle.kernel_laws.specs.kern_mounts.Table as mounts
use Rattle.kernel_laws.specs.kern_mounts.Mounts.{Mounts as MountList, plain}
use Rattle.kernel_laws.specs.kern_mounts.Remount.{with_root_flags}
use Rattle.kernel_laws.specs.kern_mounts.Split.{Table}
use Rattle.kernel_laws.specs.kern_mounts.declared.step.Flags.{Flags}
use Rattle.kernel_laws.specs.kern_mounts.declared.step.MountStep.{MountStep}
use Rattle.kernel_laws.specs.kernel_model.declared.kernel_calls.payload.Payload.TheVariants.{Nothing}
use Rattle.kernel_laws.specs.kernel_model.declared.mount_namespace.MountNamespace.{MountNamespace}
use Rattle.kernel_laws.specs.kernel_model.declared.process.Process.{Process}
use Rattle.kernel_laws.specs.kernel_model.MountStep.{after_mount_step, stepped_by, with_step}
use Rattle.kernel_laws.specs.kernel_model.MountNamespaces.{first_namespace, namespace_or, with_other_table}
use Rattle.kernel_laws.specs.kernel_model.World.{World, living_of, of_number, put_number, namespace_of, mounts_of}
use Rattle.launcher.specs.Ends.{Begins, StepsTo, IsStart, HasRoomBy, HasRoomFor, with_mounts}
use Rattle.launcher.specs.Launch.{LaunchStep, Mounts, launch_from, makes, mount_steps, with_unshare, new_mounts}
use Rattle.launcher.proofs.LaunchCalls.{launch_calls}
use Rattle.launcher.proofs.CallsMade.{step_done}
use Rattle.launcher.proofs.Solo.{At, solo, makes_unshare, own_mounts}

-- ---- there is room for each
flags_length : (flags : Flags) (table : MountList) → length (with_root_flags flags table) ≡ length table
flags_length flags [] = refl
flags_length flags (first ∷ table) = refl

step_length : (table : MountList) (step : MountStep) → length (with_step table step) ≤ length table + 1
step_length table step = by (is_root step.place)
  where
    by : (b : Bool) → length (cond b (with_root_flags step.flags table) (table ++ plain step ∷ [])) ≤ length table + 1
    by true = let e = flags_length step.flags table in omega (arith, e)
    by false = let e = length-append table (plain step ∷ []) in omega (arith, e)

set_length : (spaces : List MountNamespace) (i : ℕ) (space : MountNamespace)
    → length (namespace_or (slice_get (slice_set spaces i space) i)).table ≤ length space.table
set_length [] i space = omega arith
set_length (own ∷ spaces) zero space = omega arith
set_length (own ∷ spaces) (suc i) space = set_length spaces i space

put_length : (spaces : List MountNamespace) (number : ℕ) (space : MountNamespace)
    → length (namespace_or (of_number (put_number spaces number space) number)).table ≤ length space.table
put_length spaces number space = by (eqb number 0)
  where
    by : (b : Bool) → length (namespace_or (cond b None (slice_get (slice_set spaces (number - 1) space) (number - 1)))).table
        ≤ length space.table
    by true = omega arith
    by false = set_length spaces (number - 1) space

pub room_less : (count : ℕ) (world : World) (entry : MountStep) → HasRoomFor (suc count) world
    → HasRoomFor count (after_mount_step world 1 entry)
room_less count world entry room = by (living_of world 1) refl room
  where
    by : (o : Option Process) → living_of world 1 ≡ o → HasRoomBy world (suc count) o
        → HasRoomBy (stepped_by world entry o) count (living_of (stepped_by world entry o) 1)
    by None is h = absurd h
    by (Some process) is h =
        let own : MountList = mounts_of world process.namespace in
        let next = stepped_by world entry (Some process) in
        let put = put_length world.namespaces process.namespace (with_other_table (namespace_of world process.namespace) (with_step own entry)) in
        let one = step_length own entry in
        let fits : length (mounts_of next process.namespace) + count ≤ 4096 = omega (arith, put, one, h) in
        subst (λ (o : Option Process). HasRoomBy next count o) (sym is) fits

front : (entries : List MountStep) (i : ℕ) (entry : MountStep) → i < length entries → entry ≡ get_or entries i entry
    → drop i entries ≡ entry ∷ drop (i + 1) entries
front entries i entry lt is = drop-cons entries i entry lt ∙ ap (λ (e : MountStep). e ∷ drop (suc i) entries) (sym is)
    ∙ ap (λ n. entry ∷ drop n entries) (sym (add-one i))

-- so many entries of a list are mounted
pub record Mounting (start now : World) (entries : List MountStep) (i : ℕ) : Type 0 where
  pub room : HasRoomFor (length (drop i entries)) now
  pub rest : with_mounts now (drop i entries) ≡ with_mounts start entries

pub mounted_more : (start now after : World) (entries : List MountStep) (i : ℕ) (entry : MountStep) → i < length entries
    → entry ≡ get_or entries i entry → Mounting start now entries i
    → after ≡ after_mount_step now 1 entry → Mounting start after entries (i + 1)
mounted_more start now after entries i entry lt is m stepped =
    let own : HasRoomFor (suc (length (drop (i + 1) entries))) now = subst (λ (es : List MountStep). HasRoomFor (length es) now) (front entries i entry lt is) m.room in
    record {
      room = subst (HasRoomFor (length (drop (i + 1) entries))) (sym stepped) (room_less (length (drop (i + 1) entries)) now entry own);
      rest = ap (λ (w : World). with_mounts w (drop (i + 1) entries)) stepped ∙ ap (with_mounts now) (sym (front entries i entry lt is))
          ∙ m.rest;
    }

-- ---- the launch goes on behind them
mounts_go : (world : World) (entries : List MountStep) (rest : List LaunchStep) (count : ℕ)
    → launch_from world (map Mounts entries ++ rest) count ≡ launch_from (with_mounts world entries) rest (count + length entries)
mounts_go world [] rest count = let same : count ≡ count + 0 = omega arith in ap (launch_from world rest) same
mounts_go world (entry ∷ entries) rest count =
    let same : count + 1 + length entries ≡ count + suc (length entries) = omega arith in
    mounts_go (after_mount_step world 1 entry) entries rest (count + 1)
    ∙ ap (launch_from (with_mounts (after_mount_step world 1 entry) entries) rest) same

abbrev unshare_of : List CallLine → LaunchStep
unshare_of lines = makes lines (codes "unshare") new_mounts 0 0 Nothing

-- all entries are mounted behind unshare(2)
begins_behind : (world own after : World) (lines : List CallLine) (entry : MountStep) (entries : Table)
    → StepsTo world (unshare_of lines) 1 (Ok tt) own → after ≡ with_mounts own (entry ∷ entries)
    → Begins world (with_unshare lines (map Mounts (entry ∷ entries))) (Ok (1 + length (entry ∷ entries))) after
begins_behind world own after lines entry entries done mounted rest =
    step_done world own (unshare_of lines) (map Mounts (entry ∷ entries) ++ rest) 0 1 done
    ∙ mounts_go own (entry ∷ entries) rest 1
    ∙ ap (λ (w : World). launch_from w rest (1 + length (entry ∷ entries))) (sym mounted)

pub begins_mounted : (world own after : World) (lines : List CallLine) (plan entries : Table) (count : ℕ)
    → map Mounts entries ≡ mount_steps plan → 0 < length entries → count ≡ 1 + length entries
    → StepsTo world (unshare_of lines) 1 (Ok tt) own → after ≡ with_mounts own entries
    → Begins world (with_unshare lines (mount_steps plan)) (Ok count) after
begins_mounted world own after lines plan [] count are some counted done mounted = absurd (omega (arith, some))
begins_mounted world own after lines plan (entry ∷ entries) count are some counted done mounted =
    subst (λ (steps : List LaunchStep). Begins world (with_unshare lines steps) (Ok count) after) are
    (subst (λ n. Begins world (with_unshare lines (map Mounts (entry ∷ entries))) (Ok n) after) (sym counted)
    (begins_behind world own after lines entry entries done mounted))

-- ---- the own namespace has room
abbrev Any : Creds → Type 0
Any creds = Unit {0}

pub room_of_own : (world own : World) (count : ℕ) → IsStart world → IsWhole world.calls → count ≤ 193
    → StepsTo world (unshare_of world.calls.calls) 1 (Ok tt) own → HasRoomFor count own
room_of_own world own count starts whole few done =
    let calls' = launch_calls world.calls whole in
    let first : At world.calls world.site Any [] mounts.start world = record { creds = creds.start; namespace = 1; spaces = first_namespace ∷ []; as_asked = tt; is = starts; own = refl } in
    let at = makes_unshare world.calls world.site Any calls'.unshare [] mounts.start world first done.0 in
    let same = own_mounts world.calls world.site at.creds [] at.namespace at.spaces mounts.start at.own in
    let there : World = solo world.calls world.site at.creds [] at.namespace at.spaces in
    let fits : length (mounts_of there at.namespace) + count ≤ 4096 = subst (λ (t : MountList). length t + count ≤ 4096) (sym same) (omega (arith, few)) in
    let room : HasRoomFor count there = fits in
    subst (HasRoomFor count) (sym (done.1 ∙ at.is)) room
