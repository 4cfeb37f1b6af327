-- Mounts that are not locked and keep nothing: each call leaves such, and what some calls make of a table of such.
use Rattle.std.proofs.Common.{◌≡◌, ℕ, ◌+◌, Bool, true, false, cond, [], ◌∷◌, ◌++◌, refl, sym, ap, ◌∙◌, filter, map, Option, Some, None}
use Rattle.std.proofs.Common.{Ok, Err, Result, length, subst}
use Rattle.std.specs.Prelude.{◌&&◌, ◌||◌, not, nat_lt}
use Rattle.std.specs.List.{list_any}
use Rattle.std.proofs.lemmas.List.{map-append, length-map}
use Rattle.abs_path.specs.Paths.{Path, is_root}
use Rattle.abs_path.proofs.Prefixes.{prefix_itself, same_itself}
use Rattle.linux_numbers.specs.Errnos.{einval, enospc}
use Rattle.linux_numbers.specs.Limits.{mount_max}
use Rattle.kern_mounts.specs.declared.step.Flags.{Flags}
use Rattle.kern_mounts.specs.declared.step.Mount.{Mount}
use Rattle.kern_mounts.specs.declared.step.MountStep.{MountStep}
use Rattle.kern_mounts.specs.Entry.{leads_to}
use Rattle.kern_mounts.specs.Split.{SplitOf, Split, Table, split_at, is_at, is_below}
use Rattle.kern_mounts.specs.Umount.{after_umount}
use Rattle.kern_mounts.specs.Remount.{with_flags, remounted, after_remount}
use Rattle.kern_mounts.specs.Push.{grown, after_push}
use Rattle.kern_mounts.specs.Bind.{moved_mount, copies, bound_entry, bound_mount, is_locked_below, bound, after_bind}
use Rattle.kern_mounts.specs.MountAt.{mount_at}
use Rattle.kern_mounts.specs.Mounts.{Mounts, steps_of, leads, stands_at, stands_below, plain, IsPlain, ArePlain}
use Rattle.kern_mounts.specs.Table.{no_flags}
use Rattle.kern_mounts.proofs.Splits.{None_have, split_some, split_is}
use Rattle.kern_mounts.proofs.Calls.{umounts, remounts, binds, grown_is}

-- ---- lists
all_front : (earlier later : Mounts) → ArePlain (earlier ++ later) → ArePlain earlier
all_front [] later h = tt
all_front (mount ∷ earlier) later h = (h.0, all_front earlier later h.1)

all_behind : (earlier later : Mounts) → ArePlain (earlier ++ later) → ArePlain later
all_behind [] later h = h
all_behind (mount ∷ earlier) later h = all_behind earlier later h.1

all_both : (earlier later : Mounts) → ArePlain earlier → ArePlain later → ArePlain (earlier ++ later)
all_both [] later h g = g
all_both (mount ∷ earlier) later h g = (h.0, all_both earlier later h.1 g)

all_filter : (p : Mount → Bool) (mounts : Mounts) → ArePlain mounts → ArePlain (filter p mounts)
all_filter p [] h = tt
all_filter p (mount ∷ mounts) h = by (p mount) (all_filter p mounts h.1)
  where
    by : (b : Bool) → ArePlain (filter p mounts) → ArePlain (cond b (mount ∷ filter p mounts) (filter p mounts))
    by true more = (h.0, more)
    by false more = more

all_moved : (source target : Path) (mounts : Mounts) → ArePlain mounts → ArePlain (map (moved_mount source target) mounts)
all_moved source target [] h = tt
all_moved source target (mount ∷ mounts) h = (h.0, all_moved source target mounts h.1)

-- the parts about a split
record Parts (split : SplitOf Mount) : Type 0 where
  earlier : ArePlain split.earlier
  entry : IsPlain split.entry
  later : ArePlain split.later

parts : (path : Path) (mounts : Mounts) (split : SplitOf Mount) → mount_at path mounts ≡ Some split → ArePlain mounts → Parts split
parts path mounts split s h =
    let all : ArePlain (split.earlier ++ split.entry ∷ split.later) = subst ArePlain (split_some (leads path) mounts split s).whole h in
    let own = all_behind split.earlier (split.entry ∷ split.later) all in
    record { earlier = all_front split.earlier (split.entry ∷ split.later) all; entry = own.0; later = own.1 }

-- ---- what calls leave
pub umount_plain : (mounts next : Mounts) (path : Path) (detach : Bool) → ArePlain mounts → after_umount mounts path detach ≡ Ok next
    → ArePlain next
umount_plain mounts next path detach h e =
    let r = umounts mounts next path detach e in
    let p = parts path mounts r.split r.found h in
    subst ArePlain r.made (all_both r.split.earlier _ p.earlier (all_filter (λ mount. not (stands_below path mount)) r.split.later p.later))

pub remount_plain : (mounts next : Mounts) (place : Path) (flags : Flags) → ArePlain mounts → after_remount mounts place flags ≡ Ok next
    → ArePlain next
remount_plain mounts next place flags h e =
    let r = remounts mounts next place flags e in
    let p = parts place mounts r.split r.found h in
    subst ArePlain r.made (all_both r.split.earlier (with_flags r.split.entry flags ∷ r.split.later) p.earlier (p.entry, p.later))

pub push_plain : (mounts next : Mounts) (step : MountStep) → ArePlain mounts → after_push mounts step ≡ Ok next → ArePlain next
push_plain mounts next step h e = subst ArePlain (grown_is mounts (plain step ∷ []) next e)
    (all_both mounts (plain step ∷ []) h ((refl, refl), tt))

pub bind_plain : (mounts next : Mounts) (source target : Path) (recursive : Bool) → ArePlain mounts
    → after_bind mounts source target recursive ≡ Ok next → ArePlain next
bind_plain mounts next source target recursive h e =
    let b = binds mounts next source target recursive e in
    let p = parts source mounts b.split b.found h in
    let more : Mounts = bound_mount source target b.split.entry ∷ copies recursive source target b.split.later in
    subst ArePlain (grown_is mounts more next b.made) (all_both mounts more h ((refl, p.entry.1), copied recursive b.split.later p.later))
  where
    copied : (recursive : Bool) (later : Mounts) → ArePlain later → ArePlain (copies recursive source target later)
    copied true later g = all_moved source target (filter (stands_below source) later) (all_filter (stands_below source) later g)
    copied false later g = tt

-- ---- the mounts of a table
pub steps_plain : (table : Table) → steps_of (map plain table) ≡ table
steps_plain [] = refl
steps_plain (step ∷ table) = ap (λ (t : Table). step ∷ t) (steps_plain table)

pub are_plain : (table : Table) → ArePlain (map plain table)
are_plain [] = tt
are_plain (step ∷ table) = ((refl, refl), are_plain table)

made_again : (mount : Mount) → IsPlain mount → plain mount.step ≡ mount
made_again mount h =
    let one : plain mount.step ≡ record { step = mount.step; locked = mount.locked; kept = no_flags } = ap (λ (b : Bool). record { step = mount.step; locked = b; kept = no_flags }) (sym h.0) in
    let other : record { step = mount.step; locked = mount.locked; kept = no_flags } ≡ mount = ap (λ (k : Flags). record { step = mount.step; locked = mount.locked; kept = k }) (sym h.1) in
    one ∙ other

pub plain_again : (mounts : Mounts) → ArePlain mounts → map plain (steps_of mounts) ≡ mounts
plain_again [] h = refl
plain_again (mount ∷ mounts) h = ap (λ (m : Mount). m ∷ map plain (steps_of mounts)) (made_again mount h.0)
    ∙ ap (λ (t : Mounts). mount ∷ t) (plain_again mounts h.1)

none_plain : (path : Path) (table : Table) → None_have (leads_to path) table → None_have (leads path) (map plain table)
none_plain path [] h = tt
none_plain path (step ∷ table) h = (h.0, none_plain path table h.1)

-- the mounts about the one that a path belongs to
abbrev mounts_split : Split → SplitOf Mount
mounts_split split = record { earlier = map plain split.earlier; entry = plain split.entry; later = map plain split.later }

split_plain : (path : Path) (table : Table) (split : Split) → split_at path table ≡ Some split
    → mount_at path (map plain table) ≡ Some (mounts_split split)
split_plain path table split s =
    let is = split_some (leads_to path) table split s in
    ap (λ (t : Table). mount_at path (map plain t)) is.whole
    ∙ ap (mount_at path) (map-append plain split.earlier (split.entry ∷ split.later))
    ∙ split_is (leads path) (map plain split.earlier) (plain split.entry) (map plain split.later) is.has
    (none_plain path split.later is.last)

filter_plain : (p : MountStep → Bool) (table : Table) → filter (λ mount. p mount.step) (map plain table) ≡ map plain (filter p table)
filter_plain p [] = refl
filter_plain p (step ∷ table) = by (p step) (filter_plain p table)
  where
    by : (b : Bool) → filter (λ mount. p mount.step) (map plain table) ≡ map plain (filter p table)
        → cond b (plain step ∷ filter (λ mount. p mount.step) (map plain table)) (filter (λ mount. p mount.step) (map plain table))
        ≡ map plain (cond b (step ∷ filter p table) (filter p table))
    by true more = ap (λ (t : Mounts). plain step ∷ t) more
    by false more = more

-- umount2 with MNT_DETACH at the place of an entry that no later one leads to
pub umounts_own : (earlier later : Table) (entry : MountStep) → is_root entry.place ≡ false → None_have (leads_to entry.place) later →
    after_umount (map plain (earlier ++ entry ∷ later)) entry.place true
    ≡ Ok (map plain (earlier ++ filter (λ other. not (is_below entry.place other)) later))
umounts_own earlier later entry low none =
    let at : stands_at entry.place (plain entry) ≡ true = same_itself entry.place in
    let split = split_is (leads entry.place) (map plain earlier) (plain entry) (map plain later) (prefix_itself entry.place) (none_plain entry.place later none) in
    ap (λ (t : Mounts). after_umount t entry.place true) (map-append plain earlier (entry ∷ later)) ∙ rw (low, split, at) refl
    ∙ ap (λ (t : Mounts). Ok (map plain earlier ++ t)) (filter_plain (λ other. not (is_below entry.place other)) later)
    ∙ ap Ok (sym (map-append plain earlier (filter (λ other. not (is_below entry.place other)) later)))

-- other flags for the entry that stands at a place
pub remounts_own : (table : Table) (place : Path) (flags : Flags) (split : Split) → split_at place table ≡ Some split
    → is_at place split.entry ≡ true → after_remount (map plain table) place flags
    ≡ Ok (map plain (split.earlier ++ record split.entry { flags = flags } ∷ split.later))
remounts_own table place flags split s at =
    let now : MountStep = record split.entry { flags = flags } in
    ap (remounted place flags) (split_plain place table split s)
    ∙ ap (λ b. cond {A = Result Mounts ℕ} b (Ok (map plain split.earlier ++ plain now ∷ map plain split.later)) (Err einval)) at
    ∙ ap Ok (sym (map-append plain split.earlier (now ∷ split.later)))

none_locked : (source : Path) (table : Table) → list_any (is_locked_below source) (map plain table) ≡ false
none_locked source [] = refl
none_locked source (step ∷ table) = none_locked source table

-- a bind that is not recursive, where there is room
pub binds_alone : (table : Table) (source target : Path) (split : Split) → split_at source table ≡ Some split
    → nat_lt mount_max (length table + 1) ≡ false
    → after_bind (map plain table) source target false ≡ Ok (map plain (table ++ bound_entry source target split.entry ∷ []))
binds_alone table source target split s room =
    let new : MountStep = bound_entry source target split.entry in
    let full : nat_lt mount_max (length (map plain table) + 1) ≡ false = ap (λ n. nat_lt mount_max (n + 1)) (length-map table plain) ∙ room in
    ap (bound (map plain table) source target false) (split_plain source table split s)
    ∙ ap (λ b. cond {A = Result Mounts ℕ} b (Err einval) (grown (map plain table) (plain new ∷ []))) (none_locked source split.later)
    ∙ ap (λ b. cond {A = Result Mounts ℕ} b (Err enospc) (Ok (map plain table ++ plain new ∷ []))) full
    ∙ ap Ok (sym (map-append plain table (new ∷ [])))
