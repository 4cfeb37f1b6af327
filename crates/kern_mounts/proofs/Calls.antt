-- Each call of mount(2) and umount2(2) that is done leaves mounts backed.
use Rattle.std.proofs.Common.{◌≡◌, ℕ, Bool, true, false, cond, [], ◌∷◌, ◌++◌, refl, filter, Option, Some, None, Result, Ok, Err, length}
use Rattle.std.proofs.Common.{subst, ◌+◌}
use Rattle.std.specs.Prelude.{◌&&◌, not, nat_lt}
use Rattle.std.specs.List.{list_any}
use Rattle.abs_path.specs.Paths.{Path, is_root}
use Rattle.abs_path.specs.Prefix.{rest_of}
use Rattle.linux_numbers.specs.Errnos.{ebusy, einval, eperm, enametoolong, enospc}
use Rattle.linux_numbers.specs.Limits.{mount_max}
use Rattle.kern_mounts.specs.declared.step.Flags.{Flags}
use Rattle.kern_mounts.specs.declared.step.What.TheVariants.{Host, Empty}
use Rattle.kern_mounts.specs.declared.step.Mount.{Mount}
use Rattle.kern_mounts.specs.Mounts.{Mounts, leads, stands_at, stands_below, plain}
use Rattle.kern_mounts.specs.Keeping.{lacks}
use Rattle.kern_mounts.specs.Split.{SplitOf}
use Rattle.kern_mounts.specs.MountAt.{mount_at}
use Rattle.kern_mounts.specs.Umount.{unmounted, after_umount}
use Rattle.kern_mounts.specs.Remount.{with_flags, remounted, after_remount}
use Rattle.kern_mounts.specs.Push.{grown, after_push}
use Rattle.kern_mounts.specs.Bind.{copies, bound_mount, is_locked_below, is_too_long, bound, after_bind}
use Rattle.kern_mounts.specs.Backing.{Shows, Widens, AreBacked}
use Rattle.kern_mounts.specs.Changes.{Changes, still, then_bind, then_empty, then_remount, then_umount, then_locked}
use Rattle.kern_mounts.proofs.Splits.{IsSplit, split_some}
use Rattle.kern_mounts.proofs.Backing.{backed_append, backed_behind, backed_front, backed_left, backed_flags, backed_copies, backed_bound}
use Rattle.kern_mounts.proofs.Backing.{copied_behind, nothing_behind, backed_locked, backed_path}

-- the mounts about a split
whole_backed : (shows : Shows) (path : Path) (mounts : Mounts) (split : SplitOf Mount) → mount_at path mounts ≡ Some split
    → AreBacked shows mounts → AreBacked shows (split.earlier ++ split.entry ∷ split.later)
whole_backed shows path mounts split s h = let P : Mounts → Type 0 = AreBacked shows in subst P (split_some (leads path) mounts split s).whole h

-- ---- umount2
-- what a call that is done removes: a mount that is not locked, and the later ones below it
pub record Umounts (path : Path) (mounts next : Mounts) : Type 0 where
  pub split : SplitOf Mount
  pub found : mount_at path mounts ≡ Some split
  pub at_place : stands_at path split.entry ≡ true
  pub free : split.entry.locked ≡ false
  pub made : split.earlier ++ filter (λ mount. not (stands_below path mount)) split.later ≡ next
  pub below_root : is_root path ≡ false

pub umounts : (mounts next : Mounts) (path : Path) (detach : Bool) → after_umount mounts path detach ≡ Ok next
    → Umounts path mounts next
umounts mounts next path detach e = below_root (is_root path) refl e
  where
    by : (o : Option (SplitOf Mount)) → is_root path ≡ false → mount_at path mounts ≡ o → unmounted path detach o ≡ Ok next
        → Umounts path mounts next
    by None low s f = cc
    by (Some split) low s f = by_at (stands_at path split.entry) split.entry.locked
        (not detach && list_any (stands_below path) split.later) refl refl f
      where
        left : Mounts
        left = split.earlier ++ filter (λ mount. not (stands_below path mount)) split.later

        by_at : (a l b : Bool) → stands_at path split.entry ≡ a → split.entry.locked ≡ l
            → cond {A = Result Mounts ℕ} (not a) (Err einval)
            (cond {A = Result Mounts ℕ} l (Err einval) (cond {A = Result Mounts ℕ} b (Err ebusy) (Ok left))) ≡ Ok next
            → Umounts path mounts next
        by_at false l b p q f = cc
        by_at true true b p q f = cc
        by_at true false true p q f = cc
        by_at true false false p q f = record { split = split; found = s; at_place = p; free = q; made = cc; below_root = low }

    below_root : (b : Bool) → is_root path ≡ b
        → cond {A = Result Mounts ℕ} b (Err einval) (unmounted path detach (mount_at path mounts)) ≡ Ok next → Umounts path mounts next
    below_root true low f = cc
    below_root false low f = by (mount_at path mounts) low refl f

pub umount_backed : (shows : Shows) (mounts next : Mounts) (path : Path) (detach : Bool) → AreBacked shows mounts
    → after_umount mounts path detach ≡ Ok next → AreBacked shows next
umount_backed shows mounts next path detach h e =
    let P : Mounts → Type 0 = AreBacked shows in
    subst P r.made (backed_front shows r.split.earlier r.split.entry r.split.later _ r.free all
    (backed_left shows path r.split.later is.last (backed_behind shows r.split.earlier (r.split.entry ∷ r.split.later) all).1))
  where
    r : Umounts path mounts next
    r = umounts mounts next path detach e

    is : IsSplit (leads path) mounts r.split
    is = split_some (leads path) mounts r.split r.found

    all : AreBacked shows (r.split.earlier ++ r.split.entry ∷ r.split.later)
    all = whole_backed shows path mounts r.split r.found h

-- ---- remount
pub record Remounts (place : Path) (flags : Flags) (mounts next : Mounts) : Type 0 where
  pub split : SplitOf Mount
  pub found : mount_at place mounts ≡ Some split
  pub at_place : stands_at place split.entry ≡ true
  pub kept : lacks split.entry.kept flags ≡ false
  pub made : split.earlier ++ with_flags split.entry flags ∷ split.later ≡ next

pub remounts : (mounts next : Mounts) (place : Path) (flags : Flags) → after_remount mounts place flags ≡ Ok next
    → Remounts place flags mounts next
remounts mounts next place flags e = by (mount_at place mounts) refl e
  where
    by : (o : Option (SplitOf Mount)) → mount_at place mounts ≡ o → remounted place flags o ≡ Ok next
        → Remounts place flags mounts next
    by None s f = cc
    by (Some split) s f = by_at (stands_at place split.entry) (lacks split.entry.kept flags) refl refl f
      where
        now : Mounts
        now = split.earlier ++ with_flags split.entry flags ∷ split.later

        by_at : (a b : Bool) → stands_at place split.entry ≡ a → lacks split.entry.kept flags ≡ b
            → cond {A = Result Mounts ℕ} a (cond {A = Result Mounts ℕ} b (Err eperm) (Ok now)) (Err einval) ≡ Ok next
            → Remounts place flags mounts next
        by_at false b p q f = cc
        by_at true true p q f = cc
        by_at true false p q f = record { split = split; found = s; at_place = p; kept = q; made = cc }

pub remount_backed : (shows : Shows) (mounts next : Mounts) (place : Path) (flags : Flags) → AreBacked shows mounts
    → after_remount mounts place flags ≡ Ok next → AreBacked shows next
remount_backed shows mounts next place flags h e =
    let P : Mounts → Type 0 = AreBacked shows in
    let r = remounts mounts next place flags e in
    subst P r.made (backed_flags shows r.split.earlier r.split.entry r.split.later flags r.kept
    (whole_backed shows place mounts r.split r.found h))

-- ---- mounts that are added
pub grown_is : (mounts more next : Mounts) → grown mounts more ≡ Ok next → mounts ++ more ≡ next
grown_is mounts more next e = by (nat_lt mount_max (length mounts + length more)) e
  where
    by : (b : Bool) → cond {A = Result Mounts ℕ} b (Err enospc) (Ok (mounts ++ more)) ≡ Ok next → mounts ++ more ≡ next
    by true f = cc
    by false f = cc

pub grown_backed : (shows : Shows) (mounts more next : Mounts) → AreBacked shows mounts → AreBacked shows more
    → grown mounts more ≡ Ok next → AreBacked shows next
grown_backed shows mounts more next h g e = let P : Mounts → Type 0 = AreBacked shows in subst P (grown_is mounts more next e) (backed_append shows mounts more h g)

-- an empty file system shows nothing of the host
empty_alone : (shows : Shows) (target : Path) (flags : Flags)
    → AreBacked shows (plain (record { place = target; what = Empty; flags = flags }) ∷ [])
empty_alone shows target flags = (record { keeps = refl; shown = λ source rest host clear. let never : ⊥ = cc in absurd never }, tt)

pub empty_backed : (shows : Shows) (mounts next : Mounts) (target : Path) (flags : Flags) → AreBacked shows mounts
    → after_push mounts (record { place = target; what = Empty; flags = flags }) ≡ Ok next → AreBacked shows next
empty_backed shows mounts next target flags h e = grown_backed shows mounts
    (plain (record { place = target; what = Empty; flags = flags }) ∷ []) next h (empty_alone shows target flags) e

-- ---- binds
pub record Binds (source target : Path) (recursive : Bool) (mounts next : Mounts) : Type 0 where
  pub split : SplitOf Mount
  pub found : mount_at source mounts ≡ Some split
  pub allowed : (not recursive && list_any (is_locked_below source) split.later) ≡ false
  pub made : grown mounts (bound_mount source target split.entry ∷ copies recursive source target split.later) ≡ Ok next

pub binds : (mounts next : Mounts) (source target : Path) (recursive : Bool) → after_bind mounts source target recursive ≡ Ok next
    → Binds source target recursive mounts next
binds mounts next source target recursive e = by (mount_at source mounts) refl e
  where
    by : (o : Option (SplitOf Mount)) → mount_at source mounts ≡ o → bound mounts source target recursive o ≡ Ok next
        → Binds source target recursive mounts next
    by None s f = cc
    by (Some split) s f = by_at (not recursive && list_any (is_locked_below source) split.later)
        (list_any is_too_long (copies recursive source target split.later)) refl f
      where
        now : Result Mounts ℕ
        now = grown mounts (bound_mount source target split.entry ∷ copies recursive source target split.later)

        by_at : (a b : Bool) → (not recursive && list_any (is_locked_below source) split.later) ≡ a
            → cond {A = Result Mounts ℕ} a (Err einval) (cond {A = Result Mounts ℕ} b (Err enametoolong) now) ≡ Ok next
            → Binds source target recursive mounts next
        by_at true b p f = cc
        by_at false true p f = cc
        by_at false false p f = record { split = split; found = s; allowed = p; made = f }

pub bind_backed : (shows : Shows) (mounts next : Mounts) (source target : Path) (recursive : Bool) → AreBacked shows mounts
    → after_bind mounts source target recursive ≡ Ok next → AreBacked shows next
bind_backed shows mounts next source target recursive h e = by recursive (binds mounts next source target recursive e)
  where
    by : (recursive : Bool) → Binds source target recursive mounts next → AreBacked shows next
    by true b =
        let is = split_some (leads source) mounts b.split b.found in
        let own = backed_behind shows b.split.earlier (b.split.entry ∷ b.split.later) (whole_backed shows source mounts b.split b.found h) in
        grown_backed shows mounts (bound_mount source target b.split.entry ∷ copies true source target b.split.later) next h
        (backed_bound shows source target b.split.entry b.split.later (copies true source target b.split.later) is.has is.last (copied_behind source target b.split.later) own.0, backed_copies shows source target b.split.later own.1)
        b.made
    by false b =
        let is = split_some (leads source) mounts b.split b.found in
        let own = backed_behind shows b.split.earlier (b.split.entry ∷ b.split.later) (whole_backed shows source mounts b.split b.found h) in
        grown_backed shows mounts (bound_mount source target b.split.entry ∷ []) next h
        (backed_bound shows source target b.split.entry b.split.later [] is.has is.last (nothing_behind source target b.split.later b.allowed) own.0, tt)
        b.made

-- ---- any calls
pub changes_backed : (shows : Shows) {mounts last : Mounts} → Widens shows → AreBacked shows mounts → Changes mounts last
    → AreBacked shows last
changes_backed shows widens h still = h
changes_backed shows widens h (then_bind {mounts} {next} source target recursive e more) =
    changes_backed shows widens (bind_backed shows mounts next source target recursive h e) more
changes_backed shows widens h (then_empty {mounts} {next} target flags e more) =
    changes_backed shows widens (empty_backed shows mounts next target flags h e) more
changes_backed shows widens h (then_remount {mounts} {next} place flags e more) =
    changes_backed shows widens (remount_backed shows mounts next place flags h e) more
changes_backed shows widens h (then_umount {mounts} {next} path detach e more) =
    changes_backed shows widens (umount_backed shows mounts next path detach h e) more
changes_backed shows widens h (then_locked {mounts} more) = changes_backed shows widens (backed_locked shows mounts widens h) more

-- ---- what a path shows
pub path_backed : (shows : Shows) (mounts : Mounts) (path source : Path) (split : SplitOf Mount) → Widens shows → AreBacked shows mounts
    → mount_at path mounts ≡ Some split → split.entry.step.what ≡ Host source
    → shows (source ++ rest_of split.entry.step.place path) split.entry.step.flags ≡ true
path_backed shows mounts path source split widens h s host =
    let is = split_some (leads path) mounts split s in
    backed_path shows path source split.entry split.later widens is.has is.last
    (backed_behind shows split.earlier (split.entry ∷ split.later) (whole_backed shows path mounts split s h)).0 host
