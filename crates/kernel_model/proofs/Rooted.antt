-- No call puts another entry at `/`, or takes the first one away.
use Rattle.std.proofs.Common.{◌≡◌, ℕ, Bool, true, false, cond, [], ◌∷◌, ◌++◌, map, Option, Ok, refl, sym, ◌∙◌, subst}
use Rattle.std.specs.Prelude.{not, ◌==◌, filter}
use Rattle.std.specs.List.{AllByRecursion}
use Rattle.site_table.specs.abs_path.Paths.{Path, is_root}
use Rattle.site_table.specs.abs_path.Prefix.{rest_of}
use Rattle.site_table.specs.declared.row.Row.{Row}
use Rattle.kern_mounts.specs.declared.step.Flags.{Flags}
use Rattle.kern_mounts.specs.declared.step.What.TheVariants.{Empty}
use Rattle.kern_mounts.specs.declared.step.MountStep.{MountStep}
use Rattle.kern_mounts.specs.Mounts.{Mounts, steps_of, plain}
use Rattle.kern_mounts.specs.Split.{Table, is_below}
use Rattle.kern_mounts.specs.Push.{after_push}
use Rattle.kern_mounts.specs.Bind.{after_bind, bound_entry, moved}
use Rattle.kern_mounts.specs.Remount.{with_root_flags, after_remount}
use Rattle.kern_mounts.specs.Umount.{after_umount}
use Rattle.kern_mounts.proofs.Calls.{grown_is}
use Rattle.kern_mounts.proofs.Leaving.{remount_made}
use Rattle.kern_mounts.proofs.Mounts.{steps_append}
use Rattle.kern_mounts.proofs.Showing.{copied_entries, bind_made}
use Rattle.kern_mounts.proofs.Unmounting.{removes}
use Rattle.kernel_model.specs.kern_files.Bits.{has_some}
use Rattle.kernel_model.specs.kern_files.MountCall.{ms_rec, flags_of, after_mount}
use Rattle.kernel_model.specs.kern_files.UmountCall.{umount_answer, mnt_detach}
use Rattle.kernel_model.specs.Worlds.{AreRooted, IsRooted}
use Rattle.kernel_model.specs.MountStep.{with_step}
use Rattle.kernel_model.proofs.Lists.{each-append, each-front, each-back, each-filter}
use Rattle.kernel_model.proofs.MountsCall.{Does, binds, empties, remounts, mount_does, umount_does}

-- the entry is not at the root
abbrev Lower : MountStep → Type 0
Lower entry = is_root entry.place ≡ false

pub rooted_push : (table more : Table) → AreRooted table → AllByRecursion Lower more → AreRooted (table ++ more)
rooted_push [] more h low = absurd h
rooted_push (first ∷ table) more h low = (h.0, each-append Lower table more h.1 low)

rooted_flags : (earlier : Table) (entry : MountStep) (later : Table) (flags : Flags) → AreRooted (earlier ++ entry ∷ later)
    → AreRooted (earlier ++ record entry { flags = flags } ∷ later)
rooted_flags [] entry later flags h = h
rooted_flags (first ∷ earlier) entry later flags h =
    let rest = each-back Lower earlier (entry ∷ later) h.1 in
    (h.0, each-append Lower earlier (record entry { flags = flags } ∷ later) (each-front Lower earlier (entry ∷ later) h.1) rest)

rooted_remount : (mounts next : Mounts) (place : Path) (flags : Flags) → IsRooted mounts → after_remount mounts place flags ≡ Ok next
    → IsRooted next
rooted_remount mounts next place flags h e =
    let r = remount_made mounts next place flags e in
    subst AreRooted (sym r.made) (rooted_flags r.split.earlier r.split.entry r.split.later flags (subst AreRooted r.is.whole h))

root_not : (path : Path) → is_root path ≡ false → path ≡ [] → ⊥
root_not [] low e = cc
root_not (part ∷ path) low e = cc

rooted_removal : (path : Path) (earlier : Table) (entry : MountStep) (later : Table) (p : MountStep → Bool) → is_root path ≡ false
    → path ≡ entry.place → AreRooted (earlier ++ entry ∷ later) → AreRooted (earlier ++ filter p later)
rooted_removal path [] entry later p low is h = absurd (root_not path low (is ∙ h.0))
rooted_removal path (first ∷ earlier) entry later p low is h =
    (h.0, each-append Lower earlier (filter p later) (each-front Lower earlier (entry ∷ later) h.1) (each-filter Lower p later (each-back Lower earlier (entry ∷ later) h.1).1))

rooted_umount : (mounts next : Mounts) (path : Path) (detach : Bool) → IsRooted mounts → after_umount mounts path detach ≡ Ok next
    → IsRooted next
rooted_umount mounts next path detach h e =
    let r = removes path detach mounts next e in
    subst AreRooted (sym r.next_is)
    (rooted_removal path r.earlier r.entry r.later (λ other. not (is_below path other)) r.below_root r.place
    (subst AreRooted r.whole h))

low_behind : (target rest : Path) → is_root target ≡ false → is_root (target ++ rest) ≡ false
low_behind [] rest low = cc
low_behind (part ∷ target) rest low = refl

low_moved : (source target : Path) (table : Table) → is_root target ≡ false → AllByRecursion Lower (map (moved source target) table)
low_moved source target [] low = tt
low_moved source target (entry ∷ table) low = (low_behind target (rest_of source entry.place) low, low_moved source target table low)

low_copies : (recursive : Bool) (source target : Path) (later : Table) → is_root target ≡ false
    → AllByRecursion Lower (copied_entries recursive source target later)
low_copies false source target later low = tt
low_copies true source target later low = low_moved source target (filter (is_below source) later) low

rooted_bind : (mounts next : Mounts) (source target : Path) (recursive : Bool) → IsRooted mounts → is_root target ≡ false
    → after_bind mounts source target recursive ≡ Ok next → IsRooted next
rooted_bind mounts next source target recursive h low e =
    let b = bind_made mounts next source target recursive e in
    subst AreRooted (sym b.made)
    (rooted_push (steps_of mounts) (bound_entry source target b.split.entry ∷ copied_entries recursive source target b.split.later) h
    (low, low_copies recursive source target b.split.later low))

rooted_pushed : (mounts next : Mounts) (step : MountStep) → IsRooted mounts → is_root step.place ≡ false → after_push mounts step ≡ Ok next
    → IsRooted next
rooted_pushed mounts next step h low e = subst IsRooted (grown_is mounts (plain step ∷ []) next e)
    (subst AreRooted (sym (steps_append mounts (plain step ∷ []))) (rooted_push (steps_of mounts) (step ∷ []) h (low, tt)))

-- ---- calls
pub rooted_mount : (rows : Path → Option Row) (mounts next : Mounts) (source target : Path) (flags : ℕ) → IsRooted mounts
    → after_mount rows mounts source target flags ≡ Ok next → IsRooted next
rooted_mount rows mounts next source target flags h e = by (mount_does rows mounts next source target flags e)
  where
    by : Does mounts next source target flags → IsRooted next
    by (binds low f) = rooted_bind mounts next source target (has_some ms_rec flags) h low f
    by (empties low f) = rooted_pushed mounts next (record { place = target; what = Empty; flags = flags_of flags }) h low f
    by (remounts f) = rooted_remount mounts next target (flags_of flags) h f

pub rooted_umount_call : (mounts next : Mounts) (path : Path) (flags : ℕ) → IsRooted mounts
    → umount_answer mounts path flags ≡ Ok next → IsRooted next
rooted_umount_call mounts next path flags h e = rooted_umount mounts next path (flags == mnt_detach) h
    (umount_does mounts next path flags e)

-- a mount step keeps it too
pub rooted_step : (mounts : Mounts) (step : MountStep) → IsRooted mounts → IsRooted (with_step mounts step)
rooted_step mounts step h = by (is_root step.place) refl
  where
    first : (mounts : Mounts) → IsRooted mounts → IsRooted (with_root_flags step.flags mounts)
    first [] h = h
    first (mount ∷ mounts) h = h

    by : (b : Bool) → is_root step.place ≡ b → IsRooted (cond b (with_root_flags step.flags mounts) (mounts ++ plain step ∷ []))
    by true low = first mounts h
    by false low = subst AreRooted (sym (steps_append mounts (plain step ∷ []))) (rooted_push (steps_of mounts) (step ∷ []) h (low, tt))
