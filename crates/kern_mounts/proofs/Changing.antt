-- What remount and umount2 make of mounts, by the number of the mount that the path belongs to.
use Rattle.std.proofs.Common.{◌≡◌, ℕ, ◌+◌, ◌++◌, ◌∷◌, [], Bool, true, false, filter, get_or, take, drop, set, Some, Ok, Err, refl, sym, ap}
use Rattle.std.proofs.Common.{◌∙◌}
use Rattle.std.specs.Prelude.{not, ◌&&◌}
use Rattle.std.specs.List.{list_any}
use Rattle.abs_path.specs.Paths.{Path, is_root}
use Rattle.linux_numbers.specs.Errnos.{ebusy, einval, eperm}
use Rattle.kern_mounts.specs.declared.step.Flags.{Flags}
use Rattle.kern_mounts.specs.declared.step.Mount.{Mount}
use Rattle.kern_mounts.specs.Entry.{Belongs}
use Rattle.kern_mounts.specs.Table.{StartsAtRoot}
use Rattle.kern_mounts.specs.Keeping.{lacks}
use Rattle.kern_mounts.specs.Mounts.{Mounts, steps_of, stands_at, stands_below}
use Rattle.kern_mounts.specs.Umount.{unmounted, after_umount}
use Rattle.kern_mounts.specs.Remount.{with_flags, with_root_flags, remounted, after_remount}
use Rattle.kern_mounts.proofs.Splits.{about}
use Rattle.kern_mounts.proofs.Mounts.{in_range, mount_by_number}
use Rattle.kern_mounts.proofs.Writing.{written}

-- the mount of this number, in the list that stands for the mounts
pub record Stands (mounts items : Mounts) (path : Path) (at : ℕ) (mount : Mount) : Type 0 where
  pub view : items ≡ mounts
  pub belongs : Belongs (steps_of mounts) path at
  pub entry_is : mount ≡ get_or items at mount

mount_stands : (mounts items : Mounts) (path : Path) (at : ℕ) (mount : Mount) → Stands mounts items path at mount
    → mount ≡ get_or mounts at mount
mount_stands mounts items path at mount h = h.entry_is ∙ ap (λ (t : Mounts). get_or t at mount) h.view

remount_by : (mounts items : Mounts) (path : Path) (flags : Flags) (at : ℕ) (mount : Mount) → Stands mounts items path at mount
    → after_remount mounts path flags ≡ remounted path flags (Some (about mounts at mount))
remount_by mounts items path flags at mount h = ap (remounted path flags)
    (mount_by_number mounts path at mount h.belongs (mount_stands mounts items path at mount h))

pub remount_refused : (mounts items : Mounts) (path : Path) (flags : Flags) (at : ℕ) (mount : Mount) → Stands mounts items path at mount
    → stands_at path mount ≡ false → after_remount mounts path flags ≡ Err einval
remount_refused mounts items path flags at mount h other = remount_by mounts items path flags at mount h ∙ rw other refl

pub remount_kept : (mounts items : Mounts) (path : Path) (flags : Flags) (at : ℕ) (mount : Mount) → Stands mounts items path at mount
    → stands_at path mount ≡ true → lacks mount.kept flags ≡ true → after_remount mounts path flags ≡ Err eperm
remount_kept mounts items path flags at mount h own kept = remount_by mounts items path flags at mount h ∙ rw (own, kept) refl

pub remount_done : (mounts items : Mounts) (path : Path) (flags : Flags) (at : ℕ) (mount : Mount) → Stands mounts items path at mount
    → stands_at path mount ≡ true → lacks mount.kept flags ≡ false →
    after_remount mounts path flags ≡ Ok (set items at (with_flags mount flags))
remount_done mounts items path flags at mount h own free =
    remount_by mounts items path flags at mount h ∙ rw (own, free) refl
    ∙ ap Ok (sym (written mounts at (with_flags mount flags) (in_range mounts path at h.belongs)))
    ∙ ap (λ (t : Mounts). Ok (set t at (with_flags mount flags))) (sym h.view)

umount_by : (mounts items : Mounts) (path : Path) (detach : Bool) (at : ℕ) (mount : Mount) → Stands mounts items path at mount
    → is_root path ≡ false → after_umount mounts path detach ≡ unmounted path detach (Some (about mounts at mount))
umount_by mounts items path detach at mount h below = rw below
    (ap (unmounted path detach) (mount_by_number mounts path at mount h.belongs (mount_stands mounts items path at mount h)))

pub umount_elsewhere : (mounts items : Mounts) (path : Path) (detach : Bool) (at : ℕ) (mount : Mount) → Stands mounts items path at mount
    → is_root path ≡ false → stands_at path mount ≡ false → after_umount mounts path detach ≡ Err einval
umount_elsewhere mounts items path detach at mount h below other = umount_by mounts items path detach at mount h below ∙ rw other refl

pub umount_locked : (mounts items : Mounts) (path : Path) (detach : Bool) (at : ℕ) (mount : Mount) → Stands mounts items path at mount
    → is_root path ≡ false → stands_at path mount ≡ true → mount.locked ≡ true → after_umount mounts path detach ≡ Err einval
umount_locked mounts items path detach at mount h below own lock = umount_by mounts items path detach at mount h below ∙ rw (own, lock) refl

pub umount_busy : (mounts items : Mounts) (path : Path) (at : ℕ) (mount : Mount) → Stands mounts items path at mount
    → is_root path ≡ false → stands_at path mount ≡ true → mount.locked ≡ false →
    list_any (stands_below path) (drop (at + 1) items) ≡ true → after_umount mounts path false ≡ Err ebusy
umount_busy mounts items path at mount h below own free some =
    let there : list_any (stands_below path) (drop (at + 1) mounts) ≡ true = ap (λ (t : Mounts). list_any (stands_below path) (drop (at + 1) t)) (sym h.view) ∙ some in
    umount_by mounts items path false at mount h below ∙ rw (own, free, there) refl

pub umount_done : (mounts items : Mounts) (path : Path) (detach : Bool) (at : ℕ) (mount : Mount) → Stands mounts items path at mount
    → is_root path ≡ false → stands_at path mount ≡ true → mount.locked ≡ false →
    (not detach && list_any (stands_below path) (drop (at + 1) items)) ≡ false
    → after_umount mounts path detach
    ≡ Ok (take at items ++ filter (λ other. not (stands_below path other)) (drop (at + 1) items))
umount_done mounts items path detach at mount h below own free none =
    let none_there : (not detach && list_any (stands_below path) (drop (at + 1) mounts)) ≡ false = ap (λ (t : Mounts). not detach && list_any (stands_below path) (drop (at + 1) t)) (sym h.view) ∙ none in
    umount_by mounts items path detach at mount h below ∙ rw (own, free, none_there) refl
    ∙ ap (λ (t : Mounts). Ok (take at t ++ filter (λ other. not (stands_below path other)) (drop (at + 1) t))) (sym h.view)

-- ---- the first mount
pub root_set : (mounts : Mounts) (mount : Mount) (flags : Flags) → StartsAtRoot (steps_of mounts) → mount ≡ get_or mounts 0 mount
    → set mounts 0 (with_flags mount flags) ≡ with_root_flags flags mounts
root_set [] mount flags h e = absurd h
root_set (first ∷ mounts) mount flags h e = ap (λ (m : Mount). with_flags m flags ∷ mounts) e
