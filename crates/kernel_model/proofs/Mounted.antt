-- The errors of mount(2) in their order.
use Rattle.std.proofs.Common.{◌≡◌, ℕ, [], ◌∷◌, ◌∙◌, Bool, true, false, cond, Option, Result, Ok, Err, refl, sym, ap, arith}
use Rattle.std.specs.Prelude.{◌==◌, not}
use Rattle.std.specs.Int.RustNames.{bit_and}
use Rattle.std.proofs.lemmas.Bool.Decides.{nat_tests}
use Rattle.std.proofs.lemmas.Nat.{and_assoc}
use Rattle.site_table.specs.abs_path.Paths.{Path, is_root}
use Rattle.kern_mounts.specs.linux_numbers.Errnos.{eacces, ebusy, einval, enotdir}
use Rattle.site_table.specs.declared.row.Row.{Row}
use Rattle.kern_mounts.specs.Finds.{finds}
use Rattle.kern_mounts.specs.Push.{after_push}
use Rattle.kern_mounts.specs.Remount.{after_remount}
use Rattle.kern_mounts.specs.Mounts.{Mounts, steps_of}
use Rattle.kern_mounts.specs.declared.step.What.TheVariants.{Empty}
use Rattle.kernel_model.specs.kern_files.Bits.{has_some, has_all}
use Rattle.kernel_model.specs.kern_files.MountCall.{ms_bind, ms_rec, ms_remount, ms_remount_bind, has_other_kind, flags_of, kind_found}
use Rattle.kernel_model.specs.kern_files.MountCall.{target_kind, bind_found, mount_onto, after_mount}
use Rattle.kernel_model.specs.kern_files.There.{IsHidden}
use Rattle.kernel_model.proofs.Seeing.{hidden_is_refused}

-- the tests that come before the target is looked at
abbrev asked : Bool → Bool → Bool → Bool → Result Mounts ℕ → Result Mounts ℕ → Result Mounts ℕ
asked other single remount root remounted mounted = cond other (Err einval)
    (cond single remounted (cond remount (Err einval) (cond root (Err ebusy) mounted)))

not_root : (path : Path) → (path ≡ [] → ⊥) → is_root path ≡ false
not_root [] h = absurd (h refl)
not_root (part ∷ path) h = refl

pub other_kinds_first : (rows : Path → Option Row) (mounts : Mounts) (source target : Path) (flags : ℕ) → has_other_kind flags ≡ true
    → after_mount rows mounts source target flags ≡ Err einval
other_kinds_first rows mounts source target flags other =
    ap (λ b. asked b (has_all ms_remount_bind flags) (has_some ms_remount flags) (is_root target)
    (after_remount mounts target (flags_of flags)) (mount_onto rows mounts source target flags (target_kind rows (steps_of mounts) target))) other

pub single_alone : (rows : Path → Option Row) (mounts : Mounts) (source target : Path) (flags : ℕ) → has_some ms_remount flags ≡ true
    → has_all ms_remount_bind flags ≡ false → after_mount rows mounts source target flags ≡ Err einval
single_alone rows mounts source target flags remount single =
    ap (λ b. asked (has_other_kind flags) b (has_some ms_remount flags) (is_root target) (after_remount mounts target (flags_of flags))
    (mount_onto rows mounts source target flags (target_kind rows (steps_of mounts) target))) single
    ∙ ap (λ b. asked (has_other_kind flags) false b (is_root target) (after_remount mounts target (flags_of flags))
    (mount_onto rows mounts source target flags (target_kind rows (steps_of mounts) target))) remount
    ∙ either (has_other_kind flags)
  where
    either : (b : Bool) → ◌≡◌ {A = Result Mounts ℕ} (cond b (Err einval) (Err einval)) (Err einval)
    either true = refl
    either false = refl

-- without MS_REMOUNT it is not MS_REMOUNT and MS_BIND
not_single : (flags : ℕ) → has_some ms_remount flags ≡ false → has_all ms_remount_bind flags ≡ false
not_single flags alone = by (has_all ms_remount_bind flags) refl
  where
    all : (n : ℕ) → (n == ms_remount_bind) ≡ true → n ≡ ms_remount_bind
    all n h = grind (arith, nat_tests)

    none : (n : ℕ) → not (n == 0) ≡ false → n ≡ 0
    none n h = grind (arith, nat_tests)

    by : (b : Bool) → has_all ms_remount_bind flags ≡ b → b ≡ false
    by false e = refl
    by true e =
        let one : bit_and (bit_and flags ms_remount_bind) ms_remount ≡ bit_and flags ms_remount = and_assoc ms_remount flags ms_remount_bind in
        let on : ms_remount ≡ bit_and flags ms_remount = ap (λ n. bit_and n ms_remount) (sym (all (bit_and flags ms_remount_bind) e)) ∙ one in
        let off : bit_and flags ms_remount ≡ 0 = none (bit_and flags ms_remount) alone in
        absurd (omega (arith, on, off))

-- past the flags, the root and the target
past_flags : (rows : Path → Option Row) (mounts : Mounts) (source target : Path) (flags : ℕ) → has_other_kind flags ≡ false
    → has_some ms_remount flags ≡ false →
    after_mount rows mounts source target flags ≡ cond (is_root target) (Err ebusy)
    (mount_onto rows mounts source target flags (target_kind rows (steps_of mounts) target))
past_flags rows mounts source target flags other remount =
    ap (λ b. asked b (has_all ms_remount_bind flags) (has_some ms_remount flags) (is_root target)
    (after_remount mounts target (flags_of flags)) (mount_onto rows mounts source target flags (target_kind rows (steps_of mounts) target))) other
    ∙ ap (λ b. asked false b (has_some ms_remount flags) (is_root target) (after_remount mounts target (flags_of flags))
    (mount_onto rows mounts source target flags (target_kind rows (steps_of mounts) target))) (not_single flags remount)
    ∙ ap (λ b. asked false false b (is_root target) (after_remount mounts target (flags_of flags))
    (mount_onto rows mounts source target flags (target_kind rows (steps_of mounts) target))) remount

past_target : (rows : Path → Option Row) (mounts : Mounts) (source target : Path) (flags : ℕ) (directory : Bool)
    → has_other_kind flags ≡ false → has_some ms_remount flags ≡ false →
    (target ≡ [] → ⊥) → target_kind rows (steps_of mounts) target ≡ Ok directory
    → after_mount rows mounts source target flags ≡ mount_onto rows mounts source target flags (Ok directory)
past_target rows mounts source target flags directory other remount below kind =
    past_flags rows mounts source target flags other remount
    ∙ ap (λ b. cond b (Err ebusy) (mount_onto rows mounts source target flags (target_kind rows (steps_of mounts) target))) (not_root target below)
    ∙ ap (mount_onto rows mounts source target flags) kind

pub root_is_busy : (rows : Path → Option Row) (mounts : Mounts) (source : Path) (flags : ℕ) → has_other_kind flags ≡ false
    → has_some ms_remount flags ≡ false → after_mount rows mounts source [] flags ≡ Err ebusy
root_is_busy rows mounts source flags other remount = past_flags rows mounts source [] flags other remount

abbrev added : Bool → Bool → Result Mounts ℕ → Result Mounts ℕ → Result Mounts ℕ
added bind directory bound pushed = cond bind bound (cond (not directory) (Err enotdir) pushed)

pub no_file_system_on_a_file : (rows : Path → Option Row) (mounts : Mounts) (source target : Path) (flags : ℕ)
    → has_other_kind flags ≡ false → has_some ms_remount flags ≡ false →
    has_some ms_bind flags ≡ false → (target ≡ [] → ⊥) → target_kind rows (steps_of mounts) target ≡ Ok false
    → after_mount rows mounts source target flags ≡ Err enotdir
no_file_system_on_a_file rows mounts source target flags other remount bind below kind =
    past_target rows mounts source target flags false other remount below kind
    ∙ ap (λ b. added b false (bind_found mounts source target (has_some ms_rec flags) false (kind_found (finds rows (steps_of mounts) source)))
    (Err enotdir)) bind

pub hidden_is_not_bound : (rows : Path → Option Row) (mounts : Mounts) (source target : Path) (flags : ℕ) (directory : Bool)
    → IsHidden (steps_of mounts) source → has_other_kind flags ≡ false → has_some ms_remount flags ≡ false →
    has_some ms_bind flags ≡ true → (target ≡ [] → ⊥) → target_kind rows (steps_of mounts) target ≡ Ok directory
    → after_mount rows mounts source target flags ≡ Err eacces
hidden_is_not_bound rows mounts source target flags directory hidden other remount bind below kind =
    past_target rows mounts source target flags directory other remount below kind
    ∙ is_bind (has_some ms_bind flags) (after_push mounts (record { place = target; what = Empty; flags = flags_of flags })) bind
  where
    bound : bind_found mounts source target (has_some ms_rec flags) directory (kind_found (finds rows (steps_of mounts) source)) ≡ Err eacces
    bound = ap (λ found. bind_found mounts source target (has_some ms_rec flags) directory (kind_found found))
        (hidden_is_refused rows (steps_of mounts) source hidden)

    is_bind : (b : Bool) (pushed : Result Mounts ℕ) → b ≡ true
        → added b directory (bind_found mounts source target (has_some ms_rec flags) directory (kind_found (finds rows (steps_of mounts) source)))
        pushed ≡ Err eacces
    is_bind true pushed e = bound
    is_bind false pushed e = absurd (cc)
