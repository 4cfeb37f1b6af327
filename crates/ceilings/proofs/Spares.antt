-- The power over mount tables: CAP_SYS_ADMIN that is had at it gives no more; and where not every uid can be taken, it is the
-- power that is had without a use of CAP_SETUID.
use Rattle.std.proofs.Common.{◌≡◌, ℕ, Bool, true, false, refl, cond, ap, ◌∙◌, sym}
use Rattle.std.specs.Prelude.{◌==◌, not, ◌&&◌, ◌||◌}
use Rattle.std.specs.List.{list_any}
use Rattle.std.proofs.lemmas.Bool.{and_from}
use Rattle.kernel_ways.specs.linux_numbers.Capabilities.{cap_sys_admin, cap_setuid}
use Rattle.kernel_ways.specs.cap_sets.Sets.{has, union}
use Rattle.kernel_ways.proofs.OfCapSets.Members.{within_union_left, within_self}
use Rattle.kernel_ways.specs.kernel_laws.Bound.{when, caps_before, caps_at, power_by, power_of, any_uid, any_gid, owned_by, ceiling}
use Rattle.kernel_ways.specs.kernel_laws.declared.question_types.kind.CallKind.TheVariants.{ChangesMounts, RemovesMounts, TakesUid}
use Rattle.kernel_ways.specs.kernel_laws.declared.question_types.power.Power.{Power}
use Rattle.kernel_ways.specs.kernel_laws.declared.question_types.power.Power.TheVariants.{None as Nowise}
use Rattle.kernel_ways.specs.kernel_laws.Launched.{Launch, lets}
use Rattle.kernel_ways.specs.Spared.{power_using, uids_of, gids_of}
use Rattle.ceilings.proofs.Growing.{caps_grow}

module _ (launch : Launch) where
  abbrev admin : Power → Bool
  admin power = has (caps_at launch power) cap_sys_admin

  more : admin Nowise ≡ true → admin (power_of launch) ≡ true
  more e = (caps_grow launch (power_of launch) (lets launch TakesUid)).each cap_sys_admin e

  by_admin : (b : Bool) → admin Nowise ≡ b → power_of launch
      ≡ power_by (admin (power_of launch)) (lets launch ChangesMounts) (lets launch RemovesMounts)
  by_admin true e = ap (λ b. power_by b (lets launch ChangesMounts) (lets launch RemovesMounts)) (e ∙ sym (more e))
  by_admin false e =
      let nowise : power_of launch ≡ Nowise = ap (λ b. power_by b (lets launch ChangesMounts) (lets launch RemovesMounts)) e in
      ap (λ b. power_by b (lets launch ChangesMounts) (lets launch RemovesMounts)) (sym (ap admin nowise))

  pub power_once : power_of launch ≡ power_by (has (caps_at launch (power_of launch)) cap_sys_admin) (lets launch ChangesMounts)
      (lets launch RemovesMounts)
  power_once = by_admin (admin Nowise) refl

  -- CAP_SETUID that files give on the launched table is had in the end
  setuid_stays : launch.creds.no_new_privs ≡ false → has (caps_before launch Nowise) cap_setuid ≡ true
      → has (caps_at launch (power_of launch)) cap_setuid ≡ true
  setuid_stays n e = (caps_grow launch (power_of launch) (lets launch TakesUid)).each cap_setuid (by launch.creds.no_new_privs n)
    where
      by : (b : Bool) → b ≡ false
          → has (cond b launch.creds.effective
          (union (caps_before launch Nowise)
          (when (has (caps_before launch Nowise) cap_setuid && lets launch TakesUid) launch.creds.bounding))) cap_setuid ≡ true
      by true n = cc
      by false n = (within_union_left _ _ _ (within_self (caps_before launch Nowise))).each cap_setuid e

  abbrev before : ℕ
  before = caps_before launch Nowise

  -- so a use of it adds nothing where not every uid can be taken
  pub power_spared : any_uid launch (caps_at launch (power_of launch)) ≡ false → power_using launch false ≡ power_of launch
  power_spared off = ap (λ caps. power_by (has caps cap_sys_admin) (lets launch ChangesMounts) (lets launch RemovesMounts))
      (by launch.creds.no_new_privs refl)
    where
      by_use : launch.creds.no_new_privs ≡ false → (x y : Bool) → has before cap_setuid ≡ x → lets launch TakesUid ≡ y
          → when (x && false) launch.creds.bounding ≡ when (x && y) launch.creds.bounding
      by_use n true true e f = let on = and_from (has (caps_at launch (power_of launch)) cap_setuid) (lets launch TakesUid) (setuid_stays n e) f in let both : true ≡ false = sym on ∙ off in cc
      by_use n true false e f = refl
      by_use n false y e f = refl

      by : (b : Bool) → launch.creds.no_new_privs ≡ b → cond b launch.creds.effective
          (union before (when (has before cap_setuid && false) launch.creds.bounding))
          ≡ cond b launch.creds.effective (union before (when (has before cap_setuid && lets launch TakesUid) launch.creds.bounding))
      by true n = refl
      by false n = ap (union before) (by_use n (has before cap_setuid) (lets launch TakesUid) refl refl)

  abbrev uid_by : ℕ → Power → Bool
  uid_by id power = id == launch.creds.uids.effective ||
      (not launch.creds.no_new_privs && list_any (owned_by launch power id) launch.site.rows)

  -- the uids of the bounds are those that are had without a use of CAP_SETUID, where not every uid can be taken
  pub uid_either : (id : ℕ) → (ceiling launch).uid id ≡ (any_uid launch (caps_at launch (power_of launch)) || uids_of launch id)
  uid_either id = by (any_uid launch (caps_at launch (power_of launch))) refl
    where
      by : (b : Bool) → any_uid launch (caps_at launch (power_of launch)) ≡ b
          → (b || uid_by id (power_of launch)) ≡ (b || uid_by id (power_using launch false))
      by true e = refl
      by false e = ap (uid_by id) (sym (power_spared e))

  pub gid_either : (id : ℕ) → (ceiling launch).gid id ≡ (any_gid launch (caps_at launch (power_of launch)) || gids_of launch id)
  gid_either id = refl
