-- What the rules of credentials answer to a launcher that has every capability.
use Rattle.std.proofs.Common.{◌≡◌, ℕ, Bool, true, false, cond, List, Result, Ok, Err, refl, ap, ◌∙◌, sym, subst, length, arith, eqb}
use Rattle.std.specs.Prelude.{◌&&◌, ◌||◌, not, nat_lt, nat_le, ◌<◌, ◌≤◌}
use Rattle.std.proofs.lemmas.Bool.{eqb-true}
use Rattle.std.proofs.lemmas.Bool.Decides.{nat_tests}
use Rattle.launcher.specs.cap_sets.Sets.{has, all, single, union, minus, within, IsWithin}
use Rattle.launcher.proofs.OfCapSets.Members.{has_all, has_minus, has_single, none_within, within_self, within-from_IsWithin}
use Rattle.launcher.specs.kern_creds.declared.creds.Creds.{Creds}
use Rattle.launcher.specs.kern_creds.Ids.{kept_ids, may_take_all}
use Rattle.launcher.specs.kern_creds.RootChange.{with_uids}
use Rattle.launcher.specs.kern_creds.Setresuid.{after_setresuid, after_setresgid}
use Rattle.launcher.specs.kern_creds.Setgroups.{after_setgroups}
use Rattle.launcher.specs.kern_creds.Capset.{after_capset, may_capset, with_sets}
use Rattle.launcher.specs.kern_creds.Prctl.{after_drop_bounding, after_raise}
use Rattle.launcher.specs.kern_creds.Exec.{is_privileged, is_refused, exec_done, after_exec}
use Rattle.launcher.specs.kern_creds.declared.file.FileCreds.{FileCreds}
use Rattle.launcher.proofs.LaunchCreds.{unmarked}
use Rattle.launcher.proofs.Leading.{clash}

pub full : (set cap : ℕ) → set ≡ all → nat_le cap 40 ≡ true → has set cap ≡ true
full set cap is known = ap (λ s. has s cap) is ∙ has_all cap ∙ known

pub groups_granted : (creds : Creds) (ids : List ℕ) → creds.effective ≡ all → length ids ≤ 65536
    → after_setgroups creds ids ≡ Ok (record creds { groups = ids })
groups_granted creds ids is few =
    let over : nat_lt 65536 (length ids) ≡ false = grind (arith, nat_tests) in
    rw (full creds.effective 6 is refl, over) refl

pub gids_granted : (creds : Creds) (gid : ℕ) → creds.effective ≡ all
    → after_setresgid creds gid gid gid ≡ Ok (record creds { gids = kept_ids creds.gids gid gid gid })
gids_granted creds gid is = rw (full creds.effective 6 is refl) refl

pub uids_granted : (creds : Creds) (uid : ℕ) → creds.effective ≡ all
    → after_setresuid creds uid uid uid ≡ Ok (with_uids creds (kept_ids creds.uids uid uid uid))
uids_granted creds uid is =
    ap (λ b. cond {A = Result Creds ℕ} (b || may_take_all creds.uids uid uid uid) (Ok (with_uids creds (kept_ids creds.uids uid uid uid)))
    (Err 1)) (full creds.effective 7 is refl)

pub drop_granted : (creds : Creds) (cap : ℕ) → creds.effective ≡ all → cap < 41
    → after_drop_bounding creds cap ≡ Ok (record creds { bounding = minus creds.bounding (single cap) })
drop_granted creds cap is known =
    let over : nat_lt 40 cap ≡ false = grind (arith, nat_tests) in
    rw (over, full creds.effective 8 is refl) refl

-- what is not in a set is not missed by it
pub still_within : (set bounding cap : ℕ) → has set cap ≡ false → IsWithin set bounding → IsWithin set (minus bounding (single cap))
still_within set bounding cap lacks h = record {
  each = λ k own. has_minus bounding (single cap) k ∙ ap (λ b. b && not (has (single cap) k)) (h.each k own)
      ∙ ap (λ b. not b) (other k own);
}
  where
    other : (k : ℕ) → has set k ≡ true → has (single cap) k ≡ false
    other k own = has_single cap k ∙ differ (eqb k cap) refl
      where
        differ : (b : Bool) → eqb k cap ≡ b → b ≡ false
        differ true is = let same : k ≡ cap = eqb-true k cap is in absurd (clash (has set cap) (ap (has set) (sym same) ∙ own) lacks)
        differ false is = refl

-- sets within those that are permitted, and an inheritable set within the bounding one
pub sets_granted : (creds : Creds) (set amb : ℕ) → IsWithin set creds.permitted → IsWithin amb (union creds.inheritable creds.bounding)
    → (has creds.effective 8 || within amb (union creds.inheritable creds.permitted)) ≡ true
    → after_capset creds set set amb ≡ Ok (with_sets creds set set amb)
sets_granted creds set amb permitted inherited known =
    ap (λ b. cond {A = Result Creds ℕ} b (Ok (with_sets creds set set amb)) (Err 1)) may
  where
    may : may_capset creds set set amb ≡ true
    may = rw (within-from_IsWithin set creds.permitted permitted, within-from_IsWithin set set (within_self set), within-from_IsWithin amb (union creds.inheritable creds.bounding) inherited, known) refl

pub raise_granted : (creds : Creds) (cap : ℕ) → cap < 41 → has creds.permitted cap ≡ true → has creds.inheritable cap ≡ true
    → after_raise creds cap ≡ Ok (record creds { ambient = union creds.ambient (single cap) })
raise_granted creds cap known permitted inheritable =
    let over : nat_lt 40 cap ≡ false = grind (arith, nat_tests) in
    rw (over, permitted, inheritable) refl

and_false : (b : Bool) → (b && false) ≡ false
and_false true = refl
and_false false = refl

-- a file without capabilities has none that the bounding set withholds
pub exec_granted : (creds : Creds) (file : FileCreds) (nosuid : Bool) → is_privileged file ≡ false
    → after_exec creds file nosuid ≡ Ok (exec_done creds file nosuid)
exec_granted creds file nosuid plain =
    ap (λ b. cond {A = Result Creds ℕ} b (Err 1) (Ok (exec_done creds file nosuid))) allowed
  where
    allowed : is_refused creds file nosuid ≡ false
    allowed =
        let marks = unmarked file plain in
        let inside : within file.caps creds.bounding ≡ true = within-from_IsWithin file.caps creds.bounding (subst (λ s. IsWithin s creds.bounding) (sym marks.caps) (none_within creds.bounding)) in
        ap (λ b. (not nosuid && file.effective) && not b) inside ∙ and_false (not nosuid && file.effective)
