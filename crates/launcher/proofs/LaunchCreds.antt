-- The credentials of a launch, step by step.
use Rattle.std.proofs.Common.{◌≡◌, ℕ, Bool, true, false, cond, List, Option, Some, None, Result, Ok, Err, refl, ap, ◌∙◌, sym, subst, arith}
use Rattle.std.proofs.Common.{rules, eqb}
use Rattle.std.specs.Prelude.{◌&&◌, ◌||◌, not, nat_lt}
use Rattle.std.proofs.lemmas.Bool.{and_from, and_parts, not-false, eqb-true}
use Rattle.std.proofs.lemmas.Bool.Decides.{nat_tests}
use Rattle.exec_settings.specs.cap_sets.Sets.{has, none, all, single, union, cut, minus, within, IsWithin}
use Rattle.exec_settings.proofs.OfCapSets.Members.{has_minus, has_single, within_self, within_both, none_within, within_through, cut_within_left}
use Rattle.exec_settings.proofs.OfCapSets.Members.{cut_within_right, within_cut, union_within, within_union_left, within_union_right}
use Rattle.exec_settings.proofs.OfCapSets.Members.{minus_within, single_within, IsWithin-from_within}
use Rattle.kernel_laws.specs.kern_creds.declared.creds.Creds.{Creds}
use Rattle.kernel_laws.specs.kern_creds.declared.ids.Ids.{Ids}
use Rattle.kernel_laws.specs.kern_creds.declared.file.FileCreds.{FileCreds}
use Rattle.kernel_laws.specs.linux_numbers.Limits.{no_id}
use Rattle.kernel_laws.specs.kern_creds.Ids.{all_of, kept_id, kept_ids, may_take_all}
use Rattle.kernel_laws.specs.kern_creds.Start as creds
use Rattle.kernel_laws.specs.kern_creds.RootChange.{has_root, with_uids, after_switch, after_leaving_root}
use Rattle.kernel_laws.specs.kern_creds.Setresuid.{after_setresuid, after_setresgid}
use Rattle.kernel_laws.specs.kern_creds.Setgroups.{after_setgroups}
use Rattle.kernel_laws.specs.kern_creds.Capset.{after_capset, may_capset, with_sets}
use Rattle.kernel_laws.specs.kern_creds.Prctl.{after_drop_bounding, after_raise, after_set_keepcaps, after_set_no_new_privs, after_set_mdwe}
use Rattle.launcher.specs.Launches.{IsLaunchedCreds}
use Rattle.kernel_laws.specs.kern_creds.Exec.{is_privileged, is_set_id, owner_or, exec_ids, exec_uids, exec_ambient, exec_gains}
use Rattle.kernel_laws.specs.kern_creds.Exec.{exec_permitted, exec_effective, exec_done, honours, runs_as_root, is_refused, after_exec}

-- the three gids are one
pub record AreOne (ids : Ids) : Type 0 where
  pub real : ids.real ≡ ids.effective
  pub saved : ids.saved ≡ ids.effective

-- a uid, and the sets permitted, effective and inheritable, with an ambient set and a bounding set that fit
pub record Has (uid p e i : ℕ) (creds : Creds) : Type 0 where
  pub uids : creds.uids ≡ all_of uid
  pub gids : AreOne creds.gids
  pub permitted : creds.permitted ≡ p
  pub effective : creds.effective ≡ e
  pub inheritable : creds.inheritable ≡ i
  pub ambient_inheritable : IsWithin creds.ambient i
  pub ambient_permitted : IsWithin creds.ambient p
  pub inheritable_bounding : IsWithin i creds.bounding
  pub bounding : IsWithin creds.bounding all

pub starts : Has 0 all all none creds.start
starts = record {
  uids = refl;
  gids = record { real = refl; saved = refl };
  permitted = refl;
  effective = refl;
  inheritable = refl;
  ambient_inheritable = none_within none;
  ambient_permitted = none_within all;
  inheritable_bounding = none_within all;
  bounding = within_self all;
}

ok_is : (one now : Creds) → ◌≡◌ {A = Result Creds ℕ} (Ok one) (Ok now) → one ≡ now
ok_is one now e = cc

-- what a rule with one refusal leaves
by_if : (R : Creds → Type 0) (b : Bool) (errno : ℕ) (answer : Result Creds ℕ) (now : Creds) → cond b (Err errno) answer ≡ Ok now
    → (answer ≡ Ok now → R now) → R now
by_if R true errno answer now e to = cc
by_if R false errno answer now e to = to e

by_unless : (R : Creds → Type 0) (b : Bool) (errno : ℕ) (one now : Creds) → cond b (Ok one) (Err errno) ≡ Ok now → (b ≡ true → R one)
    → R now
by_unless R true errno one now e to = subst R (ok_is one now e) (to refl)
by_unless R false errno one now e to = cc

pub set_groups : (uid p e i : ℕ) (ids : List ℕ) (creds now : Creds) → Has uid p e i creds → after_setgroups creds ids ≡ Ok now
    → Has uid p e i now
set_groups uid p e i ids creds now h is =
    by_if (Has uid p e i) (not (has creds.effective 6)) 1 _ now is λ is.
    by_if (Has uid p e i) (nat_lt 65536 _) 22 (Ok (record creds { groups = ids })) now is λ is.
    subst (Has uid p e i) (ok_is (record creds { groups = ids }) now is) (search rules)

kept_one : (ids : Ids) (id : ℕ) → AreOne ids → AreOne (kept_ids ids id id id)
kept_one ids id one = record { real = ap (λ n. kept_id n id) one.real; saved = ap (λ n. kept_id n id) one.saved }

pub set_gids : (uid p e i gid : ℕ) (creds now : Creds) → Has uid p e i creds → after_setresgid creds gid gid gid ≡ Ok now
    → Has uid p e i now
set_gids uid p e i gid creds now h is =
    by_unless (Has uid p e i) (has creds.effective 6 || may_take_all creds.gids gid gid gid) 1
    (record creds { gids = kept_ids creds.gids gid gid gid }) now is λ taken.
    let one = kept_one creds.gids gid h.gids in search rules

pub drops : (uid p e cap : ℕ) (creds now : Creds) → Has uid p e none creds → after_drop_bounding creds cap ≡ Ok now → Has uid p e none now
drops uid p e cap creds now h is =
    by_if (Has uid p e none) (nat_lt 40 cap) 22 _ now is λ is.
    by_if (Has uid p e none) (not (has creds.effective 8)) 1 (Ok (record creds { bounding = minus creds.bounding (single cap) })) now is
    λ is.
    subst (Has uid p e none) (ok_is (record creds { bounding = minus creds.bounding (single cap) }) now is) (record {
      uids = h.uids;
      gids = h.gids;
      permitted = h.permitted;
      effective = h.effective;
      inheritable = h.inheritable;
      ambient_inheritable = h.ambient_inheritable;
      ambient_permitted = h.ambient_permitted;
      inheritable_bounding = none_within _;
      bounding = minus_within creds.bounding (single cap) all h.bounding;
    })

none_or : (a b : ℕ) → a ≡ none → IsWithin (union a b) b
none_or a b e = union_within a b b (subst (λ n. IsWithin n b) (sym e) (none_within b)) (within_self b)

-- what was to be asked of a new inheritable set
inherits : (creds : Creds) (p e i : ℕ) → may_capset creds p e i ≡ true → IsWithin i (union creds.inheritable creds.bounding)
inherits creds p e i m =
    let parts = and_parts (within p creds.permitted && within e p) (within i (union creds.inheritable creds.bounding) && (has creds.effective 8 || within i (union creds.inheritable creds.permitted))) m in
    IsWithin-from_within i (union creds.inheritable creds.bounding)
    (and_parts (within i (union creds.inheritable creds.bounding))
    (has creds.effective 8 || within i (union creds.inheritable creds.permitted)) parts.1).0

-- the first capset
pub set_all : (uid p e amb : ℕ) (creds now : Creds) → Has uid p e none creds → after_capset creds all all amb ≡ Ok now
    → Has uid all all amb now
set_all uid p e amb creds now h is =
    by_unless (Has uid all all amb) (may_capset creds all all amb) 1 (with_sets creds all all amb) now is λ may.
    record {
      uids = h.uids;
      gids = h.gids;
      permitted = refl;
      effective = refl;
      inheritable = refl;
      ambient_inheritable = cut_within_right creds.ambient (cut all amb) amb (cut_within_right all amb amb (within_self amb));
      ambient_permitted = cut_within_right creds.ambient (cut all amb) all (cut_within_left all amb all (within_self all));
      inheritable_bounding = within_through amb (union creds.inheritable creds.bounding) creds.bounding (inherits creds all all amb may)
          (none_or creds.inheritable creds.bounding h.inheritable);
      bounding = h.bounding;
    }

pub keeps_caps : (uid p e i : ℕ) (creds now : Creds) → Has uid p e i creds
    → ◌≡◌ {A = Result Creds ℕ} (Ok (after_set_keepcaps creds true)) (Ok now) → Has uid p e i now × (now.keepcaps ≡ true)
keeps_caps uid p e i creds now h is =
    subst (λ (c : Creds). Has uid p e i c × (c.keepcaps ≡ true)) (ok_is (after_set_keepcaps creds true) now is) (search rules, refl)

-- a uid that is not 0, with keepcaps
taken_uids : (uid : ℕ) → eqb uid no_id ≡ false → kept_ids (all_of 0) uid uid uid ≡ all_of uid
taken_uids uid e = ap (λ b. record { real = cond b 0 uid; effective = cond b 0 uid; saved = cond b 0 uid }) e

pub set_uid : (uid p e i : ℕ) → eqb uid no_id ≡ false → eqb uid 0 ≡ false → (creds now : Creds)
    → Has 0 p e i creds × (creds.keepcaps ≡ true) → after_setresuid creds uid uid uid ≡ Ok now → Has uid p none i now
set_uid uid p e i id other creds now (h, keep) is =
    by_unless (Has uid p none i) (has creds.effective 7 || may_take_all creds.uids uid uid uid) 1
    (with_uids creds (kept_ids creds.uids uid uid uid)) now is λ may.
    let same : kept_ids creds.uids uid uid uid ≡ all_of uid = ap (λ (ids : Ids). kept_ids ids uid uid uid) h.uids ∙ taken_uids uid id in
    let root : (has_root creds.uids && not (has_root (all_of uid))) ≡ true = ap (λ (ids : Ids). has_root ids && not (has_root (all_of uid))) h.uids ∙ ap (λ b. not ((b || b) || b)) other in
    let was : eqb creds.uids.effective 0 ≡ true = ap (λ (ids : Ids). eqb ids.effective 0) h.uids in
    let own : Creds = record creds { uids = all_of uid } in
    let is_now : with_uids creds (kept_ids creds.uids uid uid uid) ≡ after_switch true false (after_leaving_root true own) =
    ap (λ (ids : Ids). with_uids creds ids) same
    ∙ ap (λ b. after_switch b (eqb uid 0) (after_leaving_root (has_root creds.uids && not (has_root (all_of uid))) own)) was
    ∙ ap (λ b. after_switch true b (after_leaving_root (has_root creds.uids && not (has_root (all_of uid))) own)) other
    ∙ ap (λ b. after_switch true false (after_leaving_root b own)) root in
    subst (Has uid p none i) (sym is_now) (record {
      uids = refl;
      gids = h.gids;
      permitted = ap (λ b. cond b creds.permitted none) keep ∙ h.permitted;
      effective = refl;
      inheritable = h.inheritable;
      ambient_inheritable = none_within i;
      ambient_permitted = none_within p;
      inheritable_bounding = h.inheritable_bounding;
      bounding = h.bounding;
    })

-- a capability that is made ambient
pub record Raised (cap : ℕ) (was : Creds) (now : Creds) : Type 0 where
  pub grown : IsWithin was.ambient now.ambient
  pub own : has now.ambient cap ≡ true

pub raises : (uid p e i cap : ℕ) (creds now : Creds) → Has uid p e i creds → after_raise creds cap ≡ Ok now
    → Has uid p e i now × Raised cap creds now
raises uid p e i cap creds now h is =
    by_if R' (nat_lt 40 cap) 22
    (cond {A = Result Creds ℕ} (not (has creds.permitted cap && has creds.inheritable cap)) (Err 1)
    (Ok (record creds { ambient = union creds.ambient (single cap) }))) now is λ is.
    by_both (has creds.permitted cap && has creds.inheritable cap) refl is
  where
    R' : Creds → Type 0
    R' c = Has uid p e i c × Raised cap creds c

    by_both : (b : Bool) → (has creds.permitted cap && has creds.inheritable cap) ≡ b
        → cond {A = Result Creds ℕ} (not b) (Err 1) (Ok (record creds { ambient = union creds.ambient (single cap) })) ≡ Ok now → R' now
    by_both false may is = cc
    by_both true may is =
        let parts = and_parts (has creds.permitted cap) (has creds.inheritable cap) may in
        let own : has (single cap) cap ≡ true = has_single cap cap ∙ grind (arith, nat_tests) in
        subst R' (ok_is (record creds { ambient = union creds.ambient (single cap) }) now is) (
          record {
            uids = h.uids;
            gids = h.gids;
            permitted = h.permitted;
            effective = h.effective;
            inheritable = h.inheritable;
            ambient_inheritable = union_within creds.ambient (single cap) i h.ambient_inheritable
                (single_within cap i (ap (λ s. has s cap) (sym h.inheritable) ∙ parts.1));
            ambient_permitted = union_within creds.ambient (single cap) p h.ambient_permitted
                (single_within cap p (ap (λ s. has s cap) (sym h.permitted) ∙ parts.0));
            inheritable_bounding = h.inheritable_bounding;
            bounding = h.bounding;
          },
          record {
            grown = within_union_left creds.ambient creds.ambient (single cap) (within_self creds.ambient);
            own = (within_union_right (single cap) creds.ambient (single cap) (within_self (single cap))).each cap own;
          },
        )

-- the capset that leaves a user one set: it keeps what is ambient of it
pub set_left : (uid p e i amb : ℕ) (creds now : Creds) → Has uid p e i creds × IsWithin amb creds.ambient → IsWithin amb i
    → after_capset creds i i i ≡ Ok now → Has uid i i i now × IsWithin amb now.ambient
set_left uid p e i amb creds now (h, raised) own is =
    by_unless (λ (c : Creds). Has uid i i i c × IsWithin amb c.ambient) (may_capset creds i i i) 1 (with_sets creds i i i) now is λ may. (
      record {
        uids = h.uids;
        gids = h.gids;
        permitted = refl;
        effective = refl;
        inheritable = refl;
        ambient_inheritable = cut_within_left creds.ambient (cut i i) i h.ambient_inheritable;
        ambient_permitted = cut_within_left creds.ambient (cut i i) i h.ambient_inheritable;
        inheritable_bounding = h.inheritable_bounding;
        bounding = h.bounding;
      },
      within_cut amb creds.ambient (cut i i) raised (within_cut amb i i own own),
    )

-- before the program is executed: the inheritable set is this one, and a user has the ambient set
pub record IsReady (uid amb i : ℕ) (creds : Creds) : Type 0 where
  pub sets : ℕ
  pub has : Has uid sets sets i creds
  pub root : eqb uid 0 ≡ true → sets ≡ all
  pub raised : eqb uid 0 ≡ false → IsWithin amb creds.ambient

pub no_new_privs : (uid amb i : ℕ) (creds now : Creds) → IsReady uid amb i creds
    → ◌≡◌ {A = Result Creds ℕ} (Ok (after_set_no_new_privs creds)) (Ok now) → IsReady uid amb i now
no_new_privs uid amb i creds now r is =
    subst (IsReady uid amb i) (ok_is (after_set_no_new_privs creds) now is)
    (record { sets = r.sets; has = let h = r.has in search rules; root = r.root; raised = r.raised })

pub refuses_memory : (uid amb i : ℕ) (creds now : Creds) → IsReady uid amb i creds
    → ◌≡◌ {A = Result Creds ℕ} (Ok (after_set_mdwe creds)) (Ok now) → IsReady uid amb i now
refuses_memory uid amb i creds now r is =
    subst (IsReady uid amb i) (ok_is (after_set_mdwe creds) now is)
    (record { sets = r.sets; has = let h = r.has in search rules; root = r.root; raised = r.raised })

pub ready_root : (uid amb i : ℕ) (creds : Creds) → eqb uid 0 ≡ true → Has uid all all i creds → IsReady uid amb i creds
ready_root uid amb i creds e h = record { sets = all; has = h; root = λ _. refl; raised = λ o. absurd (differ o) }
  where
    differ : eqb uid 0 ≡ false → ⊥
    differ o = cc

pub ready_user : (uid amb i : ℕ) (creds : Creds) → eqb uid 0 ≡ false → Has uid i i i creds × IsWithin amb creds.ambient
    → IsReady uid amb i creds
ready_user uid amb i creds e (h, raised) = record { sets = i; has = h; root = λ o. absurd (differ o); raised = λ _. raised }
  where
    differ : eqb uid 0 ≡ true → ⊥
    differ o = cc

-- ---- what was kept is given up
-- while it is given up: the bounding set still has a set that is to stay
pub record GivesUp (uid amb left : ℕ) (creds : Creds) : Type 0 where
  pub uids : creds.uids ≡ all_of uid
  pub gids : AreOne creds.gids
  pub stays : IsWithin left creds.bounding
  pub bounding : IsWithin creds.bounding all
  pub raised : IsWithin amb creds.ambient

pub gives_up : (uid amb i left : ℕ) (creds : Creds) → eqb uid 0 ≡ false → IsWithin left i → IsReady uid amb i creds
    → GivesUp uid amb left creds
gives_up uid amb i left creds user own r = record {
  uids = r.has.uids;
  gids = r.has.gids;
  stays = within_through left i creds.bounding own r.has.inheritable_bounding;
  bounding = r.has.bounding;
  raised = r.raised user;
}

-- a set without a capability stays when that is taken away
without_single : (a b k : ℕ) → IsWithin a b → has a k ≡ false → IsWithin a (minus b (single k))
without_single a b k own lacks = record { each = λ number h. has_minus b (single k) number ∙ by number h (eqb number k) refl }
  where
    by : (number : ℕ) → has a number ≡ true → (c : Bool) → eqb number k ≡ c → (has b number && not (has (single k) number)) ≡ true
    by number h false e = and_from (has b number) (not (has (single k) number)) (own.each number h) (ap not (has_single k number ∙ e))
    by number h true e =
        let same : number ≡ k = eqb-true number k e in
        let none' : has a number ≡ false = ap (has a) same ∙ lacks in
        cc

pub drops_kept : (uid amb left cap : ℕ) (creds now : Creds) → has left cap ≡ false → GivesUp uid amb left creds
    → after_drop_bounding creds cap ≡ Ok now → GivesUp uid amb left now
drops_kept uid amb left cap creds now lacks g is =
    by_if (GivesUp uid amb left) (nat_lt 40 cap) 22 _ now is λ is.
    by_if (GivesUp uid amb left) (not (has creds.effective 8)) 1 (Ok (record creds { bounding = minus creds.bounding (single cap) })) now is
    λ is.
    subst (GivesUp uid amb left) (ok_is (record creds { bounding = minus creds.bounding (single cap) }) now is) (record {
      uids = g.uids;
      gids = g.gids;
      stays = without_single left creds.bounding cap g.stays lacks;
      bounding = minus_within creds.bounding (single cap) all g.bounding;
      raised = g.raised;
    })

-- the last capset leaves the ambient set
pub set_ambient : (uid amb left : ℕ) (creds now : Creds) → eqb uid 0 ≡ false → IsWithin amb left → GivesUp uid amb left creds
    → after_capset creds amb amb left ≡ Ok now → IsReady uid amb left now
set_ambient uid amb left creds now user own g is =
    by_unless (IsReady uid amb left) (may_capset creds amb amb left) 1 (with_sets creds amb amb left) now is λ may.
    record {
      sets = amb;
      has = record {
        uids = g.uids;
        gids = g.gids;
        permitted = refl;
        effective = refl;
        inheritable = refl;
        ambient_inheritable =
            cut_within_right creds.ambient (cut amb left) left (cut_within_right amb left left (within_self left));
        ambient_permitted = cut_within_right creds.ambient (cut amb left) amb (cut_within_left amb left amb (within_self amb));
        inheritable_bounding = g.stays;
        bounding = g.bounding;
      };
      root = λ o. absurd (differ o);
      raised = λ _. within_cut amb creds.ambient (cut amb left) g.raised (within_cut amb amb left (within_self amb) own);
    }
  where
    differ : eqb uid 0 ≡ true → ⊥
    differ o = cc

pub record IsUnmarked (file : FileCreds) : Type 0 where
  pub setuid : file.setuid ≡ None
  pub setgid : file.setgid ≡ None
  pub caps : file.caps ≡ none

no_owner : (owner : Option ℕ) → is_set_id owner ≡ false → owner ≡ None
no_owner None e = refl
no_owner (Some own) e = cc

or_false : (a b : Bool) → (a || b) ≡ false → (a ≡ false) × (b ≡ false)
or_false true b e = cc
or_false false b e = (refl, e)

pub unmarked : (file : FileCreds) → is_privileged file ≡ false → IsUnmarked file
unmarked file e =
    let parts = or_false (is_set_id file.setuid || is_set_id file.setgid) (not (eqb file.caps none)) e in
    let ids = or_false (is_set_id file.setuid) (is_set_id file.setgid) parts.0 in
    record { setuid = no_owner file.setuid ids.0; setgid = no_owner file.setgid ids.1; caps = eqb-true file.caps none (not-false (eqb file.caps none) parts.1) }

same_ids : (b : Bool) (ids : Ids) (owner : Option ℕ) → owner ≡ None
    → exec_ids b ids owner ≡ record { real = ids.real; effective = ids.effective; saved = ids.effective }
same_ids true ids owner e =
    ap (λ (o : Option ℕ). record { real = ids.real; effective = owner_or o ids.effective; saved = owner_or o ids.effective }) e
same_ids false ids owner e = refl

and_false : (b : Bool) → (b && false) ≡ false
and_false true = refl
and_false false = refl

-- what is added to nothing
only_ambient : (b c a : ℕ) → c ≡ none → union (cut c b) a ≡ a
only_ambient b c a e =
    within_both (union (cut c b) a) a
    (union_within (cut c b) a a (cut_within_left c b a (subst (λ n. IsWithin n a) (sym e) (none_within a))) (within_self a))
    (within_union_right a (cut c b) a (within_self a))

gains_user : (h : Bool) (b c a : ℕ) → c ≡ none → cond h (union (cut c b) a) a ≡ a
gains_user true b c a e = only_ambient b c a e
gains_user false b c a e = refl

cut_same : (b : Bool) (a p : ℕ) → IsWithin a p → cond b (cut a p) a ≡ a
cut_same true a p h = within_both (cut a p) a (cut_within_left a p a (within_self a)) (within_cut a a p (within_self a) h)
cut_same false a p h = refl

within_cond : (b : Bool) (x g p : ℕ) → IsWithin x g → IsWithin x p → IsWithin x (cond b (cut g p) g)
within_cond true x g p h k = within_cut x g p h k
within_cond false x g p h k = h

either_same : (b : Bool) (x y z : ℕ) → x ≡ z → y ≡ z → cond b x y ≡ z
either_same true x y z e f = e
either_same false x y z e f = f

module _ (uid amb i kept : ℕ) (file : FileCreds) (nosuid : Bool) (creds : Creds) (r : IsReady uid amb i creds) (spares : IsWithin i (union amb kept)) (privileged : is_privileged file ≡ false) where
  h : Bool
  h = honours creds nosuid

  marks : IsUnmarked file
  marks = unmarked file privileged

  uids_are : exec_uids creds file nosuid ≡ all_of uid
  uids_are = same_ids (honours creds nosuid) creds.uids file.setuid marks.setuid
      ∙ ap (λ (ids : Ids). record { real = ids.real; effective = ids.effective; saved = ids.effective }) r.has.uids

  gids_are : exec_ids (honours creds nosuid) creds.gids file.setgid
      ≡ record { real = creds.gids.real; effective = creds.gids.effective; saved = creds.gids.effective }
  gids_are = same_ids (honours creds nosuid) creds.gids file.setgid marks.setgid

  ambient_is : exec_ambient creds file nosuid ≡ creds.ambient
  ambient_is = ap (λ b. cond (honours creds nosuid && b) none creds.ambient) privileged
      ∙ ap (λ b. cond b none creds.ambient) (and_false (honours creds nosuid))

  gains_are : exec_gains creds file nosuid ≡ cond (eqb uid 0 || eqb uid 0) (union creds.inheritable creds.bounding) creds.ambient
  gains_are =
      ap (λ (ids : Ids). cond (runs_as_root ids) (union creds.inheritable creds.bounding)
      (cond (honours creds nosuid) (union (cut file.caps creds.bounding) (exec_ambient creds file nosuid))
      (exec_ambient creds file nosuid))) uids_are
      ∙ ap (λ a. cond (eqb uid 0 || eqb uid 0) (union creds.inheritable creds.bounding)
      (cond (honours creds nosuid) (union (cut file.caps creds.bounding) a) a)) ambient_is
      ∙ ap (λ g. cond (eqb uid 0 || eqb uid 0) (union creds.inheritable creds.bounding) g)
      (gains_user (honours creds nosuid) creds.bounding file.caps creds.ambient marks.caps)

  permitted_is : exec_permitted creds file nosuid ≡ cond creds.no_new_privs
      (cut (cond (eqb uid 0 || eqb uid 0) (union creds.inheritable creds.bounding) creds.ambient) creds.permitted)
      (cond (eqb uid 0 || eqb uid 0) (union creds.inheritable creds.bounding) creds.ambient)
  permitted_is = ap (λ g. cond creds.no_new_privs (cut g creds.permitted) g) gains_are

  effective_is : exec_effective creds file nosuid ≡ cond (eqb uid 0 || (honours creds nosuid && file.effective))
      (exec_permitted creds file nosuid) creds.ambient
  effective_is = ap (λ (ids : Ids). cond (eqb ids.effective 0 || (honours creds nosuid && file.effective))
      (exec_permitted creds file nosuid) (exec_ambient creds file nosuid)) uids_are
      ∙ ap (λ a. cond (eqb uid 0 || (honours creds nosuid && file.effective)) (exec_permitted creds file nosuid) a) ambient_is

  ambient_i : IsWithin creds.ambient creds.inheritable
  ambient_i = subst (IsWithin creds.ambient) (sym r.has.inheritable) r.has.ambient_inheritable

  ambient_p : IsWithin creds.ambient creds.permitted
  ambient_p = subst (IsWithin creds.ambient) (sym r.has.permitted) r.has.ambient_permitted

  inheritable_p : eqb uid 0 ≡ true → IsWithin creds.inheritable creds.permitted
  inheritable_p e = subst (λ n. IsWithin n creds.permitted) (sym r.has.inheritable) (subst (IsWithin i) (sym (r.has.permitted ∙ r.root e)) (within_through i creds.bounding all r.has.inheritable_bounding r.has.bounding))

  -- a user has the ambient set, and so all that is inheritable but what was kept
  inheritable_a : eqb uid 0 ≡ false → IsWithin creds.inheritable (union creds.ambient kept)
  inheritable_a e = subst (λ n. IsWithin n (union creds.ambient kept)) (sym r.has.inheritable) (within_through i (union amb kept) (union creds.ambient kept) spares (union_within amb kept (union creds.ambient kept) (within_union_left amb creds.ambient kept (r.raised e)) (within_union_right kept creds.ambient kept (within_self kept))))

  inheritable_b : IsWithin creds.inheritable creds.bounding
  inheritable_b = subst (λ n. IsWithin n creds.bounding) (sym r.has.inheritable) r.has.inheritable_bounding

  abbrev done : Creds
  done = exec_done creds file nosuid

  record Sets : Type 0 where
    pub full : exec_effective creds file nosuid ≡ exec_permitted creds file nosuid
    pub ambient : IsWithin creds.ambient (exec_permitted creds file nosuid)
    pub inheritable : IsWithin creds.inheritable (union (exec_permitted creds file nosuid) kept)
    pub root : eqb uid 0 ≡ true → IsWithin creds.bounding (exec_permitted creds file nosuid)

  sets_root : eqb uid 0 ≡ true → Sets
  sets_root e =
      let gained : ℕ = union creds.inheritable creds.bounding in
      let own : exec_permitted creds file nosuid ≡ cond creds.no_new_privs (cut gained creds.permitted) gained = permitted_is ∙ ap (λ b. cond creds.no_new_privs (cut (cond (b || b) gained creds.ambient) creds.permitted) (cond (b || b) gained creds.ambient)) e in
      let full_root : creds.permitted ≡ all = r.has.permitted ∙ r.root e in
      record {
        full = effective_is ∙ ap (λ b. cond (b || (honours creds nosuid && file.effective))
            (exec_permitted creds file nosuid) creds.ambient) e;
        ambient = subst (IsWithin creds.ambient) (sym own)
            (within_cond creds.no_new_privs creds.ambient gained creds.permitted
            (within_union_left creds.ambient creds.inheritable creds.bounding ambient_i) ambient_p);
        inheritable = within_union_left creds.inheritable (exec_permitted creds file nosuid) kept
            (subst (IsWithin creds.inheritable) (sym own)
            (within_cond creds.no_new_privs creds.inheritable gained creds.permitted
            (within_union_left creds.inheritable creds.inheritable creds.bounding (within_self creds.inheritable)) (inheritable_p e)));
        root = λ _. subst (IsWithin creds.bounding) (sym own)
            (within_cond creds.no_new_privs creds.bounding gained creds.permitted
            (within_union_right creds.bounding creds.inheritable creds.bounding (within_self creds.bounding))
            (subst (IsWithin creds.bounding) (sym full_root) r.has.bounding));
      }

  sets_user : eqb uid 0 ≡ false → Sets
  sets_user e =
      let own : exec_permitted creds file nosuid ≡ creds.ambient = permitted_is
      ∙ ap (λ b. cond creds.no_new_privs (cut (cond (b || b) (union creds.inheritable creds.bounding) creds.ambient) creds.permitted)
      (cond (b || b) (union creds.inheritable creds.bounding) creds.ambient)) e
      ∙ cut_same creds.no_new_privs creds.ambient creds.permitted ambient_p in
      record {
        full = effective_is ∙ either_same (eqb uid 0 || (honours creds nosuid && file.effective))
            (exec_permitted creds file nosuid) creds.ambient (exec_permitted creds file nosuid) refl (sym own);
        ambient = subst (IsWithin creds.ambient) (sym own) (within_self creds.ambient);
        inheritable = subst (λ n. IsWithin creds.inheritable (union n kept)) (sym own) (inheritable_a e);
        root = λ o. absurd (differ o);
      }
    where
      differ : eqb uid 0 ≡ true → ⊥
      differ o = cc

  sets_are : (b : Bool) → eqb uid 0 ≡ b → Sets
  sets_are true e = sets_root e
  sets_are false e = sets_user e

  launched_creds : IsLaunchedCreds kept done
  launched_creds =
      let s : Sets = sets_are (eqb uid 0) refl in
      let P : ℕ → ℕ → Type 0 = IsWithin in
      record {
        real = ap (λ (ids : Ids). ids.real) uids_are ∙ sym (ap (λ (ids : Ids). ids.effective) uids_are);
        saved = ap (λ (ids : Ids). ids.saved) uids_are ∙ sym (ap (λ (ids : Ids). ids.effective) uids_are);
        real_gid = ap (λ (ids : Ids). ids.real) gids_are ∙ r.has.gids.real ∙ sym (ap (λ (ids : Ids). ids.effective) gids_are);
        saved_gid = ap (λ (ids : Ids). ids.saved) gids_are ∙ sym (ap (λ (ids : Ids). ids.effective) gids_are);
        full = s.full;
        ambient_inheritable = subst (λ n. IsWithin n creds.inheritable) (sym ambient_is) ambient_i;
        ambient_permitted = subst (λ n. IsWithin n (exec_permitted creds file nosuid)) (sym ambient_is) s.ambient;
        inheritable_bounding = inheritable_b;
        inheritable_effective = subst (λ n. IsWithin creds.inheritable (union n kept)) (sym s.full) s.inheritable;
        root = λ zero'. subst (IsWithin creds.bounding) (sym s.full)
            (s.root (ap (λ n. eqb n 0) (sym (ap (λ (ids : Ids). ids.effective) uids_are) ∙ zero')));
        no_ring = refl;
      }

  pub executed : (now : Creds) → after_exec creds file nosuid ≡ Ok now → IsLaunchedCreds kept now
  executed now is = by_if (IsLaunchedCreds kept) (is_refused creds file nosuid) 1 (Ok (exec_done creds file nosuid)) now is
      λ is. subst (IsLaunchedCreds kept) (ok_is (exec_done creds file nosuid) now is) launched_creds
