-- What one call makes of the bounding, the inheritable and the permitted set, of no_new_privs and of mdwe.
use Rattle.std.proofs.Common.{◌≡◌, ℕ, Bool, true, false, rules, refl, cond, List, length, Ok, Err, eqb, ◌∙◌}
use Rattle.std.specs.Prelude.{◌&&◌, not, nat_lt}
use Rattle.std.proofs.lemmas.Bool.{not-false}
use Rattle.cap_sets.specs.Sets.{has, none, union, minus, single, IsWithin}
use Rattle.cap_sets.proofs.Members.{within_self, none_within, within_union_left, minus_within}
use Rattle.kern_creds.specs.declared.ids.Ids.{Ids}
use Rattle.kern_creds.specs.declared.file.FileCreds.{FileCreds}
use Rattle.kern_creds.specs.declared.creds.Creds.{Creds}
use Rattle.kern_creds.specs.RootChange.{with_uids, after_switch, after_leaving_root, has_root}
use Rattle.kern_creds.specs.Setgroups.{after_setgroups}
use Rattle.kern_creds.specs.Capset.{may_capset, with_sets, after_capset}
use Rattle.kern_creds.specs.Prctl.{after_clear_ambient, after_set_keepcaps, after_set_no_new_privs, after_set_mdwe}
use Rattle.kern_creds.specs.Ring.{after_set_up_ring}
use Rattle.kern_creds.specs.Exec.{is_refused, exec_done}
use Rattle.kern_creds.specs.Calls.{Call, Setuid, Setgid, Setresuid, Setresgid, Setgroups, Capset, DropBounding, Raise, Lower, ClearAmbient}
use Rattle.kern_creds.specs.Calls.{SetKeepcaps, SetNoNewPrivs, SetMdwe, SetUpRing, Exec, after}
use Rattle.kern_creds.specs.Steps.{may_gain}
use Rattle.kern_creds.proofs.Answers.{Leaves, left_err, left_ok, left_if}
use Rattle.kern_creds.proofs.SoundCalls.{may_capset-true}
use Rattle.kern_creds.proofs.SoundExec.{gains_nothing}

pub record Step (gain : Bool) (creds now : Creds) : Type 0 where
  pub bounding : IsWithin now.bounding creds.bounding
  pub inheritable : IsWithin now.inheritable (union creds.inheritable creds.bounding)
  pub no_new_privs : creds.no_new_privs ≡ true → now.no_new_privs ≡ true
  pub mdwe : creds.mdwe ≡ true → now.mdwe ≡ true
  pub permitted : gain ≡ false → IsWithin now.permitted creds.permitted

kept_or_none : (keep : Bool) (a b : ℕ) → IsWithin a b → IsWithin (cond keep a none) b
kept_or_none true a b w = w
kept_or_none false a b w = none_within b

step-leaving : (b : Bool) (creds now : Creds) → Step false creds now → Step false creds (after_leaving_root b now)
step-leaving true creds now s = record { bounding = s.bounding; inheritable = s.inheritable; no_new_privs = s.no_new_privs; mdwe = s.mdwe; permitted = λ e. kept_or_none now.keepcaps _ _ (s.permitted e) }
step-leaving false creds now s = s

step-switch : (was is : Bool) (creds now : Creds) → Step false creds now → Step false creds (after_switch was is now)
step-switch true true creds now s = s
step-switch true false creds now s =
    record { bounding = s.bounding; inheritable = s.inheritable; no_new_privs = s.no_new_privs; mdwe = s.mdwe; permitted = s.permitted }
step-switch false true creds now s =
    record { bounding = s.bounding; inheritable = s.inheritable; no_new_privs = s.no_new_privs; mdwe = s.mdwe; permitted = s.permitted }
step-switch false false creds now s = s

step-none : (creds now : Creds) → now.bounding ≡ creds.bounding → now.inheritable ≡ creds.inheritable → now.permitted ≡ creds.permitted
    → now.no_new_privs ≡ creds.no_new_privs → now.mdwe ≡ creds.mdwe → Step false creds now
step-none creds now b i p n m = record {
  bounding = rw b (within_self creds.bounding);
  inheritable = rw i (within_union_left _ _ _ (within_self creds.inheritable));
  no_new_privs = λ e. n ∙ e;
  mdwe = λ e. m ∙ e;
  permitted = λ e. rw p (within_self creds.permitted);
}

step-uids : (creds : Creds) (uids : Ids) → Step false creds (with_uids creds uids)
step-uids creds uids =
    step-switch (eqb creds.uids.effective 0) (eqb uids.effective 0) creds
    (after_leaving_root (has_root creds.uids && not (has_root uids)) (record creds { uids = uids }))
    (step-leaving (has_root creds.uids && not (has_root uids)) creds (record creds { uids = uids })
    (step-none creds (record creds { uids = uids }) refl refl refl refl refl))

step-done : (creds : Creds) (file : FileCreds) (nosuid : Bool) → Step (not creds.no_new_privs) creds (exec_done creds file nosuid)
step-done creds file nosuid = record {
  bounding = within_self _;
  inheritable = within_union_left _ _ _ (within_self _);
  no_new_privs = λ e. e;
  mdwe = λ e. e;
  permitted = λ e. gains_nothing false creds file nosuid (not-false creds.no_new_privs e);
}

step-capset : (creds : Creds) (p e i : ℕ) → Leaves (Step false creds) (after_capset creds p e i)
step-capset creds p e i = left_if (Step false creds) (may_capset creds p e i) (Ok (with_sets creds p e i)) (Err 1) (λ h.
    let asked = may_capset-true creds p e i h in
    left_ok (Step false creds) (with_sets creds p e i) record
    { bounding = within_self _; inheritable = asked.inheritable; no_new_privs = λ n. n; mdwe = λ n. n; permitted = λ g. asked.permitted })
    (λ h. left_err _ 1)

step-setgroups : (creds : Creds) (ids : List ℕ) → Leaves (Step false creds) (after_setgroups creds ids)
step-setgroups creds ids =
    left_if (Step false creds) (not (has creds.effective 6)) (Err 1) _ (λ e. left_err _ 1) λ e.
    left_if (Step false creds) (nat_lt 65_536 (length ids)) (Err 22) (Ok (record creds { groups = ids })) (λ e. left_err _ 22) λ e.
    left_ok (Step false creds) (record creds { groups = ids }) (step-none creds (record creds { groups = ids }) refl refl refl refl refl)

step-gids : (creds : Creds) (gids : Ids) → Step false creds (record creds { gids = gids })
step-gids creds gids = step-none creds (record creds { gids = gids }) refl refl refl refl refl

step-ambient : (creds : Creds) (ambient : ℕ) → Step false creds (record creds { ambient = ambient })
step-ambient creds ambient = step-none creds (record creds { ambient = ambient }) refl refl refl refl refl

step-keepcaps : (creds : Creds) (on : Bool) → Step false creds (after_set_keepcaps creds on)
step-keepcaps creds on = step-none creds (after_set_keepcaps creds on) refl refl refl refl refl

step-marked : (creds : Creds) → Step false creds (after_set_no_new_privs creds)
step-marked creds = record { bounding = within_self _; inheritable = within_union_left _ _ _ (within_self _); no_new_privs = λ e. refl; mdwe = λ e. e; permitted = λ e. within_self _ }

step-refused : (creds : Creds) → Step false creds (after_set_mdwe creds)
step-refused creds = record { bounding = within_self _; inheritable = within_union_left _ _ _ (within_self _); no_new_privs = λ e. e; mdwe = λ e. refl; permitted = λ e. within_self _ }

step-ring : (creds : Creds) → Step false creds (after_set_up_ring creds)
step-ring creds = step-none creds (after_set_up_ring creds) refl refl refl refl refl

step-dropped : (creds : Creds) (cap' : ℕ) → Step false creds (record creds { bounding = minus creds.bounding (single cap') })
step-dropped creds cap' = record { bounding = minus_within _ _ _ (within_self _); inheritable = within_union_left _ _ _ (within_self _); no_new_privs = λ e. e; mdwe = λ e. e; permitted = λ e. within_self _ }

pub step : (creds : Creds) (call : Call) → Leaves (Step (may_gain creds call) creds) (after creds call)
step creds (Setuid id) = search (rules, left_if, left_err, left_ok, step-uids)
step creds (Setgid id) = search (rules, left_if, left_err, left_ok, step-gids)
step creds (Setresuid real effective saved) = search (rules, left_if, left_err, left_ok, step-uids)
step creds (Setresgid real effective saved) = search (rules, left_if, left_err, left_ok, step-gids)
step creds (Setgroups ids) = step-setgroups creds ids
step creds (Capset p e i) = step-capset creds p e i
step creds (DropBounding cap') = search (rules, left_if, left_err, left_ok, step-dropped)
step creds (Raise cap') = search (rules, left_if, left_err, left_ok, step-ambient)
step creds (Lower cap') = search (rules, left_if, left_err, left_ok, step-ambient)
step creds ClearAmbient = left_ok _ (after_clear_ambient creds) (step-ambient creds none)
step creds (SetKeepcaps on) = left_ok _ (after_set_keepcaps creds on) (step-keepcaps creds on)
step creds SetNoNewPrivs = left_ok _ (after_set_no_new_privs creds) (step-marked creds)
step creds SetMdwe = left_ok _ (after_set_mdwe creds) (step-refused creds)
step creds SetUpRing = left_ok _ (after_set_up_ring creds) (step-ring creds)
step creds (Exec file nosuid) =
    left_if (Step (not creds.no_new_privs) creds) (is_refused creds file nosuid) (Err 1) (Ok (exec_done creds file nosuid))
    (λ e. left_err _ 1) (λ e. left_ok _ _ (step-done creds file nosuid))
