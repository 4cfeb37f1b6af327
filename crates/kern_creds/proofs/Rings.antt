-- What one call makes of a ring.
use Rattle.std.proofs.Common.{◌≡◌, ℕ, Bool, true, false, rules, refl, cond, List, length, Ok, Err, sym, eqb, ◌∙◌}
use Rattle.std.specs.Prelude.{◌&&◌, not, nat_lt}
use Rattle.cap_sets.specs.Sets.{has}
use Rattle.kern_creds.specs.declared.ids.Ids.{Ids}
use Rattle.kern_creds.specs.declared.file.FileCreds.{FileCreds}
use Rattle.kern_creds.specs.declared.creds.Creds.{Creds}
use Rattle.kern_creds.specs.RootChange.{with_uids, after_switch, after_leaving_root, has_root}
use Rattle.kern_creds.specs.Setgroups.{after_setgroups}
use Rattle.kern_creds.specs.Capset.{may_capset, with_sets, after_capset}
use Rattle.kern_creds.specs.Prctl.{after_clear_ambient, after_set_keepcaps, after_set_no_new_privs, after_set_mdwe}
use Rattle.kern_creds.specs.Exec.{is_refused, exec_done_in, exec_in, exec_done}
use Rattle.kern_creds.specs.Calls.{Call, Setuid, Setgid, Setresuid, Setresgid, Setgroups, Capset, DropBounding, Raise, Lower, ClearAmbient}
use Rattle.kern_creds.specs.Calls.{SetKeepcaps, SetNoNewPrivs, SetMdwe, SetUpRing, Exec, after}
use Rattle.kern_creds.specs.Guarded.{is_set_up}
use Rattle.kern_creds.specs.Steps.{Leads}
use Rattle.kern_creds.proofs.Answers.{Leaves, left_err, left_ok, left_if}

-- there is no ring that was not there before
record Had (creds now : Creds) : Type 0 where
  ring : now.ring ≡ true → creds.ring ≡ true

had-same : (creds now : Creds) → now.ring ≡ creds.ring → Had creds now
had-same creds now e = record { ring = λ h. sym e ∙ h }

same-leaving : (b : Bool) (creds : Creds) → (after_leaving_root b creds).ring ≡ creds.ring
same-leaving true creds = refl
same-leaving false creds = refl

same-switch : (was is : Bool) (creds : Creds) → (after_switch was is creds).ring ≡ creds.ring
same-switch true true creds = refl
same-switch true false creds = refl
same-switch false true creds = refl
same-switch false false creds = refl

had-uids : (creds : Creds) (uids : Ids) → Had creds (with_uids creds uids)
had-uids creds uids = had-same creds (with_uids creds uids)
    (same-switch (eqb creds.uids.effective 0) (eqb uids.effective 0)
    (after_leaving_root (has_root creds.uids && not (has_root uids)) (record creds { uids = uids }))
    ∙ same-leaving (has_root creds.uids && not (has_root uids)) (record creds { uids = uids }))

had-gids : (creds : Creds) (gids : Ids) → Had creds (record creds { gids = gids })
had-gids creds gids = had-same creds (record creds { gids = gids }) refl

had-ambient : (creds : Creds) (ambient : ℕ) → Had creds (record creds { ambient = ambient })
had-ambient creds ambient = had-same creds (record creds { ambient = ambient }) refl

had-bounding : (creds : Creds) (bounding : ℕ) → Had creds (record creds { bounding = bounding })
had-bounding creds bounding = had-same creds (record creds { bounding = bounding }) refl

had-setgroups : (creds : Creds) (ids : List ℕ) → Leaves (Had creds) (after_setgroups creds ids)
had-setgroups creds ids =
    left_if (Had creds) (not (has creds.effective 6)) (Err 1) _ (λ e. left_err _ 1) λ e.
    left_if (Had creds) (nat_lt 65_536 (length ids)) (Err 22) (Ok (record creds { groups = ids })) (λ e. left_err _ 22) λ e.
    left_ok (Had creds) (record creds { groups = ids }) (had-same creds (record creds { groups = ids }) refl)

had-capset : (creds : Creds) (p e i : ℕ) → Leaves (Had creds) (after_capset creds p e i)
had-capset creds p e i = left_if (Had creds) (may_capset creds p e i) (Ok (with_sets creds p e i)) (Err 1)
    (λ h. left_ok (Had creds) (with_sets creds p e i) (had-same creds (with_sets creds p e i) refl)) (λ h. left_err _ 1)

had-exec : (creds : Creds) (file : FileCreds) (nosuid : Bool) → Had creds (exec_done creds file nosuid)
had-exec creds file nosuid = record { ring = λ h. cc }

had : (creds : Creds) (call : Call) → is_set_up call ≡ false → Leaves (Had creds) (after creds call)
had creds (Setuid id) n = search (rules, left_if, left_err, left_ok, had-uids)
had creds (Setgid id) n = search (rules, left_if, left_err, left_ok, had-gids)
had creds (Setresuid real effective saved) n = search (rules, left_if, left_err, left_ok, had-uids)
had creds (Setresgid real effective saved) n = search (rules, left_if, left_err, left_ok, had-gids)
had creds (Setgroups ids) n = had-setgroups creds ids
had creds (Capset p e i) n = had-capset creds p e i
had creds (DropBounding cap') n = search (rules, left_if, left_err, left_ok, had-bounding)
had creds (Raise cap') n = search (rules, left_if, left_err, left_ok, had-ambient)
had creds (Lower cap') n = search (rules, left_if, left_err, left_ok, had-ambient)
had creds ClearAmbient n = left_ok _ (after_clear_ambient creds) (had-same creds (after_clear_ambient creds) refl)
had creds (SetKeepcaps on) n = left_ok _ (after_set_keepcaps creds on) (had-same creds (after_set_keepcaps creds on) refl)
had creds SetNoNewPrivs n = left_ok _ (after_set_no_new_privs creds) (had-same creds (after_set_no_new_privs creds) refl)
had creds SetMdwe n = left_ok _ (after_set_mdwe creds) (had-same creds (after_set_mdwe creds) refl)
had creds SetUpRing n = cc
had creds (Exec file nosuid) n =
    left_if (Had creds) (is_refused creds file nosuid) (Err 1) (Ok (exec_done creds file nosuid)) (λ e. left_err _ 1)
    (λ e. left_ok _ _ (had-exec creds file nosuid))

pub had_by_call : (creds now : Creds) (call : Call) → is_set_up call ≡ false → Leads creds call now → now.ring ≡ true → creds.ring ≡ true
had_by_call creds now call n e = ((had creds call n).held now e).ring

pub closed_by_exec : (newer : Bool) (creds now : Creds) (file : FileCreds) (nosuid : Bool) → exec_in newer creds file nosuid ≡ Ok now
    → now.ring ≡ false
closed_by_exec newer creds now file nosuid e =
    (left_if (λ now. now.ring ≡ false) (is_refused creds file nosuid) (Err 1) (Ok (exec_done_in newer creds file nosuid))
    (λ r. left_err _ 1) (λ r. left_ok _ (exec_done_in newer creds file nosuid) refl)).held now e
