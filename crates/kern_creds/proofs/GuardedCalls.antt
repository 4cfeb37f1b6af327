-- Without its capability a process keeps to its own ids and groups, whatever it calls.
use Rattle.std.proofs.Common.{◌≡◌, ℕ, Bool, true, false, rules, refl, List, Ok, Err, eqb, subst, sym}
use Rattle.std.specs.Prelude.{◌&&◌, not}
use Rattle.cap_sets.specs.Sets.{has}
use Rattle.kern_creds.specs.declared.ids.Ids.{Ids}
use Rattle.kern_creds.specs.declared.creds.Creds.{Creds}
use Rattle.kern_creds.specs.RootChange.{with_uids, after_switch, after_leaving_root, has_root}
use Rattle.kern_creds.specs.Setgroups.{after_setgroups}
use Rattle.kern_creds.specs.Exec.{honours, is_refused, exec_done}
use Rattle.kern_creds.specs.Calls.{Call, Setuid, Setgid, Setresuid, Setresgid, Setgroups, Exec, after}
use Rattle.kern_creds.specs.Guarded.{AreAmong, is_set_user, is_set_group}
use Rattle.kern_creds.proofs.Answers.{Leaves, left_err, left_ok, left_if}
use Rattle.kern_creds.proofs.GuardedIds.{OwnUids, OwnGids, same_ids, own-setuid, own-setgid, own-setresuid, own-setresgid, own-exec}

pub own_uids : (creds : Creds) (call : Call) → has creds.effective 7 ≡ false → is_set_user creds call ≡ false
    → Leaves (OwnUids creds) (after creds call)
own_uids creds (Setuid id) no_cap h = own-setuid creds id no_cap
own_uids creds (Setresuid r e s) no_cap h = own-setresuid creds r e s no_cap
own_uids creds (Exec file nosuid) no_cap h =
    left_if (OwnUids creds) (is_refused creds file nosuid) (Err 1) (Ok (exec_done creds file nosuid)) (λ e. left_err _ 1)
    (λ e. left_ok _ _ (own-exec (honours creds nosuid) creds.uids file.setuid h))
own_uids creds call no_cap h = search (rules, left_if, left_err, left_ok, same_ids)

-- a change of uids leaves the gids and the groups
record Kept (creds now : Creds) : Type 0 where
  gids : now.gids ≡ creds.gids
  groups : now.groups ≡ creds.groups

kept-leaving : (b : Bool) (creds now : Creds) → Kept creds now → Kept creds (after_leaving_root b now)
kept-leaving true creds now k = record { gids = k.gids; groups = k.groups }
kept-leaving false creds now k = k

kept-switch : (was is : Bool) (creds now : Creds) → Kept creds now → Kept creds (after_switch was is now)
kept-switch true true creds now k = k
kept-switch true false creds now k = record { gids = k.gids; groups = k.groups }
kept-switch false true creds now k = record { gids = k.gids; groups = k.groups }
kept-switch false false creds now k = k

kept-uids : (creds : Creds) (uids : Ids) → Kept creds (with_uids creds uids)
kept-uids creds uids =
    kept-switch (eqb creds.uids.effective 0) (eqb uids.effective 0) creds
    (after_leaving_root (has_root creds.uids && not (has_root uids)) (record creds { uids = uids }))
    (kept-leaving (has_root creds.uids && not (has_root uids)) creds (record creds { uids = uids }) (record { gids = refl; groups = refl }))

gids_with : (creds : Creds) (uids : Ids) → OwnGids creds (with_uids creds uids)
gids_with creds uids = let P : Ids → Type 0 = λ g. AreAmong g creds.gids in subst P (sym (kept-uids creds uids).gids) (same_ids creds.gids)

pub own_gids : (creds : Creds) (call : Call) → has creds.effective 6 ≡ false → is_set_group creds call ≡ false
    → Leaves (OwnGids creds) (after creds call)
own_gids creds (Setuid id) no_cap h = search (rules, left_if, left_err, left_ok, gids_with)
own_gids creds (Setgid id) no_cap h = own-setgid creds id no_cap
own_gids creds (Setresuid r e s) no_cap h = search (rules, left_if, left_err, left_ok, gids_with)
own_gids creds (Setresgid r e s) no_cap h = own-setresgid creds r e s no_cap
own_gids creds (Exec file nosuid) no_cap h =
    left_if (OwnGids creds) (is_refused creds file nosuid) (Err 1) (Ok (exec_done creds file nosuid)) (λ e. left_err _ 1)
    (λ e. left_ok _ _ (own-exec (honours creds nosuid) creds.gids file.setgid h))
own_gids creds call no_cap h = search (rules, left_if, left_err, left_ok, same_ids)

abbrev pub SameGroups : Creds → Creds → Type 0
SameGroups creds now = now.groups ≡ creds.groups

groups_with : (creds : Creds) (uids : Ids) → SameGroups creds (with_uids creds uids)
groups_with creds uids = (kept-uids creds uids).groups

groups_refused : (creds : Creds) (ids : List ℕ) → has creds.effective 6 ≡ false → Leaves (SameGroups creds) (after_setgroups creds ids)
groups_refused creds ids no_cap =
    left_if (SameGroups creds) (not (has creds.effective 6)) (Err 1) _ (λ e. left_err _ 1)
    (λ e. absurd (differ (has creds.effective 6) no_cap e))
  where
    differ : (b : Bool) → b ≡ false → not b ≡ false → ⊥
    differ true p q = cc
    differ false p q = cc

pub same_groups : (creds : Creds) (call : Call) → has creds.effective 6 ≡ false → Leaves (SameGroups creds) (after creds call)
same_groups creds (Setuid id) no_cap = search (rules, left_if, left_err, left_ok, groups_with)
same_groups creds (Setresuid r e s) no_cap = search (rules, left_if, left_err, left_ok, groups_with)
same_groups creds (Setgroups ids) no_cap = groups_refused creds ids no_cap
same_groups creds (Exec file nosuid) no_cap =
    left_if (SameGroups creds) (is_refused creds file nosuid) (Err 1) (Ok (exec_done creds file nosuid)) (λ e. left_err _ 1)
    (λ e. left_ok _ _ refl)
same_groups creds call no_cap = search (rules, left_if, left_err, left_ok)
