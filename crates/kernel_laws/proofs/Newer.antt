-- Calls of a process in a newer user namespace keep the bounds on its ids.
use Rattle.std.proofs.Common.{◌≡◌, ℕ, Bool, true, false, rules, refl, Ok, Err, eqb, arith}
use Rattle.std.specs.Prelude.{◌+◌}
use Rattle.std.proofs.lemmas.Bool.Decides.{nat_tests}
use Rattle.kernel_model.specs.kern_creds.declared.creds.Creds.{Creds}
use Rattle.kernel_model.specs.kern_creds.declared.file.FileCreds.{FileCreds}
use Rattle.kernel_model.specs.kern_creds.Capset.{may_capset, with_sets, after_capset}
use Rattle.kernel_model.specs.kern_creds.Enter.{entered}
use Rattle.kernel_model.specs.kern_creds.Exec.{is_refused, exec_done_in, exec_in}
use Rattle.kernel_model.specs.kern_creds.Prctl.{after_drop_bounding, after_raise, after_lower, after_clear_ambient, after_set_keepcaps}
use Rattle.kernel_model.specs.kern_creds.Prctl.{after_set_no_new_privs, after_set_mdwe}
use Rattle.kernel_model.specs.kern_creds.Ring.{after_set_up_ring}
use Rattle.kernel_model.proofs.OfKernCreds.Answers.{Leaves, left_err, left_ok, left_if}
use Rattle.kernel_laws.specs.Bounds.{Bounds, KeepsIds, KeepsIn}

-- of a process in whatever user namespace
pub ids_of : (newer : Bool) (top : Bounds) (creds : Creds) → KeepsIn newer top creds → KeepsIds top creds
ids_of false top creds k = record { no_new_privs = k.no_new_privs; mdwe = k.mdwe; ring = k.ring; uids = k.uids; gids = k.gids; groups = k.groups }
ids_of true top creds k = k

module _ (top : Bounds) (creds : Creds) (k : KeepsIds top creds) where
  pub ids-entered : KeepsIds top (entered creds)
  ids-entered = record { no_new_privs = k.no_new_privs; mdwe = k.mdwe; ring = k.ring; uids = k.uids; gids = k.gids; groups = k.groups }

  pub ids-clear_ambient : KeepsIds top (after_clear_ambient creds)
  ids-clear_ambient = record { no_new_privs = k.no_new_privs; mdwe = k.mdwe; ring = k.ring; uids = k.uids; gids = k.gids; groups = k.groups }

  pub ids-no_new_privs : KeepsIds top (after_set_no_new_privs creds)
  ids-no_new_privs = record { no_new_privs = λ e. refl; mdwe = k.mdwe; ring = k.ring; uids = k.uids; gids = k.gids; groups = k.groups }

  pub ids-mdwe : KeepsIds top (after_set_mdwe creds)
  ids-mdwe = record { no_new_privs = k.no_new_privs; mdwe = λ e. refl; ring = k.ring; uids = k.uids; gids = k.gids; groups = k.groups }

  pub ids-ring : top.ring ≡ true → KeepsIds top (after_set_up_ring creds)
  ids-ring on = record { no_new_privs = k.no_new_privs; mdwe = k.mdwe; ring = λ e. on; uids = k.uids; gids = k.gids; groups = k.groups }

  pub ids-keepcaps : (on : Bool) → KeepsIds top (after_set_keepcaps creds on)
  ids-keepcaps on = record { no_new_privs = k.no_new_privs; mdwe = k.mdwe; ring = k.ring; uids = k.uids; gids = k.gids; groups = k.groups }

  pub ids-lower : (cap' : ℕ) → Leaves (KeepsIds top) (after_lower creds cap')
  ids-lower cap' = search (rules, left_if, left_err, left_ok)

  pub ids-drop_bounding : (cap' : ℕ) → Leaves (KeepsIds top) (after_drop_bounding creds cap')
  ids-drop_bounding cap' = search (rules, left_if, left_err, left_ok)

  pub ids-raise : (cap' : ℕ) → Leaves (KeepsIds top) (after_raise creds cap')
  ids-raise cap' = search (rules, left_if, left_err, left_ok)

  pub ids-capset : (p e i : ℕ) → Leaves (KeepsIds top) (after_capset creds p e i)
  ids-capset p e i = left_if (KeepsIds top) (may_capset creds p e i) (Ok (with_sets creds p e i)) (Err 1)
      (λ h. left_ok (KeepsIds top) (with_sets creds p e i)
      (record { no_new_privs = k.no_new_privs; mdwe = k.mdwe; ring = k.ring; uids = k.uids; gids = k.gids; groups = k.groups })) (λ h. left_err (KeepsIds top) 1)

  -- the effective ids stay, and the saved ones become these
  pub ids-exec : (file : FileCreds) (nosuid : Bool) → Leaves (KeepsIds top) (exec_in true creds file nosuid)
  ids-exec file nosuid = left_if (KeepsIds top) (is_refused creds file nosuid) (Err 1) (Ok (exec_done_in true creds file nosuid))
      (λ h. left_err (KeepsIds top) 1)
      (λ h. left_ok (KeepsIds top) (exec_done_in true creds file nosuid) (record {
        no_new_privs = k.no_new_privs;
        mdwe = k.mdwe;
        ring = λ e. cc;
        uids = record { real = k.uids.real; effective = k.uids.effective; saved = k.uids.effective };
        gids = record { real = k.gids.real; effective = k.gids.effective; saved = k.gids.effective };
        groups = k.groups;
      }))

-- the newest user namespace is not the first
pub not_one : (users : ℕ) → eqb (users + 2) 1 ≡ false
not_one users = grind (arith, nat_tests)
