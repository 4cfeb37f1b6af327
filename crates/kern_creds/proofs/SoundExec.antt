-- execve keeps what is effective permitted, and what is ambient permitted and inheritable; what it gives is bounded.
use Rattle.std.proofs.Common.{◌≡◌, ℕ, Bool, true, false, cond, Ok, Err}
use Rattle.std.specs.Prelude.{◌&&◌}
use Rattle.cap_sets.specs.Sets.{none, union, cut, IsWithin}
use Rattle.cap_sets.proofs.Members.{within_self, none_within, cut_within_left, cut_within_right, within_cut, union_within}
use Rattle.cap_sets.proofs.Members.{within_union_left, within_union_right}
use Rattle.kern_creds.specs.declared.file.FileCreds.{FileCreds}
use Rattle.kern_creds.specs.declared.creds.Creds.{Creds}
use Rattle.kern_creds.specs.Exec.{honours, is_privileged_in, runs_as_root_in, exec_uids_in, exec_ambient_in, exec_gains_in}
use Rattle.kern_creds.specs.Exec.{exec_permitted_in, is_effective_in, exec_done_in, is_refused, exec_in}
use Rattle.kern_creds.specs.Sound.{IsSound}
use Rattle.kern_creds.proofs.Answers.{Leaves, left_err, left_ok, left_if}

within_if : (b : Bool) (x y a : ℕ) → IsWithin x a → IsWithin y a → IsWithin (cond b x y) a
within_if true x y a p q = p
within_if false x y a p q = q

above_if : (b : Bool) (x y a : ℕ) → IsWithin a x → IsWithin a y → IsWithin a (cond b x y)
above_if true x y a p q = p
above_if false x y a p q = q

cut_if : (b : Bool) (x y : ℕ) → b ≡ true → IsWithin (cond b (cut x y) x) y
cut_if true x y e = cut_within_right _ _ _ (within_self y)
cut_if false x y e = cc

module _ (newer : Bool) (creds : Creds) (file : FileCreds) (nosuid : Bool) where
  abbrev amb : ℕ
  amb = exec_ambient_in newer creds file nosuid

  abbrev gains : ℕ
  gains = exec_gains_in newer creds file nosuid

  abbrev root : Bool
  root = runs_as_root_in newer (exec_uids_in newer creds file nosuid)

  -- what is ambient afterwards lies where it lay before
  amb_before : (c : ℕ) → IsWithin creds.ambient c → IsWithin amb c
  amb_before c w = within_if (honours creds nosuid && is_privileged_in newer file) none creds.ambient c (none_within c) w

  pub gains_nothing : creds.no_new_privs ≡ true → IsWithin (exec_permitted_in newer creds file nosuid) creds.permitted
  gains_nothing e = cut_if creds.no_new_privs gains creds.permitted e

  module _ (k : IsSound creds) where
    amb_gains : IsWithin amb gains
    amb_gains =
        above_if root (union creds.inheritable creds.bounding) _ amb (within_union_left _ _ _ (amb_before _ k.ambient_is_inheritable))
        (above_if (honours creds nosuid) (union (cut file.caps creds.bounding) amb) amb amb (within_union_right _ _ _ (within_self amb))
        (within_self amb))

    amb_permitted : IsWithin amb (exec_permitted_in newer creds file nosuid)
    amb_permitted = above_if creds.no_new_privs (cut gains creds.permitted) gains amb
        (within_cut _ _ _ amb_gains (amb_before _ k.ambient_is_permitted)) amb_gains

    sound-done : IsSound (exec_done_in newer creds file nosuid)
    sound-done = record {
      effective_is_permitted = within_if (is_effective_in newer creds file nosuid) (exec_permitted_in newer creds file nosuid) amb _
          (within_self _) amb_permitted;
      ambient_is_permitted = amb_permitted;
      ambient_is_inheritable = amb_before _ k.ambient_is_inheritable;
    }

    pub sound-exec : Leaves IsSound (exec_in newer creds file nosuid)
    sound-exec = left_if IsSound (is_refused creds file nosuid) (Err 1) (Ok (exec_done_in newer creds file nosuid))
        (λ e. left_err IsSound 1) (λ e. left_ok IsSound _ sound-done)

    gains_bounded : IsWithin gains (union creds.inheritable creds.bounding)
    gains_bounded =
        let inherited = within_union_left amb creds.inheritable creds.bounding (amb_before _ k.ambient_is_inheritable) in
        within_if root (union creds.inheritable creds.bounding) _ _ (within_self _)
        (within_if (honours creds nosuid) (union (cut file.caps creds.bounding) amb) amb _
        (union_within _ _ _ (cut_within_right _ _ _ (within_union_right _ _ _ (within_self _))) inherited) inherited)

    permitted_bounded : IsWithin (exec_permitted_in newer creds file nosuid) (union creds.inheritable creds.bounding)
    permitted_bounded = within_if creds.no_new_privs (cut gains creds.permitted) gains _ (cut_within_left _ _ _ gains_bounded) gains_bounded

    pub bounded-exec : Leaves (λ now. IsWithin now.permitted (union creds.inheritable creds.bounding)) (exec_in newer creds file nosuid)
    bounded-exec = left_if _ (is_refused creds file nosuid) (Err 1) (Ok (exec_done_in newer creds file nosuid)) (λ e. left_err _ 1)
        (λ e. left_ok _ _ permitted_bounded)
