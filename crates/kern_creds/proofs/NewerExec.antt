-- What a process has in a newer user namespace.
use Rattle.std.proofs.Common.{◌≡◌, ℕ, Bool, true, false, refl, cond, Ok, Err, ap, ◌∙◌}
use Rattle.std.specs.Prelude.{◌&&◌, not}
use Rattle.std.proofs.lemmas.Bool.{and_parts, not-true}
use Rattle.cap_sets.specs.Sets.{none, all, union, cut}
use Rattle.cap_sets.proofs.Members.{within_self, none_within}
use Rattle.kern_creds.specs.declared.file.FileCreds.{FileCreds}
use Rattle.kern_creds.specs.declared.creds.Creds.{Creds}
use Rattle.kern_creds.specs.Enter.{entered}
use Rattle.kern_creds.specs.Exec.{honours, exec_ambient_in, exec_gains_in, exec_done_in, is_refused, exec_in}
use Rattle.kern_creds.specs.Sound.{IsSound}
use Rattle.kern_creds.proofs.Answers.{left_err, left_ok, left_if}

pub sound-entered : (creds : Creds) → IsSound (entered creds)
sound-entered creds = record
    { effective_is_permitted = within_self all; ambient_is_permitted = none_within all; ambient_is_inheritable = none_within none }

at_true : {X : Type 0} (b : Bool) (x y : X) → b ≡ true → cond b x y ≡ x
at_true true x y e = refl
at_true false x y e = cc

at_false : {X : Type 0} (b : Bool) (x y : X) → b ≡ false → cond b x y ≡ y
at_false true x y e = cc
at_false false x y e = refl

module _ (creds now : Creds) (file : FileCreds) (nosuid : Bool) where
  done : (P : Creds → Type 0) → P (exec_done_in true creds file nosuid) → exec_in true creds file nosuid ≡ Ok now → P now
  done P p e =
      (left_if P (is_refused creds file nosuid) (Err 1) (Ok (exec_done_in true creds file nosuid)) (λ r. left_err P 1)
      (λ r. left_ok P (exec_done_in true creds file nosuid) p)).held now e

  pub ids_stay : exec_in true creds file nosuid ≡ Ok now → (now.uids.effective ≡ creds.uids.effective) ×
      (now.uids.saved ≡ creds.uids.effective) × (now.gids.effective ≡ creds.gids.effective) × (now.gids.saved ≡ creds.gids.effective) ×
      (now.groups ≡ creds.groups)
  ids_stay = done (λ new. (new.uids.effective ≡ creds.uids.effective) × (new.uids.saved ≡ creds.uids.effective) ×
      (new.gids.effective ≡ creds.gids.effective) × (new.gids.saved ≡ creds.gids.effective) × (new.groups ≡ creds.groups))
      (refl, refl, refl, refl, refl)

  unmarked : honours creds nosuid ≡ true → creds.no_new_privs ≡ false
  unmarked on = not-true creds.no_new_privs (and_parts (not creds.no_new_privs) (not nosuid) on).0

  pub by_file : honours creds nosuid ≡ true → exec_in true creds file nosuid ≡ Ok now
      → now.permitted ≡ union (cut file.caps creds.bounding) now.ambient
  by_file on =
      let gains = exec_gains_in true creds file nosuid in
      let amb = exec_ambient_in true creds file nosuid in
      done (λ new. new.permitted ≡ union (cut file.caps creds.bounding) new.ambient)
      (at_false creds.no_new_privs (cut gains creds.permitted) gains (unmarked on)
      ∙ at_true (honours creds nosuid) (union (cut file.caps creds.bounding) amb) amb on)
