-- What execve leaves, one rule of capabilities(7) after the other.
use Rattle.std.proofs.Common.{◌≡◌, ◌≢◌, ℕ, Bool, true, false, arith, refl, cond, Option, Some, Ok, Err, eqb, ap, ◌∙◌}
use Rattle.std.specs.Prelude.{◌&&◌, ◌||◌, not}
use Rattle.std.proofs.lemmas.Bool.{and_parts, and_from, not-true}
use Rattle.std.proofs.lemmas.Bool.Decides.{nat_tests}
use Rattle.cap_sets.specs.Sets.{none, union, cut}
use Rattle.kern_creds.specs.declared.ids.Ids.{Ids}
use Rattle.kern_creds.specs.declared.file.FileCreds.{FileCreds}
use Rattle.kern_creds.specs.declared.creds.Creds.{Creds}
use Rattle.kern_creds.specs.Exec.{owner_or, exec_ids, honours, is_privileged, runs_as_root, exec_uids, exec_ambient, exec_gains}
use Rattle.kern_creds.specs.Exec.{exec_permitted, exec_effective, is_effective, exec_done, is_refused, after_exec}
use Rattle.kern_creds.proofs.Answers.{left_err, left_ok, left_if}

at_true : {X : Type 0} (b : Bool) (x y : X) → b ≡ true → cond b x y ≡ x
at_true true x y e = refl
at_true false x y e = cc

at_false : {X : Type 0} (b : Bool) (x y : X) → b ≡ false → cond b x y ≡ y
at_false true x y e = cc
at_false false x y e = refl

zero_or : (n : ℕ) (b : Bool) → n ≡ 0 → (eqb n 0 || b) ≡ true
zero_or n b e = ap (λ k. eqb k 0 || b) e

or_both : (a b c : Bool) → b ≡ true → c ≡ true → (a || (b && c)) ≡ true
or_both a b c p q = grind arith

neither : (n : ℕ) (b : Bool) → n ≢ 0 → b ≡ false → (eqb n 0 || b) ≡ false
neither n b ne e = grind (arith, nat_tests)

module _ (creds now : Creds) (file : FileCreds) (nosuid : Bool) where
  abbrev h : Bool
  h = honours creds nosuid

  abbrev amb : ℕ
  amb = exec_ambient creds file nosuid

  abbrev gains : ℕ
  gains = exec_gains creds file nosuid

  abbrev root : Bool
  root = runs_as_root (exec_uids creds file nosuid)

  abbrev both : ℕ
  both = union creds.inheritable creds.bounding

  abbrev given : ℕ
  given = union (cut file.caps creds.bounding) amb

  -- what holds of the new credentials holds of those that are left
  done : (P : Creds → Type 0) → P (exec_done creds file nosuid) → after_exec creds file nosuid ≡ Ok now → P now
  done P p e =
      (left_if P (is_refused creds file nosuid) (Err 1) (Ok (exec_done creds file nosuid)) (λ r. left_err P 1)
      (λ r. left_ok P (exec_done creds file nosuid) p)).held now e

  pub keepcaps_cleared : after_exec creds file nosuid ≡ Ok now → now.keepcaps ≡ false
  keepcaps_cleared = done (λ new. new.keepcaps ≡ false) refl

  pub saved_uid : after_exec creds file nosuid ≡ Ok now → now.uids.saved ≡ now.uids.effective
  saved_uid = done (λ new. new.uids.saved ≡ new.uids.effective) refl

  pub saved_gid : after_exec creds file nosuid ≡ Ok now → now.gids.saved ≡ now.gids.effective
  saved_gid = done (λ new. new.gids.saved ≡ new.gids.effective) refl

  owned : (ids : Ids) (marked : Option ℕ) (owner : ℕ) → h ≡ true → marked ≡ Some owner → (exec_ids h ids marked).effective ≡ owner
  owned ids marked owner on m = at_true h (owner_or marked ids.effective) ids.effective on ∙ ap (λ o. owner_or o ids.effective) m

  pub owner_effective : (owner : ℕ) → h ≡ true → file.setuid ≡ Some owner → after_exec creds file nosuid ≡ Ok now
      → now.uids.effective ≡ owner
  owner_effective owner on m = done (λ new. new.uids.effective ≡ owner) (owned creds.uids file.setuid owner on m)

  pub group_effective : (group : ℕ) → h ≡ true → file.setgid ≡ Some group → after_exec creds file nosuid ≡ Ok now
      → now.gids.effective ≡ group
  group_effective group on m = done (λ new. new.gids.effective ≡ group) (owned creds.gids file.setgid group on m)

  pub rest_stays : after_exec creds file nosuid ≡ Ok now → (now.uids.real ≡ creds.uids.real) × (now.gids.real ≡ creds.gids.real) ×
      (now.groups ≡ creds.groups) × (now.inheritable ≡ creds.inheritable) × (now.bounding ≡ creds.bounding) ×
      (now.no_new_privs ≡ creds.no_new_privs) × (now.mdwe ≡ creds.mdwe)
  rest_stays = done (λ new. (new.uids.real ≡ creds.uids.real) × (new.gids.real ≡ creds.gids.real) × (new.groups ≡ creds.groups) ×
      (new.inheritable ≡ creds.inheritable) × (new.bounding ≡ creds.bounding) × (new.no_new_privs ≡ creds.no_new_privs) ×
      (new.mdwe ≡ creds.mdwe))
      (refl, refl, refl, refl, refl, refl, refl)

  -- ---- root

  root_gains : root ≡ true → gains ≡ both
  root_gains r = at_true root both (cond h given amb) r

  pub root_all : creds.no_new_privs ≡ false → after_exec creds file nosuid ≡ Ok now → runs_as_root now.uids ≡ true → now.permitted ≡ both
  root_all off = done (λ new. runs_as_root new.uids ≡ true → new.permitted ≡ both)
      (λ r. at_false creds.no_new_privs (cut gains creds.permitted) gains off ∙ root_gains r)

  pub root_permitted : creds.no_new_privs ≡ true → after_exec creds file nosuid ≡ Ok now → runs_as_root now.uids ≡ true
      → now.permitted ≡ cut both creds.permitted
  root_permitted on =
      done (λ new. runs_as_root new.uids ≡ true → new.permitted ≡ cut both creds.permitted)
      (λ r. at_true creds.no_new_privs (cut gains creds.permitted) gains on ∙ ap (λ g. cut g creds.permitted) (root_gains r))

  all_effective : is_effective creds file nosuid ≡ true → exec_effective creds file nosuid ≡ exec_permitted creds file nosuid
  all_effective e = at_true (is_effective creds file nosuid) (exec_permitted creds file nosuid) amb e

  pub root_effective : after_exec creds file nosuid ≡ Ok now → now.uids.effective ≡ 0 → now.effective ≡ now.permitted
  root_effective = done (λ new. new.uids.effective ≡ 0 → new.effective ≡ new.permitted)
      (λ z. all_effective (zero_or (exec_uids creds file nosuid).effective (h && file.effective) z))

  -- ---- others

  other_gains : root ≡ false → gains ≡ cond h given amb
  other_gains r = at_false root both (cond h given amb) r

  unmarked : h ≡ true → creds.no_new_privs ≡ false
  unmarked on = not-true creds.no_new_privs (and_parts (not creds.no_new_privs) (not nosuid) on).0

  pub by_file : h ≡ true → after_exec creds file nosuid ≡ Ok now → runs_as_root now.uids ≡ false
      → now.permitted ≡ union (cut file.caps creds.bounding) now.ambient
  by_file on =
      done (λ new. runs_as_root new.uids ≡ false → new.permitted ≡ union (cut file.caps creds.bounding) new.ambient)
      (λ r. at_false creds.no_new_privs (cut gains creds.permitted) gains (unmarked on) ∙ other_gains r ∙ at_true h given amb on)

  not_honoured : nosuid ≡ true → h ≡ false
  not_honoured e = ap (λ b. not creds.no_new_privs && not b) e ∙ ends (not creds.no_new_privs)
    where
      ends : (b : Bool) → (b && false) ≡ false
      ends true = refl
      ends false = refl

  pub by_ambient : nosuid ≡ true → creds.no_new_privs ≡ false → after_exec creds file nosuid ≡ Ok now → runs_as_root now.uids ≡ false
      → now.permitted ≡ now.ambient
  by_ambient e off =
      done (λ new. runs_as_root new.uids ≡ false → new.permitted ≡ new.ambient)
      (λ r. at_false creds.no_new_privs (cut gains creds.permitted) gains off ∙ other_gains r ∙ at_false h given amb (not_honoured e))

  pub by_permitted : creds.no_new_privs ≡ true → after_exec creds file nosuid ≡ Ok now → runs_as_root now.uids ≡ false
      → now.permitted ≡ cut now.ambient creds.permitted
  by_permitted on =
      done (λ new. runs_as_root new.uids ≡ false → new.permitted ≡ cut new.ambient creds.permitted)
      (λ r. at_true creds.no_new_privs (cut gains creds.permitted) gains on
      ∙ ap (λ g. cut g creds.permitted) (other_gains r ∙ at_false h given amb (ap (λ b. not b && not nosuid) on)))

  pub bit_effective : h ≡ true → file.effective ≡ true → after_exec creds file nosuid ≡ Ok now → now.effective ≡ now.permitted
  bit_effective on bit = done (λ new. new.effective ≡ new.permitted)
      (all_effective (or_both (eqb (exec_uids creds file nosuid).effective 0) h file.effective on bit))

  pub without_bit : (h && file.effective) ≡ false → after_exec creds file nosuid ≡ Ok now → now.uids.effective ≢ 0
      → now.effective ≡ now.ambient
  without_bit off =
      done (λ new. new.uids.effective ≢ 0 → new.effective ≡ new.ambient)
      (λ ne. at_false (is_effective creds file nosuid) (exec_permitted creds file nosuid) amb
      (neither (exec_uids creds file nosuid).effective (h && file.effective) ne off))

  pub ambient_emptied : h ≡ true → is_privileged file ≡ true → after_exec creds file nosuid ≡ Ok now → now.ambient ≡ none
  ambient_emptied on p = done (λ new. new.ambient ≡ none)
      (at_true (h && is_privileged file) none creds.ambient (and_from h (is_privileged file) on p))

  pub ambient_kept : h ≡ false → after_exec creds file nosuid ≡ Ok now → now.ambient ≡ creds.ambient
  ambient_kept off = done (λ new. new.ambient ≡ creds.ambient)
      (at_false (h && is_privileged file) none creds.ambient (ap (λ b. b && is_privileged file) off))
