-- The exec rule keeps the bounds.
use Rattle.std.proofs.Common.{◌≡◌, ℕ, Bool, true, false, arith, rules, refl, cond, Option, Some, None, Ok, Err, eqb}
use Rattle.std.specs.Prelude.{◌&&◌, ◌||◌}
use Rattle.std.proofs.lemmas.Bool.Decides.{nat_tests}
use Rattle.kernel_model.specs.cap_sets.Sets.{none, union, cut, IsWithin}
use Rattle.kernel_model.specs.kern_creds.declared.ids.Ids.{Ids}
use Rattle.kernel_model.specs.kern_creds.declared.creds.Creds.{Creds}
use Rattle.kernel_model.specs.kern_creds.declared.file.FileCreds.{FileCreds}
use Rattle.kernel_model.specs.kern_creds.Exec.{honours, is_privileged, exec_ids, exec_ambient, exec_gains, exec_permitted, exec_done}
use Rattle.kernel_model.specs.kern_creds.Exec.{is_refused, after_exec}
use Rattle.kernel_laws.specs.Bounds.{Bounds, Keeps, IsIdsWithin, IsSettled, Admits}
use Rattle.kernel_model.proofs.OfCapSets.Members.{none_within, within_self, within_through, cut_within_left, cut_within_right, within_cut}
use Rattle.kernel_model.proofs.OfCapSets.Members.{union_within, within_union_left, within_union_right}
use Rattle.kernel_model.proofs.OfKernCreds.Answers.{Leaves, left_if, left_ok, left_err}
use Rattle.kernel_laws.proofs.Kept.{cond_within}
use Rattle.kernel_laws.proofs.KeptIds.{at_zero}

pub within_if : (b : Bool) (x y a : ℕ) → (b ≡ true → IsWithin x a) → (b ≡ false → IsWithin y a) → IsWithin (cond b x y) a
within_if true x y a p q = p refl
within_if false x y a p q = q refl

pub above_if : (b : Bool) (x y a : ℕ) → (b ≡ true → IsWithin a x) → (b ≡ false → IsWithin a y) → IsWithin a (cond b x y)
above_if true x y a p q = p refl
above_if false x y a p q = q refl

root_of : (ok : ℕ → Bool) (ids : Ids) → IsIdsWithin ids ok → (eqb ids.real 0 || eqb ids.effective 0) ≡ true → ok 0 ≡ true
root_of ok ids w e = let p = w.real in let q = w.effective in grind (arith, nat_tests)

pub off : (x y : Bool) → (x ≡ true → y ≡ true) → y ≡ false → x ≡ false
off x y h e = grind arith

owned : (ok : ℕ → Bool) (b : Bool) (ids : Ids) (owner : Option ℕ) → IsIdsWithin ids ok
    → (b ≡ true → (id : ℕ) → owner ≡ Some id → ok id ≡ true) → IsIdsWithin (exec_ids b ids owner) ok
owned ok true ids None w h = search rules
owned ok true ids (Some id) w h = let own = h refl id refl in search rules
owned ok false ids owner w h = search rules

module _ (top : Bounds) (creds : Creds) (file : FileCreds) (nosuid : Bool) (k : Keeps top creds) (s : IsSettled top) (a : honours creds nosuid ≡ true → Admits top file) where
  abbrev amb : ℕ
  amb = exec_ambient creds file nosuid

  abbrev uids : Ids
  uids = exec_ids (honours creds nosuid) creds.uids file.setuid

  abbrev gains : ℕ
  gains = exec_gains creds file nosuid

  abbrev permitted : ℕ
  permitted = exec_permitted creds file nosuid

  -- what is ambient before lies within these four, and so does what is ambient after
  amb_before : (c : ℕ) → IsWithin creds.ambient c → IsWithin amb c
  amb_before c w = within_if (honours creds nosuid && is_privileged file) none creds.ambient c (λ e. none_within c) (λ e. w)

  amb_top : IsWithin amb top.effective
  amb_top = amb_before top.effective
      (within_through _ _ _
      (within_cut _ _ _ (within_through _ _ _ k.ambient_permitted k.permitted) (within_through _ _ _ k.ambient_inheritable k.inheritable))
      s.ambient)

  uids_in : IsIdsWithin uids top.uid
  uids_in = owned top.uid (honours creds nosuid) creds.uids file.setuid k.uids (λ h. (a h).owner)

  inh_top : IsWithin creds.inheritable top.bounding
  inh_top = within_through _ _ _ k.inheritable s.inheritable

  root_gains : creds.no_new_privs ≡ false → top.uid 0 ≡ true → IsWithin (union creds.inheritable creds.bounding) top.permitted
  root_gains n z = within_through _ _ _ (union_within _ _ _ inh_top k.bounding)
      (s.root_permitted z (off top.no_new_privs creds.no_new_privs k.no_new_privs n))

  gains_top : creds.no_new_privs ≡ false → IsWithin gains top.permitted
  gains_top n = within_if (eqb uids.real 0 || eqb uids.effective 0) _ _ top.permitted
      (λ z. root_gains n (root_of top.uid uids uids_in z))
      λ z. within_if (honours creds nosuid) (union (cut file.caps creds.bounding) amb) amb top.permitted
      (λ h. union_within _ _ _ (within_through _ _ _
      (within_cut _ _ _ (cut_within_left _ _ _ (within_self _)) (cut_within_right _ _ _ k.bounding)) (a h).permitted) amb_perm)
      (λ h. amb_perm)
    where
      amb_perm : IsWithin amb top.permitted
      amb_perm = amb_before top.permitted (within_through _ _ _ k.ambient_permitted k.permitted)

  permitted_top : IsWithin permitted top.permitted
  permitted_top = within_if creds.no_new_privs (cut gains creds.permitted) gains top.permitted
      (λ n. cut_within_right _ _ _ k.permitted) gains_top

  amb_gains : IsWithin amb gains
  amb_gains = above_if (eqb uids.real 0 || eqb uids.effective 0) _ _ amb (λ z. within_union_left _ _ _ (amb_before _ k.ambient_inheritable))
      λ z. above_if (honours creds nosuid) (union (cut file.caps creds.bounding) amb) amb amb
      (λ h. within_union_right _ _ _ (within_self amb)) (λ h. within_self amb)

  amb_permitted : IsWithin amb permitted
  amb_permitted = above_if creds.no_new_privs (cut gains creds.permitted) gains amb
      (λ n. within_cut _ _ _ amb_gains (amb_before _ k.ambient_permitted)) (λ n. amb_gains)

  privs_off : honours creds nosuid ≡ true → creds.no_new_privs ≡ false
  privs_off h = grind arith

  root_top : top.uid 0 ≡ true → IsWithin permitted top.effective
  root_top z = within_through _ _ _ permitted_top (s.root_effective z)

  gains_bit : honours creds nosuid ≡ true → file.effective ≡ true → IsWithin gains top.effective
  gains_bit h e = within_if (eqb uids.real 0 || eqb uids.effective 0) _ _ top.effective
      (λ z. let zero = root_of top.uid uids uids_in z in within_through _ _ _ (root_gains (privs_off h) zero) (s.root_effective zero))
      λ z. within_if (honours creds nosuid) (union (cut file.caps creds.bounding) amb) amb top.effective
      (λ h. union_within _ _ _ (within_through _ _ _
      (within_cut _ _ _ (cut_within_left _ _ _ (within_self _)) (cut_within_right _ _ _ k.bounding)) ((a h).effective e)) amb_top)
      (λ h. amb_top)

  -- the effective bit is honoured
  bit_top : honours creds nosuid ≡ true → file.effective ≡ true → IsWithin permitted top.effective
  bit_top h e = within_if creds.no_new_privs (cut gains creds.permitted) gains top.effective (λ n. cut_within_left _ _ _ (gains_bit h e))
      (λ n. gains_bit h e)

  raised_top : (b c d : Bool) → (b ≡ true → top.uid 0 ≡ true) → (c ≡ true → honours creds nosuid ≡ true)
      → (d ≡ true → file.effective ≡ true) → (b || (c && d)) ≡ true → IsWithin permitted top.effective
  raised_top true c d p q r e = root_top (p refl)
  raised_top false true true p q r e = bit_top (q refl) (r refl)
  raised_top false true false p q r e = cc
  raised_top false false d p q r e = cc

  pub kept-done : Keeps top (exec_done creds file nosuid)
  kept-done = record {
    no_new_privs = k.no_new_privs;
    mdwe = k.mdwe;
    ring = λ e. cc;
    bounding = k.bounding;
    inheritable = k.inheritable;
    permitted = permitted_top;
    effective = within_if (eqb uids.effective 0 || (honours creds nosuid && file.effective)) permitted amb top.effective
        (raised_top (eqb uids.effective 0) (honours creds nosuid) file.effective (at_zero top.uid uids.effective uids_in.effective)
        (λ e. e) (λ e. e)) (λ e. amb_top);
    effective_permitted = cond_within _ _ _ _ (within_self permitted) amb_permitted;
    ambient_permitted = amb_permitted;
    ambient_inheritable = amb_before _ k.ambient_inheritable;
    uids = uids_in;
    gids = owned top.gid (honours creds nosuid) creds.gids file.setgid k.gids (λ h. (a h).group);
    groups = k.groups;
  }

module _ (top : Bounds) (creds : Creds) (file : FileCreds) (nosuid : Bool) (k : Keeps top creds) (s : IsSettled top) (a : honours creds nosuid ≡ true → is_refused creds file nosuid ≡ false → Admits top file) where
  pub kept-exec : Leaves (Keeps top) (after_exec creds file nosuid)
  kept-exec = left_if (Keeps top) (is_refused creds file nosuid) (Err 1) (Ok (exec_done creds file nosuid)) (λ e. left_err (Keeps top) 1)
      (λ e. left_ok (Keeps top) (exec_done creds file nosuid) (kept-done top creds file nosuid k s (λ h. a h e)))
