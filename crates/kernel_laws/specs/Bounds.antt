-- What no process of the service passes.
use Rattle.std.specs.Prelude.{◌≡◌, ℕ, Bool, true, false, Some}
use Rattle.std.specs.List.{AllByRecursion}
use Rattle.kernel_model.specs.cap_sets.Sets.{IsWithin, cut}
use Rattle.kernel_model.specs.kern_creds.declared.ids.Ids.{Ids}
use Rattle.kernel_model.specs.kern_creds.declared.creds.Creds.{Creds}
use Rattle.kernel_model.specs.kern_creds.declared.file.FileCreds.{FileCreds}

-- the most capabilities of each set, capabilities(7); the uids and gids that a process can get, credentials(7); and whether
-- no_new_privs is set for good, and the mark of PR_SET_MDWE, prctl(2); and whether a process can have a ring, io_uring_setup(2)
pub record Bounds : Type 0 where
  pub no_new_privs : Bool
  pub mdwe : Bool
  pub ring : Bool
  pub bounding : ℕ
  pub inheritable : ℕ
  pub permitted : ℕ
  pub effective : ℕ
  pub uid : ℕ → Bool
  pub gid : ℕ → Bool

-- a process can get the real, the effective and the saved id
pub record IsIdsWithin (ids : Ids) (ok : ℕ → Bool) : Type 0 where
  pub real : ok ids.real ≡ true
  pub effective : ok ids.effective ≡ true
  pub saved : ok ids.saved ≡ true

-- the credentials are within the bounds, and ambient capabilities are permitted and inheritable
pub record Keeps (top : Bounds) (creds : Creds) : Type 0 where
  pub no_new_privs : top.no_new_privs ≡ true → creds.no_new_privs ≡ true
  pub mdwe : top.mdwe ≡ true → creds.mdwe ≡ true
  pub ring : creds.ring ≡ true → top.ring ≡ true
  pub bounding : IsWithin creds.bounding top.bounding
  pub inheritable : IsWithin creds.inheritable top.inheritable
  pub permitted : IsWithin creds.permitted top.permitted
  pub effective : IsWithin creds.effective top.effective
  pub effective_permitted : IsWithin creds.effective creds.permitted
  pub ambient_permitted : IsWithin creds.ambient creds.permitted
  pub ambient_inheritable : IsWithin creds.ambient creds.inheritable
  pub uids : IsIdsWithin creds.uids top.uid
  pub gids : IsIdsWithin creds.gids top.gid
  pub groups : AllByRecursion (λ id. top.gid id ≡ true) creds.groups

-- what holds of the credentials of every process, in whatever user namespace it is: what root and capabilities can do there does
-- not reach out of it, user_namespaces(7)
pub record KeepsIds (top : Bounds) (creds : Creds) : Type 0 where
  pub no_new_privs : top.no_new_privs ≡ true → creds.no_new_privs ≡ true
  pub mdwe : top.mdwe ≡ true → creds.mdwe ≡ true
  pub ring : creds.ring ≡ true → top.ring ≡ true
  pub uids : IsIdsWithin creds.uids top.uid
  pub gids : IsIdsWithin creds.gids top.gid
  pub groups : AllByRecursion (λ id. top.gid id ≡ true) creds.groups

-- by whether the process is in a newer user namespace
abbrev pub KeepsIn : Bool → Bounds → Creds → Type 0
KeepsIn false = Keeps
KeepsIn true = KeepsIds

-- bounds that no change of ids and no execve of a file without marks leaves
pub record IsSettled (top : Bounds) : Type 0 where
  pub inheritable : IsWithin top.inheritable top.bounding
  pub ambient : IsWithin (cut top.permitted top.inheritable) top.effective
  pub root_effective : top.uid 0 ≡ true → IsWithin top.permitted top.effective
  pub root_permitted : top.uid 0 ≡ true → top.no_new_privs ≡ false → IsWithin top.bounding top.permitted

-- bounds that no execve of this file leaves where its marks are honoured
pub record Admits (top : Bounds) (file : FileCreds) : Type 0 where
  pub owner : (id : ℕ) → file.setuid ≡ Some id → top.uid id ≡ true
  pub group : (id : ℕ) → file.setgid ≡ Some id → top.gid id ≡ true
  pub permitted : IsWithin (cut file.caps top.bounding) top.permitted
  pub effective : file.effective ≡ true → IsWithin (cut file.caps top.bounding) top.effective
