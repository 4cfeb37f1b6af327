-- When a process may take other ids: setuid(2), setresuid(2), setgroups(2) and the set-id bits of execve(2). And when it may get a ring,
-- io_uring_setup(2).
use Rattle.std.specs.Prelude.{◌≡◌, Bool, true, false, ◌&&◌}
use Rattle.kern_creds.specs.Ids.{is_one_of}
use Rattle.kern_creds.specs.Exec.{honours, is_set_id}
use Rattle.kern_creds.specs.Calls.{Call, SetUpRing, Exec}
use Rattle.kern_creds.specs.declared.ids.Ids.{Ids}
use Rattle.kern_creds.specs.declared.creds.Creds.{Creds}

-- each of the three ids is one of the three old ones
pub record AreAmong (ids old : Ids) : Type 0 where
  pub real : is_one_of old ids.real ≡ true
  pub effective : is_one_of old ids.effective ≡ true
  pub saved : is_one_of old ids.saved ≡ true

-- the call executes a file whose set-user-id bit counts
abbrev pub is_set_user : Creds → Call → Bool
is_set_user creds (Exec file nosuid) = honours creds nosuid && is_set_id file.setuid
is_set_user creds _ = false

-- the call executes a file whose set-group-id bit counts
abbrev pub is_set_group : Creds → Call → Bool
is_set_group creds (Exec file nosuid) = honours creds nosuid && is_set_id file.setgid
is_set_group creds _ = false

-- the call sets up a ring
abbrev pub is_set_up : Call → Bool
is_set_up SetUpRing = true
is_set_up _ = false
