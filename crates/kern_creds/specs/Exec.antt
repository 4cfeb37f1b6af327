-- The credentials of a process after it executes a file: execve(2) and capabilities(7), "Transformation of capabilities during
-- execve()". Definitions without `in` in their names are for the first user namespace. In a newer one, set-id bits have no
-- effect and root is a user like others.
use Rattle.std.specs.Prelude.{ℕ, Bool, true, false, Option, Some, None, Result, Ok, Err, if◌then◌else◌, ◌==◌, ◌&&◌, ◌||◌, not}
use Rattle.cap_sets.specs.Sets.{none, union, cut, within}
use Rattle.kern_creds.specs.declared.ids.Ids.{Ids}
use Rattle.kern_creds.specs.declared.file.FileCreds.{FileCreds}
use Rattle.kern_creds.specs.declared.creds.Creds.{Creds}
use Rattle.cap_sets.specs.linux_numbers.Errnos.{eperm}

-- "Safety checking for capability-dumb binaries": the file's effective bit is set and the bounding set lacks one of the file's
-- capabilities. On a mount with nosuid the kernel ignores the file's marks.
abbrev pub is_refused : Creds → FileCreds → Bool → Bool
is_refused creds file nosuid = (not nosuid && file.effective) && not (within file.caps creds.bounding)

-- set-id bits and file capabilities count, unless no_new_privs is set or the mount has nosuid
abbrev pub honours : Creds → Bool → Bool
honours creds nosuid = not creds.no_new_privs && not nosuid

abbrev pub is_set_id : Option ℕ → Bool
is_set_id None = false
is_set_id (Some owner) = true

-- set-id bits count in the first user namespace only: the ids of a file have no meaning in a newer one (user_namespaces(7))
abbrev pub honours_ids : Bool → Creds → Bool → Bool
honours_ids newer creds nosuid = not newer && honours creds nosuid

-- the file is privileged: it has a set-id bit that can count, or capabilities
abbrev pub is_privileged_in : Bool → FileCreds → Bool
is_privileged_in newer file = (not newer && (is_set_id file.setuid || is_set_id file.setgid)) || not (file.caps == none)

abbrev pub is_privileged : FileCreds → Bool
is_privileged file = is_privileged_in false file

abbrev pub owner_or : Option ℕ → ℕ → ℕ
owner_or None id = id
owner_or (Some owner) id = owner

-- the effective id becomes the file's owner if a set-id bit counts; the saved id becomes the effective one
abbrev pub exec_ids : Bool → Ids → Option ℕ → Ids
exec_ids honoured ids owner =
    let id = if honoured then owner_or owner ids.effective else ids.effective in
    record { real = ids.real; effective = id; saved = id }

abbrev pub exec_uids_in : Bool → Creds → FileCreds → Bool → Ids
exec_uids_in newer creds file nosuid = exec_ids (honours_ids newer creds nosuid) creds.uids file.setuid

abbrev pub exec_uids : Creds → FileCreds → Bool → Ids
exec_uids creds file nosuid = exec_uids_in false creds file nosuid

-- P'(ambient) is empty if the file is privileged, else it is P(ambient)
abbrev pub exec_ambient_in : Bool → Creds → FileCreds → Bool → ℕ
exec_ambient_in newer creds file nosuid = if honours creds nosuid && is_privileged_in newer file then none else creds.ambient

abbrev pub exec_ambient : Creds → FileCreds → Bool → ℕ
exec_ambient creds file nosuid = exec_ambient_in false creds file nosuid

-- the real or the effective id is 0: "Capabilities and execution of programs by root"
abbrev pub runs_as_root : Ids → Bool
runs_as_root uids = uids.real == 0 || uids.effective == 0

-- the same by user namespace: in a newer one, root is a user like others
abbrev pub runs_as_root_in : Bool → Ids → Bool
runs_as_root_in newer uids = not newer && runs_as_root uids

-- P(inheritable) | P(bounding) for root; else (F(permitted) & P(bounding)) | P'(ambient), without the file's part if its set
-- does not count
abbrev pub exec_gains_in : Bool → Creds → FileCreds → Bool → ℕ
exec_gains_in newer creds file nosuid =
    if runs_as_root_in newer (exec_uids_in newer creds file nosuid) then union creds.inheritable creds.bounding
    else if honours creds nosuid then union (cut file.caps creds.bounding) (exec_ambient_in newer creds file nosuid)
    else exec_ambient_in newer creds file nosuid

abbrev pub exec_gains : Creds → FileCreds → Bool → ℕ
exec_gains creds file nosuid = exec_gains_in false creds file nosuid

-- with no_new_privs the process gains nothing
abbrev pub exec_permitted_in : Bool → Creds → FileCreds → Bool → ℕ
exec_permitted_in newer creds file nosuid =
    if creds.no_new_privs then cut (exec_gains_in newer creds file nosuid) creds.permitted else exec_gains_in newer creds file nosuid

abbrev pub exec_permitted : Creds → FileCreds → Bool → ℕ
exec_permitted creds file nosuid = exec_permitted_in false creds file nosuid

-- the effective bit is on: the file has it and it counts, or the effective uid is 0 in the first user namespace
abbrev pub is_effective_in : Bool → Creds → FileCreds → Bool → Bool
is_effective_in newer creds file nosuid = (not newer && (exec_uids_in newer creds file nosuid).effective == 0) ||
    (honours creds nosuid && file.effective)

abbrev pub is_effective : Creds → FileCreds → Bool → Bool
is_effective creds file nosuid = is_effective_in false creds file nosuid

-- P'(effective) is P'(permitted) if the effective bit is on, else P'(ambient)
abbrev pub exec_effective_in : Bool → Creds → FileCreds → Bool → ℕ
exec_effective_in newer creds file nosuid =
    if is_effective_in newer creds file nosuid then exec_permitted_in newer creds file nosuid else exec_ambient_in newer creds file nosuid

abbrev pub exec_effective : Creds → FileCreds → Bool → ℕ
exec_effective creds file nosuid = exec_effective_in false creds file nosuid

-- P'(inheritable), P'(bounding), the groups, no_new_privs and mdwe stay; keepcaps is cleared, and a ring is closed
abbrev pub exec_done_in : Bool → Creds → FileCreds → Bool → Creds
exec_done_in newer creds file nosuid =
    record creds {
      uids = exec_uids_in newer creds file nosuid;
      gids = exec_ids (honours_ids newer creds nosuid) creds.gids file.setgid;
      permitted = exec_permitted_in newer creds file nosuid;
      effective = exec_effective_in newer creds file nosuid;
      ambient = exec_ambient_in newer creds file nosuid;
      ring = false;
      keepcaps = false;
    }

abbrev pub exec_done : Creds → FileCreds → Bool → Creds
exec_done creds file nosuid = exec_done_in false creds file nosuid

-- the result of execve; `newer` says whether the process is in a newer user namespace
abbrev pub exec_in : Bool → Creds → FileCreds → Bool → Result Creds ℕ
exec_in newer creds file nosuid = if is_refused creds file nosuid then Err eperm else Ok (exec_done_in newer creds file nosuid)

-- the same in the first user namespace
abbrev pub after_exec : Creds → FileCreds → Bool → Result Creds ℕ
after_exec creds file nosuid = exec_in false creds file nosuid
