-- setuid(2) and setgid(2). A privileged caller sets all three ids; another caller sets the effective id to its real or saved
-- one.
use Rattle.std.specs.Prelude.{ℕ, Bool, Result, Ok, Err, if◌then◌else◌, ◌==◌, ◌||◌}
use Rattle.cap_sets.specs.Sets.{has}
use Rattle.cap_sets.specs.linux_numbers.Errnos.{eperm, einval}
use Rattle.cap_sets.specs.linux_numbers.Limits.{no_id}
use Rattle.cap_sets.specs.linux_numbers.Capabilities.{cap_setgid, cap_setuid}
use Rattle.kern_creds.specs.Ids.{all_of}
use Rattle.kern_creds.specs.RootChange.{with_uids}
use Rattle.kern_creds.specs.declared.ids.Ids.{Ids}
use Rattle.kern_creds.specs.declared.creds.Creds.{Creds}

-- `made` applied to the new ids. EINVAL for the id -1; EPERM if an unprivileged caller asks for another id
abbrev pub set_id : {X : Type 0} → (Ids → X) → Bool → Ids → ℕ → Result X ℕ
set_id made privileged old id =
    if id == no_id then Err einval
    else if privileged then Ok (made (all_of id))
    else if id == old.real || id == old.saved then Ok (made (record old { effective = id }))
    else Err eperm

abbrev pub after_setuid : Creds → ℕ → Result Creds ℕ
after_setuid creds id = set_id (with_uids creds) (has creds.effective cap_setuid) creds.uids id

abbrev pub after_setgid : Creds → ℕ → Result Creds ℕ
after_setgid creds id = set_id (λ gids. record creds { gids = gids }) (has creds.effective cap_setgid) creds.gids id
