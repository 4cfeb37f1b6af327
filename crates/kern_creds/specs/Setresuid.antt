-- setresuid(2) and setresgid(2). A privileged caller sets the ids to any values; another caller sets each to one of its three.
-- An id of -1 stays. EPERM if an unprivileged caller asks for another id.
use Rattle.std.specs.Prelude.{ℕ, Bool, Result, Ok, Err, if◌then◌else◌, ◌||◌}
use Rattle.cap_sets.specs.Sets.{has}
use Rattle.cap_sets.specs.linux_numbers.Errnos.{eperm}
use Rattle.cap_sets.specs.linux_numbers.Capabilities.{cap_setgid, cap_setuid}
use Rattle.kern_creds.specs.Ids.{may_take_all, kept_ids}
use Rattle.kern_creds.specs.RootChange.{with_uids}
use Rattle.kern_creds.specs.declared.ids.Ids.{Ids}
use Rattle.kern_creds.specs.declared.creds.Creds.{Creds}

-- `made` applied to the new ids, if the caller may set them
abbrev pub set_all_ids : {X : Type 0} → (Ids → X) → Bool → Ids → ℕ → ℕ → ℕ → Result X ℕ
set_all_ids made privileged old real effective saved =
    if privileged || may_take_all old real effective saved then Ok (made (kept_ids old real effective saved)) else Err eperm

abbrev pub after_setresuid : Creds → ℕ → ℕ → ℕ → Result Creds ℕ
after_setresuid creds real effective saved =
    set_all_ids (with_uids creds) (has creds.effective cap_setuid) creds.uids real effective saved

abbrev pub after_setresgid : Creds → ℕ → ℕ → ℕ → Result Creds ℕ
after_setresgid creds real effective saved =
    set_all_ids (λ gids. record creds { gids = gids }) (has creds.effective cap_setgid) creds.gids real effective saved
