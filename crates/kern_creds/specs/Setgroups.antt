-- setgroups(2): EPERM without CAP_SETGID, EINVAL for more than NGROUPS_MAX ids; else these become the supplementary groups.
use Rattle.std.specs.Prelude.{ℕ, List, length, Result, Ok, Err, if◌then◌else◌, not, nat_lt}
use Rattle.cap_sets.specs.Sets.{has}
use Rattle.kern_creds.specs.declared.creds.Creds.{Creds}
use Rattle.cap_sets.specs.linux_numbers.Errnos.{eperm, einval}
use Rattle.cap_sets.specs.linux_numbers.Limits.{ngroups_max}
use Rattle.cap_sets.specs.linux_numbers.Capabilities.{cap_setgid}

abbrev pub after_setgroups : Creds → List ℕ → Result Creds ℕ
after_setgroups creds ids =
    if not (has creds.effective cap_setgid) then Err eperm
    else if nat_lt ngroups_max (length ids) then Err einval
    else Ok (record creds { groups = ids })
