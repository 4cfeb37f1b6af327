-- prctl(2), the operations on credentials.
use Rattle.std.specs.Prelude.{ℕ, Bool, true, Result, Ok, Err, if◌then◌else◌, ◌&&◌, not, nat_lt}
use Rattle.cap_sets.specs.Sets.{has, none, union, minus, single}
use Rattle.kern_creds.specs.declared.creds.Creds.{Creds}
use Rattle.cap_sets.specs.linux_numbers.Errnos.{eperm, einval}
use Rattle.cap_sets.specs.linux_numbers.Capabilities.{cap_setpcap, cap_last_cap}

-- PR_CAPBSET_DROP: removes the capability from the bounding set
abbrev pub after_drop_bounding : Creds → ℕ → Result Creds ℕ
after_drop_bounding creds cap =
    if nat_lt cap_last_cap cap then Err einval
    else if not (has creds.effective cap_setpcap) then Err eperm
    else Ok (record creds { bounding = minus creds.bounding (single cap) })

-- PR_CAP_AMBIENT_RAISE: adds the capability, which must be permitted and inheritable, to the ambient set
abbrev pub after_raise : Creds → ℕ → Result Creds ℕ
after_raise creds cap =
    if nat_lt cap_last_cap cap then Err einval
    else if not (has creds.permitted cap && has creds.inheritable cap) then Err eperm
    else Ok (record creds { ambient = union creds.ambient (single cap) })

-- PR_CAP_AMBIENT_LOWER: removes the capability from the ambient set
abbrev pub after_lower : Creds → ℕ → Result Creds ℕ
after_lower creds cap =
    if nat_lt cap_last_cap cap then Err einval
    else Ok (record creds { ambient = minus creds.ambient (single cap) })

-- PR_CAP_AMBIENT_CLEAR_ALL
abbrev pub after_clear_ambient : Creds → Creds
after_clear_ambient creds = record creds { ambient = none }

-- PR_SET_KEEPCAPS
abbrev pub after_set_keepcaps : Creds → Bool → Creds
after_set_keepcaps creds on = record creds { keepcaps = on }

-- PR_SET_NO_NEW_PRIVS
abbrev pub after_set_no_new_privs : Creds → Creds
after_set_no_new_privs creds = record creds { no_new_privs = true }

-- PR_SET_MDWE, with PR_MDWE_REFUSE_EXEC_GAIN
abbrev pub after_set_mdwe : Creds → Creds
after_set_mdwe creds = record creds { mdwe = true }
