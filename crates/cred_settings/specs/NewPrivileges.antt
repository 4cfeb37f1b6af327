-- systemd.exec(5), NoNewPrivileges=: whether execve(2) can give no new privileges (prctl(2), PR_SET_NO_NEW_PRIVS).
use Rattle.std.specs.Prelude.{ℕ, Bool, ◌==◌, ◌&&◌, ◌||◌, not, cond, Option, List, codes}
use Rattle.dropin_merge.specs.declared.resolved.Resolved.{Resolved}
use Rattle.dropin_merge.specs.declared.unit_values.value.FileNote.{FileNote}
use Rattle.dropin_merge.specs.unit_names.Versions.{is_257, is_known}
use Rattle.dropin_merge.specs.unit_names.declared.version.Version.{Version}
use Rattle.dropin_merge.specs.unit_values.Flags.{unit_flag, unit_flag_notes}
use Rattle.site_table.specs.cap_sets.Sets.{has}
use Rattle.dropin_merge.specs.linux_numbers.Capabilities.{cap_sys_admin}

-- it is in effect if it is set, or if a filter is on for a service that may install no filter without it: its uid is not 0, and its
-- ambient set lacks CAP_SYS_ADMIN (seccomp(2), capabilities(7))
abbrev pub is_in_effect : Bool → Bool → ℕ → ℕ → Bool
is_in_effect is_set has_filter uid ambient = is_set || (has_filter && (not (uid == 0) && not (has ambient cap_sys_admin)))

-- systemd 257 lets a service keep two capabilities until its filters are installed. It does so for another user than root, if a setting
-- restricts the service by a filter, or by what that version counts as one, and if the filters let the service give the two up again
-- (keep_seccomp_privileges)
abbrev pub is_keeping : Option Version → Bool → ℕ → Bool → Bool
is_keeping systemd is_filtered uid may_give_up = is_257 systemd && ((is_filtered && not (uid == 0)) && may_give_up)

-- in a version of systemd it is in effect if it is set, or if the uid is not 0 and a setting restricts the service by a filter, or by what
-- that version counts as one. A service that keeps capabilities for its filters needs it only if it is set. The ambient set does not matter
-- (context_has_no_new_privileges)
abbrev pub is_in_effect_by : Bool → Bool → ℕ → Bool → Bool
is_in_effect_by is_set is_filtered uid keeps = is_set || ((is_filtered && not (uid == 0)) && not keeps)

abbrev pub is_in_effect_in : Option Version → Bool → Bool → Bool → ℕ → ℕ → Bool → Bool
is_in_effect_in systemd is_set has_filter is_filtered uid ambient keeps =
    cond (is_known systemd) (is_in_effect_by is_set is_filtered uid keeps) (is_in_effect is_set has_filter uid ambient)

abbrev pub is_set_by : Resolved → Bool
is_set_by unit = unit_flag unit (codes "NoNewPrivileges")

abbrev pub new_privileges_notes : Resolved → List FileNote
new_privileges_notes unit = unit_flag_notes unit (codes "NoNewPrivileges")
