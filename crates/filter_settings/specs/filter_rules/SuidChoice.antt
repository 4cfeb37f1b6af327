-- RestrictSUIDSGID=: what the rules do to calls of a name.
use Rattle.std.specs.Prelude.{ℕ, if◌then◌else◌, Option, None, Some, List, [], ◌∷◌, codes}
use Rattle.std.specs.Option.{option_map}
use Rattle.std.specs.Str.{bytes_eq}
use Rattle.dropin_merge.specs.unit_names.declared.version.Version.{Version}
use Rattle.call_rules.specs.Tested.{Tested}
use Rattle.filter_settings.specs.declared.filter_rules.choice.Choice.{Choice}
use Rattle.dropin_merge.specs.linux_numbers.Errnos.{eperm, enosys}
use Rattle.call_rules.specs.declared.actions.Action.TheVariants.{Errno, Allow}
use Rattle.filter_settings.specs.filter_rules.Suid.{mode_argument, flags_argument, set_user_id, set_group_id, o_creat}
use Rattle.filter_settings.specs.filter_rules.Choices.{always, bits}

-- the test that the call has a mode
abbrev pub mode_test : List ℕ → Option Tested
mode_test name = option_map (λ at. bits at o_creat) (flags_argument name)

abbrev pub mode_choice : Option Tested → ℕ → Choice
mode_choice given at = record { wide = None; given = given; any = bits at set_user_id ∷ bits at set_group_id ∷ []; action = Errno eperm; rest = Allow }

abbrev pub suid_choice : List ℕ → Option Choice
suid_choice name = option_map (mode_choice (mode_test name)) (mode_argument name)

-- by the rules of a version of systemd two more calls have a rule
abbrev pub suid_choice_in : Option Version → List ℕ → Option Choice
suid_choice_in None name = suid_choice name
suid_choice_in (Some version) name =
    if bytes_eq name (codes "openat2") then Some (always (Errno enosys))
    else if bytes_eq name (codes "fchmodat2") then Some (mode_choice None 2)
    else suid_choice name
