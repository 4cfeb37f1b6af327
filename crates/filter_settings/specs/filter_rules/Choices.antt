-- What a filter does to one call: the form that rules are made from.
use Rattle.std.specs.Prelude.{ℕ, ◌&&◌, if◌then◌else◌, Bool, true, Option, None, Some, List, [], ◌∷◌, ◌++◌, map}
use Rattle.std.specs.Option.{option_map_or, option_to_list}
use Rattle.std.specs.List.{list_any}
use Rattle.call_rules.specs.bpf_code.declared.machine.CallData.{CallData}
use Rattle.call_rules.specs.declared.actions.Action.{Action}
use Rattle.call_rules.specs.declared.actions.Action.TheVariants.{Errno, Allow}
use Rattle.dropin_merge.specs.unit_names.declared.version.Version.{Version}
use Rattle.call_rules.specs.Tested.{Tested}
use Rattle.call_rules.specs.Widened.{Widened}
use Rattle.call_rules.specs.Action.{test_holds, unless_wide}
use Rattle.call_rules.specs.declared.rules.Case.{Case}
use Rattle.call_rules.specs.declared.rules.CallRule.{CallRule}
use Rattle.filter_settings.specs.declared.filter_rules.choice.Choice.{Choice}
use Rattle.dropin_merge.specs.linux_numbers.Errnos.{eperm}

-- some test holds, and so does the given test
abbrev pub is_chosen : CallData → Choice → Bool
is_chosen input choice = option_map_or (test_holds input) choice.given true && list_any (test_holds input) choice.any

-- a wide argument decides first
abbrev pub choice_action : CallData → Choice → Action
choice_action input choice = unless_wide input choice.wide (if is_chosen input choice then choice.action else choice.rest)

-- the test that the bits of the mask are set in the argument, and the test that the argument is the value
abbrev pub bits : ℕ → ℕ → Tested
bits at mask = record { arg = at; mask = mask; value = mask }

abbrev pub whole : ℕ → ℕ → Tested
whole at value = record { arg = at; mask = 0xffff_ffff; value = value }

-- the action for all arguments
abbrev pub always : Action → Choice
always action = record { wide = None; given = None; any = []; action = action; rest = action }

-- the call is not permitted where a test holds
abbrev pub refused_where : List Tested → Choice
refused_where tests = record { wide = None; given = None; any = tests; action = Errno eperm; rest = Allow }

-- with a version of systemd the action for a wide argument
abbrev pub wide_as : Option Version → ℕ → Action → Option Widened
wide_as None at action = None
wide_as (Some version) at action = Some (record { arg = at; action = action })

-- an action where the argument is one of the values that are tested for, and another for the rest. Tests look at 32 bits: with a version
-- of systemd a wide argument is none of the values
abbrev pub by_value : Option Version → ℕ → List Tested → Action → Action → Choice
by_value systemd at tests action rest =
    record { wide = wide_as systemd at rest; given = None; any = tests; action = action; rest = rest }

-- the call is permitted only where it is
abbrev pub allowed_values : Option Version → ℕ → List Tested → Choice
allowed_values systemd at tests = by_value systemd at tests Allow (Errno eperm)

-- a case for each test, and the rule of a number
abbrev pub case_with : Option Tested → Action → Tested → Case
case_with given action test = record { tests = option_to_list given ++ test ∷ []; action = action }

abbrev pub rule_with : ℕ → Choice → CallRule
rule_with number choice =
    record { number = number; wide = choice.wide; cases = map (case_with choice.given choice.action) choice.any; rest = choice.rest }
