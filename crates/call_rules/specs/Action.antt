-- The action of a rule set on the data of a call, as seccomp(2) filters decide.
use Rattle.std.specs.Prelude.{ℕ, ◌+◌, ◌/◌, ◌%◌, ◌^◌, ◌==◌, if◌then◌else◌, find, bit_and, slice_index, Bool, not, Option, None, Some}
use Rattle.std.specs.Option.{option_map_or}
use Rattle.std.specs.List.{list_all}
use Rattle.text_forms.specs.linux_numbers.Actions.{kill_process, errno, allow}
use Rattle.bpf_code.specs.declared.machine.CallData.{CallData}
use Rattle.call_rules.specs.Tested.{Tested}
use Rattle.call_rules.specs.Widened.{Widened}
use Rattle.call_rules.specs.declared.actions.Action.{Action}
use Rattle.call_rules.specs.declared.actions.Action.TheVariants.{KillProcess, Errno, Allow}
use Rattle.call_rules.specs.declared.rules.Case.{Case}
use Rattle.call_rules.specs.declared.rules.CallRule.{CallRule}
use Rattle.call_rules.specs.declared.rules.RuleSet.{RuleSet}

-- the word that a filter returns for an action (seccomp(2)); the errno of an answer is in its low 16 bits
abbrev pub word_of : Action → ℕ
word_of KillProcess = kill_process
word_of (Errno number) = errno + number
word_of Allow = allow

-- the low 32 bits of the argument, masked, are the value
abbrev pub test_holds : CallData → Tested → Bool
test_holds input test = bit_and (slice_index input.args test.arg % 2 ^ 32) test.mask == test.value

-- all tests of the case hold
abbrev pub case_holds : CallData → Case → Bool
case_holds input case = list_all (test_holds input) case.tests

-- the action of the first case whose tests all hold, else the rest of the call
abbrev pub first_action : CallData → CallRule → Action
first_action input call = option_map_or (λ case. case.action) (find (case_holds input) call.cases) call.rest

-- the high 32 bits of the argument are not 0
abbrev pub is_wide : CallData → ℕ → Bool
is_wide input arg = not (slice_index input.args arg / 2 ^ 32 == 0)

-- the action for a wide argument, if there is one and the argument is wide; else the action given
abbrev pub unless_wide : CallData → Option Widened → Action → Action
unless_wide input None action = action
unless_wide input (Some wide) action = if is_wide input wide.arg then wide.action else action

-- a wide argument decides first, then the cases
abbrev pub call_action : CallData → CallRule → Action
call_action input call = unless_wide input call.wide (first_action input call)

-- another architecture has an action of its own; else the rule of the call's number decides, and without one the rest of the set
abbrev pub case_action : RuleSet → CallData → Action
case_action rules input =
    if input.arch == rules.arch
    then option_map_or (call_action input) (find (λ call. call.number == input.nr) rules.calls) rules.rest
    else rules.other
