-- What a choice by values says of an argument of which all 64 bits may count.
use Rattle.std.proofs.Common.{◌≡◌, ℕ, ◌≤◌, Bool, true, false, cond, Option, Some, None, List, map, refl, ap, ◌∙◌, arith}
use Rattle.std.specs.Prelude.{◌&&◌, ◌==◌, not}
use Rattle.std.specs.List.{list_any}
use Rattle.dropin_merge.specs.unit_names.declared.version.Version.{Version}
use Rattle.call_rules.specs.bpf_code.declared.machine.CallData.{CallData}
use Rattle.call_rules.specs.declared.actions.Action.{Action}
use Rattle.call_rules.specs.Action.{is_wide}
use Rattle.call_rules.specs.Sizes.{wide_len}
use Rattle.filter_settings.specs.filter_rules.Actions.{low, meets}
use Rattle.filter_settings.specs.filter_rules.Choices.{choice_action, whole, wide_as, by_value}
use Rattle.filter_settings.proofs.LowWords.{some_whole}

unless : (wide any : Bool) (action rest : Action) → cond wide rest (cond any action rest) ≡ cond (not wide && any) action rest
unless true any action rest = refl
unless false any action rest = refl

-- where one of the tests holds exactly where a word passes, the choice goes by what the argument meets
pub by_value_means : (systemd : Option Version) (input : CallData) (at : ℕ) (values : List ℕ) (test : ℕ → Bool) (action rest : Action)
    → ((word : ℕ) → list_any (λ value. word == value) values ≡ test word)
    → choice_action input (by_value systemd at (map (whole at) values) action rest) ≡ cond (meets systemd input at test) action rest
by_value_means None input at values test action rest h = ap (λ b. cond b action rest) (some_whole input at values ∙ h (low input at))
by_value_means (Some version) input at values test action rest h =
    ap (λ b. cond (is_wide input at) rest (cond b action rest)) (some_whole input at values ∙ h (low input at))
    ∙ unless (is_wide input at) (test (low input at)) action rest

-- a choice by values looks at one high word at most
pub wide_few : (systemd : Option Version) (at : ℕ) (action : Action) → wide_len (wide_as systemd at action) ≤ 1
wide_few None at action = omega arith
wide_few (Some version) at action = omega arith
