-- The filters of settings look at no more words than the chosen ones need.
use Rattle.std.specs.Prelude.{◌≡◌, ℕ, ◌==◌, ◌<◌, ◌^◌, ◌⊎◌, true, false, IfSome, List, Some}
use Rattle.std.specs.List.{AllByRecursion}
use Rattle.filter_settings.specs.bpf_code.declared.machine.CallData.{CallData}
use Rattle.filter_settings.specs.bpf_code.declared.machine.Insn.{Insn}
use Rattle.filter_settings.specs.bpf_code.declared.decision.Decision.TheVariants as decision
use Rattle.filter_settings.specs.bpf_code.Meaning.{IsCallData}
use Rattle.filter_settings.specs.bpf_code.Refusing.{ArePlain}
use Rattle.filter_settings.specs.bpf_code.Stack.{answer_of, answers_of, decision_of}
use Rattle.filter_settings.specs.call_rules.Action.{word_of}
use Rattle.filter_settings.specs.call_table.declared.listed.CallLine.{CallLine}
use Rattle.filter_settings.specs.call_table.Table as calls
use Rattle.filter_settings.specs.declared.filter_rules.settings.FilterSettings.{FilterSettings}
use Rattle.filter_settings.specs.declared.filter_rules.names.FilterName.{FilterName}
use Rattle.filter_settings.specs.filter_rules.Wanted.{named_action, wanted_action}
use Rattle.kernel_model.specs.declared.kernel_calls.payload.Payload.{Payload}
use Rattle.kernel_model.specs.kernel_calls.Operation.{Operation, operation_by}
use Rattle.kernel_laws.specs.declared.question_types.kind.CallKind.{CallKind}
use Rattle.kernel_laws.specs.Kinds.{asks, words, wide_words, AreWords}
use Rattle.kernel_laws.specs.Launched.{Launch, passes, Chosen}
use Rattle.kernel_model.specs.declared.kernel_calls.rule.Rule.{Rule}
use Rattle.kernel_model.specs.kernel_calls.Rules.{rule_of, rule_at}

-- the call with other words
abbrev pub with_words : CallData → List ℕ → CallData
with_words input own = record input { args = own }

-- each filter of the settings that lets a call of the line through lets it through with these words as well
abbrev pub LetAsWell : FilterSettings → calls.Table → CallLine → CallData → List ℕ → Type 0
LetAsWell settings table line input own = (filter : FilterName)
    → decision_of (word_of (named_action filter settings table line.name input)) ≡ decision.Pass
    → decision_of (word_of (named_action filter settings table line.name (with_words input own))) ≡ decision.Pass

-- the filters that let a call through that asks for a kind of thing also let the first words through that ask for it, or the wide ones
abbrev pub FirstPasses : Type 0
FirstPasses = (settings : FilterSettings) (table : calls.Table) (line : CallLine) (rule : Rule) (kind : CallKind) (payload : Payload)
    (operation : Operation) (input : CallData) (first : List ℕ)
    → rule_of line ≡ Some rule → operation_by rule input.args payload ≡ Some operation → asks kind operation ≡ true
    → words kind rule ≡ Some first
    → LetAsWell settings table line input first
    ⊎ ((wide : List ℕ) × (wide_words kind rule ≡ Some wide) × LetAsWell settings table line input wide)

-- the program's answers are the words of what some filter of the settings does for an ABI, seccomp(2)
pub record Means (settings : FilterSettings) (table : calls.Table) (code : List Insn) : Type 0 where
  pub filter : FilterName
  pub abi : ℕ
  pub found : calls.Abi
  pub there : calls.abi_at table abi ≡ Some found
  pub answers : (input : CallData) → IsCallData input → answer_of code input ≡ word_of (wanted_action filter settings table abi input)

-- in a launch of programs that mean these settings, the choice of the words of a kind of call is the stated one
abbrev pub SettingsChoose : Type 0
SettingsChoose = (launch : Launch) (settings : FilterSettings) → ((abi : ℕ) → calls.arch_of launch.calls abi < 2 ^ 32)
    → IfSome launch.calls.second (λ second. second.arch == launch.calls.arch ≡ false)
    → AllByRecursion (Means settings launch.calls) launch.stack
    → ((input : CallData) → IsCallData input → ArePlain (answers_of launch.stack input))
    → (kind : CallKind) (abi nr : ℕ) (args : List ℕ) (rule : Rule) (payload : Payload) (operation : Operation) → nr < 2 ^ 32 → AreWords args
    → rule_at (calls.calls_in launch.calls abi) nr ≡ Some rule → operation_by rule args payload ≡ Some operation → asks kind operation ≡ true
    → passes launch abi nr args → Chosen launch kind rule abi nr
