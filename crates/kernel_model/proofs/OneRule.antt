-- The rule of a line is that of its number, and says whether the kernel knows the call's name.
use Rattle.std.proofs.Common.{◌≡◌, ◌↔◌, ℕ, false, List, Option, Some, None, refl, sym, ap, ◌∙◌}
use Rattle.std.specs.Prelude.{slice_get, option_and_then, is_some, IsSome}
use Rattle.call_table.specs.call_names.Known.{known_call, is_known}
use Rattle.call_table.specs.declared.call_names.known.KnownCall.{KnownCall}
use Rattle.call_table.specs.declared.call_names.known.KnownCall.TheVariants.{Modelled, Absent}
use Rattle.call_table.specs.declared.listed.CallLine.{CallLine}
use Rattle.call_table.specs.Lookups.{has_number, AreOnce}
use Rattle.kernel_model.specs.declared.kernel_calls.call.Call.{Call}
use Rattle.kernel_model.specs.declared.kernel_calls.rule.Rule.{Rule}
use Rattle.kernel_model.specs.declared.kernel_calls.rule.Rule.TheVariants.{Plain}
use Rattle.kernel_model.specs.kernel_calls.Calls.{form_of_payload}
use Rattle.call_table.specs.Table.{Table, calls_in}
use Rattle.kernel_model.specs.kernel_calls.Operation.{Operation, operation_by, Lacking, Misformed, asked_if, asked_by, asked_of}
use Rattle.kernel_model.specs.kernel_calls.Rules.{rule_by, rule_of, rule_at, form_of_rule}
use Rattle.kernel_model.proofs.Search.{at_its_place}
use Rattle.kernel_model.proofs.Forms.{form_decides}

pub one_rule : (calls : List CallLine) (at : ℕ) (line : CallLine) → AreOnce calls → slice_get calls at ≡ Some line
    → rule_at calls line.number ≡ rule_of line
one_rule calls at line once e =
    ap (option_and_then rule_of) (at_its_place (has_number line.number) calls
    ∙ ap (option_and_then (slice_get calls)) (once.by_number at line e) ∙ e)

pub absent : (line : CallLine) → (rule_of line ≡ None) ↔ (known_call line.kernel line.name ≡ Some Absent)
unfolding rule_of
absent line = by (known_call line.kernel line.name)
  where
    by : (known : Option KnownCall) → (rule_by known line.cap ≡ None) ↔ (known ≡ Some Absent)
    by None = (λ h. cc, λ h. cc)
    by (Some Absent) = (λ h. refl, λ h. refl)
    by (Some (Modelled rule)) = (λ h. cc, λ h. cc)

pub plain : (line : CallLine) (cap : Option ℕ) → (rule_of line ≡ Some (Plain cap)) ↔ ((is_known line.kernel line.name ≡ false) × (line.cap ≡ cap))
unfolding rule_of
plain line cap = by (known_call line.kernel line.name)
  where
    by : (known : Option KnownCall) → (rule_by known line.cap ≡ Some (Plain cap)) ↔ ((is_some known ≡ false) × (line.cap ≡ cap))
    by None = (λ h. (refl, cc), λ h. ap (λ c. Some (Plain c)) h.1)
    by (Some Absent) = (λ h. cc, λ h. cc)
    by (Some (Modelled rule)) = (λ h. cc, λ h. cc)

pub lacking : (table : Table) (call : Call) → (asked_of table call ≡ Lacking) ↔ (rule_at (calls_in table call.abi) call.nr ≡ None)
lacking table call = by (rule_at (calls_in table call.abi) call.nr)
  where
    asks : (operation : Option Operation) → asked_if operation ≡ Lacking → ⊥
    asks None h = cc
    asks (Some operation) h = cc

    by : (rule : Option Rule) → (asked_by rule call ≡ Lacking) ↔ (rule ≡ None)
    by None = (λ h. refl, λ h. refl)
    by (Some rule) = (λ h. absurd (asks (operation_by rule call.args call.payload) h), λ h. cc)

pub absent_calls_are_lacking : (table : Table) (call : Call) (at : ℕ) (line : CallLine) → AreOnce (calls_in table call.abi)
    → slice_get (calls_in table call.abi) at ≡ Some line → call.nr ≡ line.number
    → (asked_of table call ≡ Lacking) ↔ (known_call line.kernel line.name ≡ Some Absent)
absent_calls_are_lacking table call at line once e same =
    let calls : List CallLine = calls_in table call.abi in
    let rule : rule_at calls call.nr ≡ rule_of line = ap (rule_at calls) same ∙ one_rule calls at line once e in
    (λ h. (absent line).0 (sym rule ∙ (lacking table call).0 h), λ h. (lacking table call).1 (rule ∙ (absent line).1 h))

pub misformed : (table : Table) (call : Call) (rule : Rule) → rule_at (calls_in table call.abi) call.nr ≡ Some rule
    → (asked_of table call ≡ Misformed) ↔ (¬ (form_of_payload call.payload ≡ form_of_rule rule))
misformed table call rule e =
    let decides = form_decides rule call.args call.payload in
    let same : asked_of table call ≡ asked_if (operation_by rule call.args call.payload) = ap (λ o. asked_by o call) e in
    (λ h f. some (operation_by rule call.args call.payload) (sym same ∙ h) (decides.0 f), λ never. same ∙ none (operation_by rule call.args call.payload) (λ is. never (decides.1 is)))
  where
    some : (operation : Option Operation) → asked_if operation ≡ Misformed → IsSome operation → ⊥
    some None h is = cc
    some (Some operation) h is = cc

    none : (operation : Option Operation) → (¬ IsSome operation) → asked_if operation ≡ Misformed
    none None never = refl
    none (Some operation) never = absurd (never refl)
