-- What is told, and what that answers.
use Rattle.std.proofs.Common.{◌≡◌, ◌∙◌, ℕ, List, Some, None, Option, Result, Ok, Err, Vec, Global, refl, sym, ap, subst}
use Rattle.std.specs.Prelude.{◌↔◌, IfOk, IsErrOf}
use Rattle.std.specs.declared.alloc.AllocError.{AllocError}
use Rattle.asked_service.specs.call_table.Table.{Table}
use Rattle.asked_service.specs.dropin_merge.declared.resolved.Resolved.{Resolved}
use Rattle.asked_service.specs.kernel_model.declared.kernel_calls.call.Call.{Call}
use Rattle.asked_service.specs.unit_inputs.command_answers.CommandErrors.{Prepares, error_of_line}
use Rattle.asked_service.specs.unit_inputs.command_answers.ReadyTexts.{IsReadyWith, status_of, text_of}
use Rattle.asked_service.specs.unit_inputs.declared.command_answers.exit_status.ExitStatus.TheVariants.{Done}
use Rattle.asked_service.specs.unit_inputs.declared.command_answers.error.CommandError.{CommandError}
use Rattle.asked_service.specs.unit_inputs.declared.command_answers.error.CommandError.TheVariants as stop
use Rattle.asked_service.specs.unit_inputs.declared.command_answers.ready_text.ReadyText.{ReadyText}
use Rattle.asked_service.specs.site_table.Table.{Site}
use Rattle.asked_service.specs.declared.launching.refusal.Refusal.{Refusal}
use Rattle.asked_service.specs.launching.Launched.{IsNotLaunched}
use Rattle.asked_service.specs.launching.Refusals.{TellsRefusal}
use Rattle.asked_service.specs.launching.Starting.{given}
use Rattle.asked_service.proofs.Started as started
use Rattle.derive_command.specs.trace_profile.Derived.{IsDerived, IsOnlyOne}
use Rattle.derive_command.specs.trace_profile.Extended.{drop_in_text, open_unit}
use Rattle.derive_command.specs.trace_profile.PlainNames.{HasPlainNames}
use Rattle.derive_command.specs.trace_profile.Scripts.{first_seccomp}
use Rattle.derive_command.specs.declared.trace_profile.derived.DeriveError.{DeriveError}
use Rattle.derive_command.specs.declared.trace_profile.derived.DeriveError.TheVariants.{Seccomp}
use Rattle.derive_command.specs.declared.trace_profile.derived.Derived.{Derived}
use Rattle.derive_command.specs.Refusals.{refusals_behind_script, seccomp_line}
use Rattle.derive_command.specs.Telling.{AnswersCalls, allowed, not_launched}
use Rattle.derive_command.proofs.Prepared.{at_seccomp, behind_seccomp}

module _ (name path : List ℕ) (unit : Resolved) (table : Table) (site : Site) (script : List Call) where
  abbrev Answers : Result ReadyText CommandError → Type 0
  Answers result = Prepares (λ made. AnswersCalls (given unit table site) script (status_of made) (text_of made))
      (refusals_behind_script name path (given unit table site) script) result

  -- the line of the first call that asks to push a program
  pub seccomp_answers : (number : ℕ) (line : Result (Vec ℕ Global) AllocError) (told : CommandError)
      → first_seccomp table script ≡ Some number → told ≡ error_of_line line
      → IfOk line (λ one. one.items ≡ seccomp_line path number) → Answers (Err told)
  seccomp_answers number (Ok line) told first is holds =
      subst (λ own. Answers (Err own)) (sym is)
      (at_seccomp name path (given unit table site) script number first ∙ ap Some (sym holds))
  seccomp_answers number (Err none) told first is holds = subst (λ own. Answers (Err own)) (sym is) tt

  -- no call asks to push a program
  module _ (none : first_seccomp table script ≡ None) (result : Result ReadyText CommandError) where
    -- the refusal of the unit that allows every call
    pub refusal_answers : (refusal : Refusal) → IsNotLaunched (open_unit unit table) table site refusal → TellsRefusal name refusal result
        → Answers result
    refusal_answers refusal is tells =
        behind_seccomp name path (given unit table site) script
        (λ made. AnswersCalls (given unit table site) script (status_of made) (text_of made)) result none
        (started.told name (open_unit unit table) table site (AnswersCalls (given unit table site) script) refusal result is tells
        (λ error is. not_launched error is))

    -- the drop-in of what is derived
    pub derived_answers : (names lent : List ℕ) → IsDerived unit table site script names
        → (HasPlainNames table → IsOnlyOne unit table site script names) → lent ≡ names
        → IsReadyWith (λ status text. (status ≡ Done) × (text ≡ drop_in_text table lent)) result → Answers result
    derived_answers names lent derived only lends tells =
        behind_seccomp name path (given unit table site) script
        (λ made. AnswersCalls (given unit table site) script (status_of made) (text_of made)) result none
        (started.served name (open_unit unit table) table site (AnswersCalls (given unit table site) script) derived.service result
        derived.opened
        (started.ready_as (λ status text. (status ≡ Done) × (text ≡ drop_in_text table lent))
        (AnswersCalls (given unit table site) script) (λ status text is.
        subst (λ own. AnswersCalls (given unit table site) script own text) (sym is.0)
        (subst (AnswersCalls (given unit table site) script Done) (sym (is.1 ∙ ap (drop_in_text table) lends)) (allowed names derived only)))
        result tells))

-- a line was not read
pub line_reads_nothing : (line : Result (Vec ℕ Global) AllocError) (told : CommandError) → told ≡ error_of_line line
    → IsErrOf {T = ReadyText} (Err told) stop.ReadFault → ⊥
line_reads_nothing (Ok line) told is e = cc
line_reads_nothing (Err none) told is e = cc

-- a script pushes no program unless that is why nothing is derived
pub pushes_none : (first : Option ℕ) (result : Result Derived DeriveError)
    → ((number : ℕ) → IsErrOf result (Seccomp number) ↔ (first ≡ Some number)) → ((number : ℕ) → IsErrOf result (Seccomp number) → ⊥)
    → first ≡ None
pushes_none None result exactly others = refl
pushes_none (Some number) result exactly others = absurd (others number ((exactly number).1 refl))
