-- What a step of preparing tells.
use Rattle.std.proofs.Common.{◌≡◌, ℕ, List, Result, Ok, Err, Vec, Global, refl, sym, subst}
use Rattle.std.specs.Prelude.{IfOk}
use Rattle.std.specs.declared.alloc.AllocError.{AllocError}
use Rattle.asked_service.specs.unit_inputs.command_answers.CommandErrors.{error_of_line}
use Rattle.asked_service.specs.unit_inputs.command_answers.ReadyTexts.{IsReadyWith}
use Rattle.asked_service.specs.unit_inputs.declared.command_answers.exit_status.ExitStatus.{ExitStatus}
use Rattle.asked_service.specs.unit_inputs.declared.command_answers.exit_status.ExitStatus.TheVariants.{Done, LaunchRefused, Refused}
use Rattle.asked_service.specs.unit_inputs.declared.command_answers.error.CommandError.{CommandError}
use Rattle.asked_service.specs.unit_inputs.declared.command_answers.error.CommandError.TheVariants as stop
use Rattle.asked_service.specs.declared.launching.refusal.Refusal.{Refusal}
use Rattle.asked_service.specs.declared.launching.refusal.Refusal.TheVariants as refusal
use Rattle.asked_service.specs.launching.Launched.{IsNotLaunched}
use Rattle.asked_service.specs.launching.Refusals.{TellsRefusal}
use Rattle.tighten_command.specs.tightening.Tight.{IsTight}
use Rattle.tighten_command.specs.tightening.Tried.{Tried}
use Rattle.tighten_command.specs.declared.tightening.tight.Tight.{Tight}
use Rattle.tighten_command.specs.Lines.{tight_text}
use Rattle.tighten_command.specs.Telling.{IsTold, TellsTight, no_launch, no_plan, no_settings, tightened}
use Rattle.asked_service.specs.unit_inputs.declared.command_answers.ready_text.ReadyText.{ReadyText}

-- the line of a refusal, unless memory ran out for it
pub line_told : (P : ExitStatus → List ℕ → Type 0) (wanted : List ℕ) (line : Result (Vec ℕ Global) AllocError) (told : CommandError)
    → told ≡ error_of_line line → IfOk line (λ own. own.items ≡ wanted) → P Refused wanted → IsTold P (Err told)
line_told P wanted (Ok line) told is says holds = subst (λ own. IsTold P (Err own)) (sym is) (subst (P Refused) (sym says) holds)
line_told P wanted (Err none) told is says holds = subst (λ own. IsTold P (Err own)) (sym is) tt

module _ (unit : List ℕ) (tried : Tried) where
  -- this status and this text
  as_told : (own status : ExitStatus) (line text : List ℕ) → (status ≡ own) × (text ≡ line) → TellsTight unit tried own line
      → TellsTight unit tried status text
  as_told own status line text is holds =
      subst (λ one. TellsTight unit tried one text) (sym is.0) (subst (TellsTight unit tried own) (sym is.1) holds)

  -- what can be added
  pub tight_told : (tight : Tight) → IsTight tried tight → (result : Result ReadyText CommandError)
      → IsReadyWith (λ status text. (status ≡ Done) × (text ≡ tight_text tight)) result → IsTold (TellsTight unit tried) result
  tight_told tight is (Ok ready) told = as_told Done ready.status _ ready.text.items told (tightened tight is)
  tight_told tight is (Err (stop.Refused line)) told = absurd told
  tight_told tight is (Err stop.ReadFault) told = told
  tight_told tight is (Err stop.Memory) told = tt

  -- a refusal of the unit
  pub refusal_told : (why : Refusal) → IsNotLaunched tried.unit tried.table tried.site why → (result : Result ReadyText CommandError)
      → TellsRefusal unit why result → IsTold (TellsTight unit tried) result
  refusal_told (refusal.Settings own) is (Ok ready) told = absurd told
  refusal_told (refusal.Settings own) is (Err (stop.Refused line)) told = as_told Refused Refused _ line.items (refl, told) (no_settings own is)
  refusal_told (refusal.Settings own) is (Err stop.ReadFault) told = told
  refusal_told (refusal.Settings own) is (Err stop.Memory) told = tt
  refusal_told (refusal.Plan own) is (Ok ready) told = absurd told
  refusal_told (refusal.Plan own) is (Err (stop.Refused line)) told = as_told Refused Refused _ line.items (refl, told) (no_plan own is)
  refusal_told (refusal.Plan own) is (Err stop.ReadFault) told = told
  refusal_told (refusal.Plan own) is (Err stop.Memory) told = tt
  refusal_told (refusal.Launch own) is (Ok ready) told = as_told LaunchRefused ready.status _ ready.text.items told (no_launch own is)
  refusal_told (refusal.Launch own) is (Err (stop.Refused line)) told = absurd told
  refusal_told (refusal.Launch own) is (Err stop.ReadFault) told = told
  refusal_told (refusal.Launch own) is (Err stop.Memory) told = tt
  refusal_told refusal.Memory is result told = subst (IsTold (TellsTight unit tried)) (sym told) tt
