-- What is told of a launched service.
use Rattle.std.proofs.Common.{◌≡◌, ◌∙◌, ℕ, Bool, true, false, List, ◌++◌, Result, Ok, Err, Vec, Global, refl, sym, ap, subst}
use Rattle.std.specs.Prelude.{Contains, IfOk, IsErrOf, flat_map}
use Rattle.std.specs.declared.alloc.AllocError.{AllocError}
use Rattle.asked_service.specs.Asked.{IsBounded, is_open_by}
use Rattle.asked_service.specs.Rows.{IsSo}
use Rattle.asked_service.specs.declared.bounding.Bounded.{Bounded}
use Rattle.asked_service.specs.call_table.Table as calls
use Rattle.asked_service.specs.open_calls.chosen_calls.Makers.{AreMadeByService}
use Rattle.asked_service.specs.unit_inputs.command_answers.CommandErrors.{Prepares, first_refusal}
use Rattle.asked_service.specs.unit_inputs.declared.command_answers.exit_status.ExitStatus.{ExitStatus}
use Rattle.asked_service.specs.unit_inputs.declared.command_answers.error.CommandError.{CommandError}
use Rattle.asked_service.specs.unit_inputs.declared.command_answers.error.CommandError.TheVariants as stop
use Rattle.why_command.proofs.Asked.{listed, own_calls, own_site}
use Rattle.why_command.specs.deciding_lines.Deciding.{IsReason}
use Rattle.why_command.specs.deciding_lines.Tried.{Tried}
use Rattle.why_command.specs.declared.deciding_lines.reason.Reason.{Reason}
use Rattle.asked_service.specs.Answers.{Denied, Open}
use Rattle.asked_service.specs.AnswerLines.{answer_lines}
use Rattle.asked_service.specs.kernel_model.declared.kernel_calls.call.Call.{Call}
use Rattle.asked_service.specs.kernel_laws.Bound.{is_open}
use Rattle.asked_service.specs.kernel_laws.Denied.{IsDenied, Shows}
use Rattle.asked_service.specs.kernel_laws.Launched.{launch_of}
use Rattle.asked_service.specs.kernel_laws.Questions as asked
use Rattle.asked_service.specs.kernel_model.World.{World}
use Rattle.asked_service.specs.kernel_ways.Laws.{IsServedWorld}
use Rattle.asked_service.specs.kernel_ways.Offers.{RunsProgram}
use Rattle.asked_service.specs.launcher.declared.launched.Launched.{Launched as Service}
use Rattle.asked_service.specs.open_calls.declared.service.Service.{Service as Maker}
use Rattle.asked_service.specs.kernel_laws.declared.question_types.question.Question.{Question}
use Rattle.asked_service.specs.site_table.Table.{Site}
use Rattle.asked_service.specs.launching.Starting.{StartsAs, start_refusals}
use Rattle.why_command.specs.Asking.{CanBeAsked}
use Rattle.why_command.specs.Lines.{reason_text}
use Rattle.asked_service.specs.unit_inputs.command_answers.ReadyTexts.{IsReadyWith, status_of, text_of}
use Rattle.why_command.specs.Prints.{TellsLaunch, TellsService, TellsWhy, denied_by, open_by}
use Rattle.asked_service.specs.unit_inputs.declared.command_answers.ready_text.ReadyText.{ReadyText}

-- what starts can be asked
pub can_be_asked : (tried : Tried) (service : Service) (bounded : Bounded) → StartsAs tried.inputs (Ok service)
    → bounded.service ≡ service → IsBounded bounded → CanBeAsked tried bounded
can_be_asked tried service bounded starts same bounds = record {
  is_bounded = bounds;
  program = subst (λ (own : Service). RunsProgram (launch_of own.world) own.program) (sym same) starts.launched.runs_its_program;
  calls = ap (λ (own : Service). own.world.calls) same ∙ own_calls tried.inputs service starts;
  site = ap (λ (own : Service). own.world.site) same ∙ own_site tried.inputs service starts;
}

pub lists_it : (tried : Tried) (bounded : Bounded) → CanBeAsked tried bounded → (question : Question)
    → Contains (asked.questions tried.inputs.calls tried.inputs.site) question
    → Contains (asked.questions bounded.service.world.calls bounded.service.world.site) question
lists_it tried bounded can question is =
    subst (λ (table : calls.Table). Contains (asked.questions table bounded.service.world.site) question) (sym can.calls)
    (subst (λ (site : Site). Contains (asked.questions tried.inputs.calls site) question) (sym can.site) is)

-- for whom calls are made
module _ (bounded : Bounded) (maker : Maker) (is : (maker.world.now ≡ bounded.service.world) × (maker.program.now ≡ bounded.service.program)) where
  pub maker_served : IsServedWorld bounded.service.world → IsServedWorld maker.world.now
  maker_served served = subst IsServedWorld (sym is.0) served

  pub maker_runs : RunsProgram (launch_of bounded.service.world) bounded.service.program
      → RunsProgram (launch_of maker.world.now) maker.program.now
  maker_runs runs = subst (λ program. RunsProgram (launch_of maker.world.now) program) (sym is.1)
      (subst (λ (world : World). RunsProgram (launch_of world) bounded.service.program) (sym is.0) runs)

  pub maker_lists : (question : Question) → Contains (asked.questions bounded.service.world.calls bounded.service.world.site) question
      → Contains (asked.questions maker.world.now.calls maker.world.now.site) question
  maker_lists question listed = subst (λ (world : World). Contains (asked.questions world.calls world.site) question) (sym is.0) listed

  pub maker_opens : (question : Question) → is_open (launch_of bounded.service.world) question ≡ true
      → is_open (launch_of maker.world.now) question ≡ true
  maker_opens question open' = subst (λ (world : World). is_open (launch_of world) question ≡ true) (sym is.0) open'

  -- a question that is open is told with a list that shows it
  pub tells_open : (tried : Tried) (question : Question) → tried.question ≡ question → IsSo bounded.service.world question true
      → (list : List Call)
      → Shows maker.world.now question list → AreMadeByService maker.world.now.calls list
      → (text : List ℕ) → text ≡ answer_lines tried.inputs.calls tried.inputs.site (Open question list)
      → TellsService tried bounded.service text
  tells_open tried question same so list shows made text says =
      open_by list (
        subst (λ one. Shows bounded.service.world one list) (sym same) (subst (λ (world : World). Shows world question list) is.0 shows),
        subst (λ (world : World). AreMadeByService world.calls list) is.0 made,
        λ denied. (let e : true ≡ false = so.1 (subst (IsDenied bounded.service.world) same denied) in cc),
      )
      (says ∙ ap (λ one. answer_lines tried.inputs.calls tried.inputs.site (Open one list)) (sym same))

-- a question that is denied is told with what denies it
pub tells_denied : (tried : Tried) (service : Service) (question : Question) → tried.question ≡ question
    → IsSo service.world question false → (told : Reason) → IsReason tried told
    → (text : List ℕ) → text ≡ answer_lines tried.inputs.calls tried.inputs.site (Denied question) ++ reason_text tried.inputs.unit told
    → TellsService tried service text
tells_denied tried service question same so told reason text says =
    denied_by told (subst (IsDenied service.world) (sym same) (so.0 refl)) reason
    (says ∙ ap (λ one. answer_lines tried.inputs.calls tried.inputs.site (Denied one) ++ reason_text tried.inputs.unit told) (sym same))

-- what holds of a text holds of one that is the same
pub told_as : (P : List ℕ → Type 0) (wanted : List ℕ) → P wanted → (result : Result (Vec ℕ Global) AllocError)
    → IfOk result (λ text. text.items ≡ wanted) → IfOk result (λ text. P text.items)
told_as P wanted holds (Ok text) is = subst P (sym is) holds
told_as P wanted holds (Err none) is = tt

pub still_starts : (tried : Tried) (service own : Service) → own ≡ service → StartsAs tried.inputs (Ok service)
    → StartsAs tried.inputs (Ok own)
still_starts tried service own same starts = subst (λ (one : Service). StartsAs tried.inputs (Ok one)) (sym same) starts

-- what is so of an answer that is found
pub so_as : (world : World) (question : Question) (answer found : Bool) → found ≡ answer → IsSo world question found
    → IsSo world question answer
so_as world question answer found is so = subst (IsSo world question) is so

pub told_of_it : (tried : Tried) (service : Service) (bounded : Bounded) → bounded.service ≡ service
    → (result : Result (Vec ℕ Global) AllocError)
    → IfOk result (λ text. TellsService tried bounded.service text.items) → IfOk result (λ text. TellsService tried service text.items)
told_of_it tried service bounded same result told = subst (λ (own : Service). IfOk result (λ text. TellsService tried own text.items))
    same told
