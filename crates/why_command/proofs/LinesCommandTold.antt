-- What is told of a launched service, and what is ready behind a launch.
use Rattle.std.proofs.Common.{◌≡◌, ℕ, List, Result, Ok, Err, map, subst}
use Rattle.std.specs.List.{All}
use Rattle.asked_service.specs.unit_inputs.command_answers.CommandErrors.{Prepares}
use Rattle.asked_service.specs.unit_inputs.declared.command_answers.error.CommandError.{CommandError}
use Rattle.asked_service.specs.unit_inputs.declared.command_answers.error.CommandError.TheVariants as stop
use Rattle.asked_service.specs.launcher.declared.launched.Launched.{Launched as Service}
use Rattle.why_command.specs.opening_lines.Opening.{IsAlone}
use Rattle.why_command.specs.declared.opening_lines.each.LineAlone.{LineAlone}
use Rattle.asked_service.specs.launching.Starting.{StartsAs, start_refusals}
use Rattle.asked_service.specs.unit_inputs.Inputs.{Inputs}
use Rattle.why_command.specs.deciding_lines.unit_lines.Lines.{lines_of}
use Rattle.asked_service.specs.unit_inputs.command_answers.ReadyTexts.{IsReadyWith, status_of, text_of}
use Rattle.asked_service.specs.unit_inputs.declared.command_answers.ready_text.ReadyText.{ReadyText}
use Rattle.why_command.specs.lines_command.Lines.{lines_text}
use Rattle.why_command.specs.lines_command.Prints.{TellsLaunch, TellsLines, TellsService}

module _ (name : List ℕ) (inputs : Inputs) where
  -- the service that is asked is the one that was launched
  pub tells_it : (own service : Service) → own ≡ service → (told : List LineAlone) → map (λ one. one.line.now) told ≡ lines_of inputs.unit
      → All (λ one. IsAlone name inputs own.world one.line.now.place one.alone) told
      → (text : List ℕ) → text ≡ lines_text inputs.calls inputs.site inputs.unit.files told → TellsService name inputs service text
  tells_it own service same told one_each each text says = record {
    told = told;
    are_alone = record { one_each = one_each; each_is_so = subst (λ (these : Service). All (λ one. IsAlone name inputs these.world one.line.now.place one.alone) told) same each };
    is_its_text = says;
  }
