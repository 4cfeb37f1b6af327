use Rattle.std.proofs.Common.{◌≡◌, Ok, refl}
use Rattle.asked_service.proofs.OfUnitInputs.FileCommands.{at_stop}
use Rattle.asked_service.proofs.Started.{ready_as}
use Rattle.asked_service.specs.unit_inputs.command_answers.ReadyTexts.{IsReadyWith}
use Rattle.asked_service.specs.unit_inputs.declared.command_answers.error.CommandError.TheVariants as stop
use Rattle.asked_service.specs.unit_inputs.declared.command_answers.exit_status.ExitStatus.TheVariants.{Done}
use Rattle.effect_command.specs.Prints.{TellsBoth}
use Rattle.effect_command.specs.Told.{told_text}
use Rattle.effect_command.proofs.Compared.{compared, same_calls, same_site}
use Rattle.effect_command.proofs.comparing.compare_after.Goals as goal

pub ask-requires : goal.ask-requires
ask-requires c = record {
  served = c.requires.together.second.1.launched.is_served;
  program = c.requires.together.second.1.launched.runs_its_program;
}

pub compare_asked-requires : goal.compare_asked-requires
compare_asked-requires c =
    let both = c.requires.together in
    let first = c.args.first.now in
    record {
      before = c.requires.before;
      after = c.in_ok-second.ensures.asks.1;
      same_calls = same_calls both.table both.site first.bounded.service c.args.after both.first both.second first c.in_ok-second.second
          refl c.in_ok-second.ensures.asks.0;
      same_site = same_site both.table both.site first.bounded.service c.args.after both.first both.second first c.in_ok-second.second
          refl c.in_ok-second.ensures.asks.0;
    }

pub returns : goal.returns
returns c = λ table site one other.
    let first = c.args.first.now in
    let second = c.in_ok-second.second in
    ready_as (λ status text. (status ≡ Done) × (text ≡ told_text first second))
    (TellsBoth table site (Ok first.bounded.service) (Ok c.args.after))
    (λ status text is. compared table site first.bounded.service c.args.after one other first second refl c.in_ok-second.ensures.asks.0
    c.changes_are_true.ensures.exactly_what_changes c.in_ok-second.ensures.asks.1 status text is.0 is.1)
    c.compare_asked.result c.compare_asked.ensures

pub returns-in_err-second : goal.returns-in_err-second
returns-in_err-second c = λ table site one other. at_stop
    (IsReadyWith (TellsBoth table site (Ok c.args.first.now.bounded.service) (Ok c.args.after))) c.from_residual.result stop.Memory
    c.from_residual.ensures.1 tt
