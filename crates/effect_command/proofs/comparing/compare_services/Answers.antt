use Rattle.std.proofs.Common.{Ok, subst, sym}
use Rattle.asked_service.proofs.OfUnitInputs.FileCommands.{at_stop}
use Rattle.asked_service.specs.launcher.declared.launched.Launched.{Launched as Service}
use Rattle.asked_service.specs.unit_inputs.command_answers.ReadyTexts.{IsReadyWith}
use Rattle.asked_service.specs.unit_inputs.declared.command_answers.error.CommandError.TheVariants as stop
use Rattle.effect_command.specs.Prints.{TellsBoth}
use Rattle.effect_command.specs.Stopping.{IsOver}
use Rattle.effect_command.proofs.comparing.compare_services.Goals as goal

pub ask-requires : goal.ask-requires
ask-requires c = record {
  served = c.requires.together.first.1.launched.is_served;
  program = c.requires.together.first.1.launched.runs_its_program;
}

pub compare_after-requires : goal.compare_after-requires
compare_after-requires c =
    let both = c.requires.together in
    record {
      before = c.in_ok-first.ensures.asks.1;
      together = record {
        table = both.table;
        site = both.site;
        first = subst (IsOver both.table both.site) (sym c.in_ok-first.ensures.asks.0) both.first;
        second = both.second;
      };
    }

pub returns : goal.returns
returns c = λ table site one other.
    subst (λ (own : Service). IsReadyWith (TellsBoth table site (Ok own) (Ok c.args.after)) c.compare_after.result)
    c.in_ok-first.ensures.asks.0
    (c.compare_after.ensures table site (subst (IsOver table site) (sym c.in_ok-first.ensures.asks.0) one) other)

pub returns-in_err-first : goal.returns-in_err-first
returns-in_err-first c = λ table site one other. at_stop
    (IsReadyWith (TellsBoth table site (Ok c.args.before) (Ok c.args.after))) c.from_residual.result stop.Memory
    c.from_residual.ensures.1 tt
