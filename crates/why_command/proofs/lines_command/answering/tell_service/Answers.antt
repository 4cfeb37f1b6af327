use Rattle.std.proofs.Common.{Ok, subst, sym}
use Rattle.std.specs.Prelude.{IfOk}
use Rattle.asked_service.specs.launcher.declared.launched.Launched.{Launched as Service}
use Rattle.asked_service.specs.launching.Starting.{StartsAs, given}
use Rattle.why_command.proofs.Asked.{served}
use Rattle.why_command.specs.lines_command.Prints.{TellsService}
use Rattle.why_command.proofs.lines_command.answering.tell_service.Goals as goal

pub ask-requires : goal.ask-requires
ask-requires c =
    let inputs = given c.args.unit.now c.args.calls.now c.args.site.now in
    record { served = served inputs c.args.service c.requires.starts; program = c.requires.starts.launched.runs_its_program }

pub tell_judged-requires : goal.tell_judged-requires
tell_judged-requires c =
    let inputs = given c.args.unit.now c.args.calls.now c.args.site.now in
    record {
      judged = record {
        starts = subst (λ (own : Service). StartsAs inputs (Ok own)) (sym c.in_ok-asked.ensures.asks.0) c.requires.starts;
        is_asked = c.in_ok-asked.ensures.asks.1;
      };
    }

pub returns : goal.returns
returns c =
    let inputs = given c.args.unit.now c.args.calls.now c.args.site.now in
    subst (λ (own : Service). IfOk c.tell_judged.result (λ text. TellsService c.args.name.now inputs own text.items))
    c.in_ok-asked.ensures.asks.0 c.tell_judged.ensures
