use Rattle.std.proofs.Common.{ap₂, subst, sym, ◌∙◌}
use Rattle.judge.specs.kernel_laws.Launched.{launch_of}
use Rattle.judge.specs.kernel_laws.Questions.{questions}
use Rattle.judge.specs.kernel_ways.Offers.{RunsProgram}
use Rattle.judge.specs.launcher.declared.launched.Launched.{Launched as Service}
use Rattle.asked_service.proofs.asking.ask.Goals as goal

pub returns : goal.returns
returns c =
    let bounds = c.in_ok-bounded.ensures.bounds in
    record {
      asks = (
        bounds.0,
        record {
          bounded = bounds.1;
          program = subst (λ (service : Service). RunsProgram (launch_of service.world) service.program) (sym bounds.0) c.requires.program;
          questions = c.in_ok-list.ensures.in_their_order ∙ ap₂ questions c.call_table.ensures.told c.site_table.ensures.told;
        },
      );
    }
