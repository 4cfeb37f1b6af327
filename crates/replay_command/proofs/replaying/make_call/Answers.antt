use Rattle.std.proofs.Common.{◌≡◌, ap, subst}
use Rattle.std.specs.Prelude.{IfOk}
use Rattle.asked_service.specs.kernel_model.Runs.{moment_at}
use Rattle.asked_service.specs.kernel_model.Step.{step}
use Rattle.asked_service.proofs.OfUnitInputs.Texts.{not_printed}
use Rattle.replay_command.specs.Lines.{call_line, moment_line}
use Rattle.replay_command.proofs.Ends.{moment_ends}
use Rattle.replay_command.proofs.replaying.make_call.Goals as goal

pub returns-in_default-clause-prints_the_line : goal.returns-in_default-clause-prints_the_line
returns-in_default-clause-prints_the_line g c =
    not_printed c.args.out.now (moment_line c.args.calls.now (moment_at c.args.world.now c.args.call.now))

pub returns-clause-prints_the_line : goal.returns-clause-prints_the_line
returns-clause-prints_the_line g c =
    let same : c.in-Ok.reply ≡ (step c.args.world.now c.args.call.now).0 = ap (λ p. p.0) c.in-Ok.ensures.makes_the_step in
    c.put_line.ensures.prints_the_line (moment_line c.args.calls.now (moment_at c.args.world.now c.args.call.now))
    (subst (λ own. IfOk c.call_line.result (λ line. line.items ≡ call_line c.args.calls.now c.args.call.now own)) same
    c.call_line.ensures.tells_call_and_reply)
    (moment_ends c.args.calls.now (moment_at c.args.world.now c.args.call.now))
