use Rattle.std.proofs.Common.{arith, ap, ◌∙◌}
use Rattle.std.specs.Prelude.{not}
use Rattle.exec_settings.specs.cap_sets.Sets.{has}
use Rattle.launcher.specs.Launch.{prctl_step, capbset_drop}
use Rattle.launcher.proofs.Appending.{step_more}
use Rattle.launcher.proofs.identity.outside_steps.Goals as goal

pub loop-cap-preserved : goal.loop-cap-preserved
loop-cap-preserved c =
    step_more (λ cap. prctl_step c.args.table.now.calls capbset_drop cap 0)
    (λ cap. not (has c.args.set cap)) c.loop-cap.steps c.push_if.new.self c.loop-cap.cap c.from.result
    (not c.contains.result) _
    (omega (arith, c.loop-cap-test.true)) c.from.ensures (ap not c.contains.ensures.has) c.prctl-call.ensures.of_the_option
    c.in_ok-push_if.ensures.goes_last_where_wanted
    ∙ c.loop-cap.invariant
