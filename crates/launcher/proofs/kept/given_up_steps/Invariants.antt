use Rattle.std.proofs.Common.{◌≡◌, ◌++◌}
use Rattle.exec_settings.specs.cap_sets.Sets.{has}
use Rattle.launcher.specs.Launch.{prctl_step, capbset_drop}
use Rattle.launcher.proofs.Appending.{steps_from}
use Rattle.launcher.proofs.kept.given_up_steps.Given as goal

abbrev pub invariant-loop-cap : goal.invariant-loop-cap
invariant-loop-cap l =
    l.steps ++ steps_from (λ cap. prctl_step l.table.calls capbset_drop cap 0) (has l.given_up) l.cap
    ≡ l.initial.steps ++ steps_from (λ cap. prctl_step l.table.calls capbset_drop cap 0) (has l.given_up) 0
