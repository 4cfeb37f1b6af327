use Rattle.std.proofs.Common.{◌≡◌, ◌++◌}
use Rattle.exec_settings.specs.cap_sets.Sets.{has}
use Rattle.launcher.specs.Launch.{prctl_step, cap_ambient, ambient_raise}
use Rattle.launcher.proofs.Appending.{steps_from}
use Rattle.launcher.proofs.identity.raise_steps.Given as goal

abbrev pub invariant-loop-cap : goal.invariant-loop-cap
invariant-loop-cap l =
    l.steps ++ steps_from (λ cap. prctl_step l.table.calls cap_ambient ambient_raise cap) (has l.settings.ambient) l.cap
    ≡ l.initial.steps ++ steps_from (λ cap. prctl_step l.table.calls cap_ambient ambient_raise cap) (has l.settings.ambient) 0
