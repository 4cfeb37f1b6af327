use Rattle.std.proofs.Common.{◌≡◌, ◌++◌}
use Rattle.std.specs.Prelude.{not}
use Rattle.exec_settings.specs.cap_sets.Sets.{has}
use Rattle.launcher.specs.Launch.{prctl_step, capbset_drop}
use Rattle.launcher.proofs.Appending.{steps_from}
use Rattle.launcher.proofs.identity.outside_steps.Given as goal

abbrev pub invariant-loop-cap : goal.invariant-loop-cap
invariant-loop-cap l =
    l.steps ++ steps_from (λ cap. prctl_step l.table.calls capbset_drop cap 0) (λ cap. not (has l.set cap)) l.cap
    ≡ l.initial.steps ++ steps_from (λ cap. prctl_step l.table.calls capbset_drop cap 0) (λ cap. not (has l.set cap)) 0
