use Rattle.std.proofs.Common.{◌≡◌, ◌++◌, drop}
use Rattle.launcher.specs.Answers.{given_bytes}
use Rattle.launcher.specs.Launch.{filter_steps}
use Rattle.launcher.proofs.steps.filter_steps.Given as goal

abbrev pub invariant-loop-filter : goal.invariant-loop-filter
invariant-loop-filter l =
    l.steps ++ filter_steps l.table.calls (given_bytes (drop l.filter-index l.filters))
    ≡ l.initial.steps ++ filter_steps l.table.calls (given_bytes l.filters)
