use Rattle.std.proofs.Common.{◌≡◌, ◌+◌, drop}
use Rattle.std.specs.Prelude.{map}
use Rattle.launcher.specs.Launch.{Makes, launch_from}
use Rattle.launcher.proofs.running.make_calls.Given as goal

abbrev pub invariant-loop-call : goal.invariant-loop-call
invariant-loop-call l = record {
  counted : l.steps ≡ l.before + l.call-index;
  rest : launch_from l.world (map Makes (drop l.call-index l.calls)) l.steps ≡ launch_from l.initial.world (map Makes l.calls) l.before;
}
