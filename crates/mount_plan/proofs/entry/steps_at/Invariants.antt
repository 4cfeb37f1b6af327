use Rattle.std.proofs.Common.{◌≡◌, map, take}
use Rattle.mount_plan.specs.Host.{host_of}
use Rattle.mount_plan.specs.Plan.{step_at, hides_dir_at}
use Rattle.mount_plan.proofs.entry.steps_at.Given as goal

abbrev pub invariant-loop-place : goal.invariant-loop-place
invariant-loop-place l = l.steps.items ≡ map (step_at l.kept (hides_dir_at (host_of l.site) l.kept)) (take l.place-index l.places)
