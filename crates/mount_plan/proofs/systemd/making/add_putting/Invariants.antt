use Rattle.std.proofs.Common.{◌≡◌, ◌++◌, map, filter, drop}
use Rattle.path_settings.specs.systemd.Made.{puts}
use Rattle.mount_plan.specs.Host.{host_of}
use Rattle.mount_plan.proofs.systemd.making.add_putting.Given as goal

abbrev pub invariant-loop-one : goal.invariant-loop-one
invariant-loop-one l = map (λ one. one.now) l.found.items ++ filter (puts (host_of l.site)) (map (λ one. one.now) (drop l.one-index l.from))
    ≡ map (λ one. one.now) l.initial.found.items ++ filter (puts (host_of l.site)) (map (λ one. one.now) l.from)
