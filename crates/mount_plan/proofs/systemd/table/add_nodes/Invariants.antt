use Rattle.std.proofs.Common.{◌≡◌, ◌++◌, map, filter, drop}
use Rattle.path_settings.specs.systemd.Made.{has_source}
use Rattle.mount_plan.specs.Host.{host_of}
use Rattle.mount_plan.proofs.systemd.table.add_nodes.Given as goal

abbrev pub invariant-loop-one : goal.invariant-loop-one
invariant-loop-one l =
    map (λ one. one.now) l.beginning.items ++ filter (has_source (host_of l.site)) (map (λ one. one.now) (drop l.one-index l.nodes))
    ≡ map (λ one. one.now) l.initial.beginning.items ++ filter (has_source (host_of l.site)) (map (λ one. one.now) l.nodes)
