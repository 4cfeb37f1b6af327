use Rattle.std.proofs.Common.{◌≡◌, ◌++◌, map, drop}
use Rattle.std.specs.List.{filter_map}
use Rattle.path_settings.specs.systemd.Made.{mounted_in}
use Rattle.mount_plan.specs.Host.{host_of}
use Rattle.mount_plan.proofs.systemd.making.made.Given as goal

abbrev pub invariant-loop-one : goal.invariant-loop-one
invariant-loop-one l =
    map (λ one. one.now) l.found.items
    ++ filter_map (mounted_in (host_of l.site) (map (λ one. one.now) l.putting) (map (λ one. one.now) l.nodes))
    (map (λ one. one.now) (drop l.one-index l.listed))
    ≡ filter_map (mounted_in (host_of l.site) (map (λ one. one.now) l.putting) (map (λ one. one.now) l.nodes))
    (map (λ one. one.now) l.listed)
