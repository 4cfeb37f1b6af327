use Rattle.std.proofs.Common.{◌≡◌, ◌++◌, map, drop}
use Rattle.std.specs.List.{filter_map}
use Rattle.path_settings.specs.systemd.Listed.{listed_at}
use Rattle.mount_plan.proofs.systemd.listing.listed_at_all.Given as goal

abbrev pub invariant-loop-path : goal.invariant-loop-path
invariant-loop-path l = map (λ one. one.now) l.found.items ++ filter_map (listed_at l.entries) (drop l.path-index l.paths)
    ≡ filter_map (listed_at l.entries) l.paths
