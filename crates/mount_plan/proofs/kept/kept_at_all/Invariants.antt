use Rattle.std.proofs.Common.{◌≡◌, drop, []}
use Rattle.path_settings.specs.view_map.Kept.{kept_from}
use Rattle.mount_plan.specs.Host.{host_of}
use Rattle.mount_plan.proofs.kept.kept_at_all.Given as goal

abbrev pub invariant-loop-path : goal.invariant-loop-path
invariant-loop-path l = kept_from (host_of l.site) l.mentions (drop l.path-index l.paths) l.kept.items
    ≡ kept_from (host_of l.site) l.mentions l.paths []
