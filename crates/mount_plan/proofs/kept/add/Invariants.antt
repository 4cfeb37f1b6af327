use Rattle.std.proofs.Common.{◌≡◌, ◌++◌, map, filter, drop}
use Rattle.path_settings.specs.view_map.Kept.{is_kept}
use Rattle.mount_plan.specs.Host.{host_of}
use Rattle.mount_plan.specs.Here.{fate_beside}
use Rattle.mount_plan.proofs.kept.add.Given as goal

abbrev pub invariant-loop-mention : goal.invariant-loop-mention
invariant-loop-mention l = l.kept.items ++ filter (λ mention. is_kept (fate_beside (host_of l.site) l.beneath l.is_put mention))
    (map (λ mention. mention.now) (drop l.mention-index l.here))
    ≡ l.initial.kept.items ++ filter (λ mention. is_kept (fate_beside (host_of l.site) l.beneath l.is_put mention))
    (map (λ mention. mention.now) l.here)
