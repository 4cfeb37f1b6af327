use Rattle.std.proofs.Common.{◌≡◌, ◌++◌, map, drop}
use Rattle.path_settings.specs.view_map.Kept.{unbeaten_of}
use Rattle.mount_plan.proofs.here.unbeaten.Given as goal

abbrev pub invariant-loop-index : goal.invariant-loop-index
invariant-loop-index l = map (λ mention. mention.now) l.found.items ++ unbeaten_of (map (λ mention. mention.now) l.here)
    (map (λ mention. mention.now) (drop l.index l.here)) ≡ unbeaten_of (map (λ mention. mention.now) l.here)
    (map (λ mention. mention.now) l.here)
