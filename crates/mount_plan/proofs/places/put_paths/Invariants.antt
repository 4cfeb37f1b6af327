use Rattle.std.proofs.Common.{◌≡◌, map, drop}
use Rattle.path_settings.specs.abs_path.ByteOrder.{with_placed}
use Rattle.mount_plan.proofs.places.put_paths.Given as goal

abbrev pub invariant-loop-mention : goal.invariant-loop-mention
invariant-loop-mention l = with_placed l.paths.items (map (λ mention. mention.path) (drop l.mention-index l.mentions))
    ≡ with_placed l.initial.paths.items (map (λ mention. mention.path) l.mentions)
