use Rattle.std.proofs.Common.{◌≡◌, map, drop}
use Rattle.path_settings.specs.abs_path.ByteOrder.{with_placed}
use Rattle.mount_plan.proofs.systemd.listing.put_paths.Given as goal

abbrev pub invariant-loop-one : goal.invariant-loop-one
invariant-loop-one l = with_placed l.paths.items (map (λ one. one.path) (drop l.one-index l.entries))
    ≡ with_placed l.initial.paths.items (map (λ one. one.path) l.entries)
