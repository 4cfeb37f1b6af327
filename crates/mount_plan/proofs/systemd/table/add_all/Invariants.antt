use Rattle.std.proofs.Common.{◌≡◌, ◌++◌, map, drop}
use Rattle.mount_plan.proofs.systemd.table.add_all.Given as goal

abbrev pub invariant-loop-one : goal.invariant-loop-one
invariant-loop-one l = map (λ one. one.now) l.found.items ++ map (λ one. one.now) (drop l.one-index l.from)
    ≡ map (λ one. one.now) l.initial.found.items ++ map (λ one. one.now) l.from
