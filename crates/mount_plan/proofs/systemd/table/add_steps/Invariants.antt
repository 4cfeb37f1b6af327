use Rattle.std.proofs.Common.{◌≡◌, ◌++◌, map, filter, drop}
use Rattle.std.specs.Prelude.{not}
use Rattle.path_settings.specs.abs_path.Paths.{is_root}
use Rattle.mount_plan.specs.Host.{host_of}
use Rattle.mount_plan.specs.systemd.Table.{step_among}
use Rattle.mount_plan.proofs.systemd.table.add_steps.Given as goal

abbrev pub invariant-loop-one : goal.invariant-loop-one
invariant-loop-one l =
    l.steps.items
    ++ map (step_among (host_of l.site) l.no_new_privs l.entries (map (λ one. one.now) l.putting) (map (λ one. one.now) l.beginning)
    (map (λ one. one.now) l.made))
    (filter (λ one. not (is_root one.path)) (map (λ one. one.now) (drop l.one-index l.made)))
    ≡ l.initial.steps.items
    ++ map (step_among (host_of l.site) l.no_new_privs l.entries (map (λ one. one.now) l.putting) (map (λ one. one.now) l.beginning)
    (map (λ one. one.now) l.made))
    (filter (λ one. not (is_root one.path)) (map (λ one. one.now) l.made))
