use Rattle.std.proofs.Common.{◌≡◌, map, drop}
use Rattle.mount_plan.specs.Host.{host_of}
use Rattle.mount_plan.specs.Answers.{first_of}
use Rattle.mount_plan.proofs.EntriesMade.{refusals_in}
use Rattle.mount_plan.proofs.systemd.making.ask_each.Given as goal

abbrev pub invariant-loop-one : goal.invariant-loop-one
invariant-loop-one l =
    first_of (refusals_in (host_of l.site) (map (λ one. one.now) l.putting) (map (λ one. one.now) (drop l.one-index l.listed)))
    ≡ first_of (refusals_in (host_of l.site) (map (λ one. one.now) l.putting) (map (λ one. one.now) l.listed))
