use Rattle.std.proofs.Common.{◌≡◌, map, drop}
use Rattle.mount_plan.specs.Host.{host_of}
use Rattle.mount_plan.specs.Answers.{first_of}
use Rattle.mount_plan.proofs.Keeping.{refusals_of}
use Rattle.mount_plan.proofs.kept.ask.Given as goal

abbrev pub invariant-loop-mention : goal.invariant-loop-mention
invariant-loop-mention l =
    first_of (refusals_of (host_of l.site) l.beneath l.is_put l.part (map (λ mention. mention.now) (drop l.mention-index l.here)))
    ≡ first_of (refusals_of (host_of l.site) l.beneath l.is_put l.part (map (λ mention. mention.now) l.here))
