use Rattle.std.proofs.Common.{take}
use Rattle.exposure_score.specs.service_facts.Each.{lets_through}
use Rattle.exposure_score.specs.service_facts.Badness.{one_if}
use Rattle.exposure_score.specs.service_facts.Facts.{told}
use Rattle.exposure_score.proofs.Telling.{Tells}
use Rattle.exposure_score.proofs.service_facts.line_facts.Teller.push_groups.Given as goal

abbrev pub invariant-loop-group : goal.invariant-loop-group
invariant-loop-group l = Tells (told l.initial.facts.items) l.self.front.now
    (λ group. (group.name, one_if (lets_through l.self.calls.now l.self.sandbox.now.filters group))) (take l.group-index l.group-items)
    (told l.facts.items)
