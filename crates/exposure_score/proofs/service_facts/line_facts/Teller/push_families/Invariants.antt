use Rattle.std.proofs.Common.{take}
use Rattle.exec_settings.specs.filter_settings.filter_rules.Families.{permits_family}
use Rattle.exposure_score.specs.service_facts.Badness.{one_if}
use Rattle.exposure_score.specs.service_facts.Facts.{told}
use Rattle.exposure_score.proofs.Telling.{Tells}
use Rattle.exposure_score.proofs.service_facts.line_facts.Teller.push_families.Given as goal

abbrev pub invariant-loop-family : goal.invariant-loop-family
invariant-loop-family l = Tells (told l.initial.facts.items) l.self.front.now
    (λ family. (family.name, one_if (permits_family l.self.sandbox.now.filters.families family.number)))
    (take l.family-index l.family-items) (told l.facts.items)
