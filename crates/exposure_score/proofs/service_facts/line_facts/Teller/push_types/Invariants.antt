use Rattle.std.proofs.Common.{take}
use Rattle.exec_settings.specs.filter_settings.filter_rules.NamespaceTypes.{permits}
use Rattle.exec_settings.specs.linux_numbers.Namespaces.{name_of}
use Rattle.exposure_score.specs.service_facts.Badness.{one_if}
use Rattle.exposure_score.specs.service_facts.Facts.{told}
use Rattle.exposure_score.proofs.Telling.{Tells}
use Rattle.exposure_score.proofs.service_facts.line_facts.Teller.push_types.Given as goal

abbrev pub invariant-loop-kind : goal.invariant-loop-kind
invariant-loop-kind l = Tells (told l.initial.facts.items) l.self.front.now
    (λ kind. (name_of kind, one_if (permits l.self.sandbox.now.filters.namespaces kind))) (take l.kind-index l.kind-items)
    (told l.facts.items)
