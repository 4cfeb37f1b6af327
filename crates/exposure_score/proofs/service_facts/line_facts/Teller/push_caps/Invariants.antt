use Rattle.exec_settings.specs.cap_sets.Names.{name_of}
use Rattle.exec_settings.specs.cap_sets.Sets.{has}
use Rattle.std.specs.List.{range_with_len}
use Rattle.exposure_score.specs.service_facts.Badness.{one_if}
use Rattle.exposure_score.specs.service_facts.Facts.{told}
use Rattle.exposure_score.proofs.Telling.{Tells}
use Rattle.exposure_score.proofs.service_facts.line_facts.Teller.push_caps.Given as goal

abbrev pub invariant-loop-cap : goal.invariant-loop-cap
invariant-loop-cap l = Tells (told l.initial.facts.items) l.self.front.now
    (λ number. (name_of number, one_if (has l.self.sandbox.now.bounding number))) (range_with_len 0 l.cap) (told l.facts.items)
