use Rattle.std.proofs.Common.{◌++◌, ◌∷◌, [], ap, ◌∙◌, arith}
use Rattle.exec_settings.specs.cap_sets.Names.{name_of}
use Rattle.exec_settings.specs.cap_sets.Sets.{has}
use Rattle.exposure_score.specs.service_facts.Badness.{one_if}
use Rattle.exposure_score.specs.service_facts.Facts.{told, behind}
use Rattle.exposure_score.proofs.Telling.{one_more_number, all_numbers}
use Rattle.exposure_score.proofs.service_facts.line_facts.Teller.push_caps.Goals as goal

pub loop-cap-preserved : goal.loop-cap-preserved
loop-cap-preserved c =
    one_more_number (told c.args.facts.now.items) c.args.self.now.front.now
    (λ number. (name_of number, one_if (has c.args.self.now.sandbox.now.bounding number))) c.loop-cap.cap
    (told c.loop-cap.facts.items) (told c.push_fact.new.facts.items) c.loop-cap.invariant
    (c.in_ok-push_fact.ensures
    ∙ (ap (λ name. told c.loop-cap.facts.items ++ behind c.args.self.now.front.now (name, c.one_if-badness.result) ∷ [])
    c.name.ensures.its_name
    ∙ ap (λ badness. told c.loop-cap.facts.items ++ behind c.args.self.now.front.now (name_of c.loop-cap.cap, badness) ∷ [])
    (c.one_if-badness.ensures.counts_what_is_bad ∙ ap one_if c.contains.ensures.has)))

pub returns : goal.returns
returns c =
    all_numbers (told c.args.facts.now.items) c.args.self.now.front.now
    (λ number. (name_of number, one_if (has c.args.self.now.sandbox.now.bounding number))) c.loop-cap.cap 41
    (told c.loop-cap.facts.items) (omega arith) c.loop-cap.invariant
