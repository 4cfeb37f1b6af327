use Rattle.std.proofs.Common.{refl, rules, tests}
use Rattle.std.specs.Str.{bytes_eq}
use Rattle.std.proofs.lemmas.Iterator.Search.{any_from_yields_List}
use Rattle.std.proofs.lemmas.Iterator.{YieldsList-from_range}
use Rattle.exec_settings.specs.cap_sets.Names.{name_of}
use Rattle.exposure_score.proofs.service_facts.each.is_cap.Goals as goal

pub returns : goal.returns
returns c =
    any_from_yields_List (λ cap. bytes_eq (name_of cap) c.args.name.now) _ _ _ c.any.ensures.ran (YieldsList-from_range 0 41 41 refl refl)
    (λ x b q k. search (rules, tests))
