use Rattle.std.proofs.Common.{sym, ◌∙◌, rules, tests}
use Rattle.std.specs.Str.{bytes_eq}
use Rattle.exec_settings.specs.linux_numbers.Namespaces.{name_of as type_name}
use Rattle.std.proofs.lemmas.Iterator.Search.{any_from_yields_List}
use Rattle.std.proofs.lemmas.Iterator.{YieldsList-from_slice}
use Rattle.exposure_score.proofs.Mapped.{list_any-map}
use Rattle.exposure_score.proofs.service_facts.each.is_type.Goals as goal

pub returns : goal.returns
returns c =
    any_from_yields_List (λ x. bytes_eq (type_name x) c.args.name.now) _ _ _ c.any.ensures.ran
    (YieldsList-from_slice c.args.kinds.now c.iter.ensures.rest) (λ x b q k. search (rules, tests))
    ∙ sym (list_any-map (λ one. bytes_eq one c.args.name.now) (type_name) c.args.kinds.now)
