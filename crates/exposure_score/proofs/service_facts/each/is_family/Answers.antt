use Rattle.std.proofs.Common.{sym, ◌∙◌, rules, tests}
use Rattle.std.specs.Str.{bytes_eq}
use Rattle.exec_settings.specs.call_table.declared.listed.CallLine.{CallLine}
use Rattle.std.proofs.lemmas.Iterator.Search.{any_from_yields_List}
use Rattle.std.proofs.lemmas.Iterator.{YieldsList-from_slice}
use Rattle.exposure_score.proofs.Mapped.{list_any-map}
use Rattle.exposure_score.proofs.service_facts.each.is_family.Goals as goal

pub returns : goal.returns
returns c =
    any_from_yields_List (λ x. bytes_eq (x.name) c.args.name.now) _ _ _ c.any.ensures.ran
    (YieldsList-from_slice c.args.families.now c.iter.ensures.rest) (λ x b q k. search (rules, tests))
    ∙ sym (list_any-map (λ one. bytes_eq one c.args.name.now) (λ (family : CallLine). family.name) c.args.families.now)
