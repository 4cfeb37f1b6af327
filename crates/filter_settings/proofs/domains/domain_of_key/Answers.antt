use Rattle.std.proofs.Common.{ap, ◌∙◌}
use Rattle.dropin_merge.specs.unit_values.Lasting.{last_read, unit_last}
use Rattle.filter_settings.specs.Domains.{domain_named}
use Rattle.filter_settings.specs.declared.filter_rules.personality.Domain.TheVariants.{Linux}
use Rattle.filter_settings.proofs.domains.domain_of_key.Goals as goal

pub returns : goal.returns
unfolding unit_last
returns c = record {
  last_value_decides =
      c.last_domain.ensures
      ∙ ap (last_read (domain_named c.args.table.now) Linux)
      (c.as_slice.ensures.value ∙ c.in_ok-values.ensures.all_values_in_order);
}
