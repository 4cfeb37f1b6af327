use Rattle.std.proofs.Common.{◌≡◌, drop}
use Rattle.dropin_merge.specs.unit_values.Lasting.{last_read}
use Rattle.filter_settings.specs.Domains.{domain_named}
use Rattle.filter_settings.specs.declared.filter_rules.personality.Domain.TheVariants.{Linux}
use Rattle.filter_settings.proofs.domains.last_domain.Given as goal

abbrev pub invariant-loop-value : goal.invariant-loop-value
invariant-loop-value l = last_read (domain_named l.table) Linux l.values
    ≡ last_read (domain_named l.table) l.domain (drop l.value-index l.values)
