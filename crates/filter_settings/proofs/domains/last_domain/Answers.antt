use Rattle.std.proofs.Common.{◌∙◌}
use Rattle.filter_settings.specs.Domains.{domain_named}
use Rattle.filter_settings.proofs.Lasting.{read_next}
use Rattle.filter_settings.proofs.domains.last_domain.Goals as goal

pub loop-value-preserved : goal.loop-value-preserved
loop-value-preserved c =
    c.loop-value.invariant
    ∙ read_next (domain_named c.args.table.now) c.loop-value.domain _ c.args.values.now c.loop-value.value-index c.value-item.result
    c.loop-value-test.true c.value-item.is c.next_domain-domain.ensures
