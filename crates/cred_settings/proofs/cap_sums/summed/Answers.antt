use Rattle.std.proofs.Common.{◌∙◌}
use Rattle.cred_settings.specs.CapSums.{with_value}
use Rattle.cred_settings.proofs.Folding.{fold_next}
use Rattle.cred_settings.proofs.cap_sums.summed.Goals as goal

pub loop-one-preserved : goal.loop-one-preserved
loop-one-preserved c =
    fold_next (with_value c.args.default.now) c.loop-one.set _ c.args.lines.now c.loop-one.one-index c.one-item.result c.loop-one-test.true
    c.one-item.is c.with_value-set.ensures
    ∙ c.loop-one.invariant
