use Rattle.std.proofs.Common.{Some, sym, ap, ◌∙◌, arith}
use Rattle.exec_settings.specs.Profile.{asks}
use Rattle.exec_settings.proofs.Lasts.{last_so_far}
use Rattle.exec_settings.proofs.profile.last_asks.Goals as goal

pub loop-value-preserved : goal.loop-value-preserved
loop-value-preserved c = last_so_far (λ value. Some (asks value.text)) c.args.values.now c.loop-value.value-index c.value-item.result _ _
    (omega arith) c.value-item.is cc
