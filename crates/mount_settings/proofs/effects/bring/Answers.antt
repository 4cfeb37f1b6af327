use Rattle.mount_settings.specs.Effects.{mention_at, stands}
use Rattle.mount_settings.proofs.Standing.{text_more}
use Rattle.mount_settings.proofs.effects.bring.Goals as goal

pub loop-text-preserved : goal.loop-text-preserved
loop-text-preserved c = text_more (stands c.args.site.now) (mention_at c.args.effect) c.args.texts.now c.loop-text.text-index _
    c.args.mentions.now.items _ _ c.loop-text-test.true c.loop-text.invariant c.in_ok-bring_one.ensures
