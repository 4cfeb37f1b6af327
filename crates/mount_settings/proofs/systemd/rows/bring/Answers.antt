use Rattle.mount_settings.specs.systemd.Mentions.{stands}
use Rattle.mount_settings.specs.systemd.Rows.{entry_at}
use Rattle.mount_settings.proofs.Standing.{text_more}
use Rattle.mount_settings.proofs.systemd.rows.bring.Goals as goal

pub loop-text-preserved : goal.loop-text-preserved
loop-text-preserved c = text_more (stands c.args.site.now) (entry_at c.args.mode.now) c.args.texts.now c.loop-text.text-index _
    c.args.entries.now.items _ _ c.loop-text-test.true c.loop-text.invariant c.in_ok-bring_one.ensures
