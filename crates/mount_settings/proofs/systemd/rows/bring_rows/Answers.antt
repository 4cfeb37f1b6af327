use Rattle.mount_settings.proofs.systemd.rows.bring_rows.Goals as goal

pub returns : goal.returns
returns c = c.bring_each.ensures
