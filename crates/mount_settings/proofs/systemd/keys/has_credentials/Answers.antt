use Rattle.std.proofs.Common.{◌∙◌}
use Rattle.mount_settings.proofs.FurtherSame.{any_same}
use Rattle.mount_settings.proofs.systemd.keys.has_credentials.Goals as goal

pub returns : goal.returns
returns c =
    c.any_of.ensures
    ∙ any_same _ _ _ _ _ _ _ _ _ _ c.in_ok-loaded.ensures c.in_ok-decrypted.ensures c.in_ok-imported.ensures c.in_ok-set.ensures
    c.in_ok-set_encrypted.ensures
