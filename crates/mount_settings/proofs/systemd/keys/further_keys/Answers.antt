use Rattle.std.proofs.Common.{ap}
use Rattle.mount_settings.specs.systemd.Keys.{unit_keys}
use Rattle.mount_settings.proofs.FurtherSame.{keys_same}
use Rattle.mount_settings.proofs.systemd.keys.further_keys.Goals as goal

pub returns : goal.returns
unfolding unit_keys
returns c =
    keys_same _ _ _ _ _ _ _ _ _ _ _ _ _ _ _ _ _ _ _ _ _ _ _ _ _ _ _ _ _ _
    (ap (λ value. value.is_limited) c.in_ok-last_of_key.ensures.last_value_decides)
    (ap (λ value. value.is_limited) c.in_ok-last_of_key-2.ensures.last_value_decides)
    c.in_ok-flag.ensures
    c.in_ok-last_of_key-3.ensures.last_value_decides
    c.in_ok-flag-2.ensures
    c.in_ok-flag-3.ensures
    c.in_ok-is_given.ensures
    c.in_ok-flag-4.ensures
    c.in_ok-has_own_network.ensures
    c.in_ok-has_credentials.ensures
    c.in_ok-flag-5.ensures
    c.in_ok-read_groups.ensures.means
    (ap (λ value. value.is_kept) c.in_ok-last_of_key-4.ensures.last_value_decides)
    c.in_ok-last_of_key-5.ensures.last_value_decides
    c.in_ok-flag-6.ensures
