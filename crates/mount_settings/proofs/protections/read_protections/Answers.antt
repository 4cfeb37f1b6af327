use Rattle.std.proofs.Common.{ap, ◌∙◌}
use Rattle.mount_settings.specs.systemd.Words.{is_on}
use Rattle.mount_settings.specs.Protections.{unit_protections, protection_notes}
use Rattle.mount_settings.proofs.Protecting.{same_protections, behind}
use Rattle.mount_settings.proofs.protections.read_protections.Goals as goal

pub returns-clause-means : goal.returns-clause-means
unfolding unit_protections
returns-clause-means c =
    same_protections _ (unit_protections c.args.unit.now)
    c.in_ok-protect_system.ensures.last_value_decides
    (c.in_ok-protect_home.ensures.as_said ∙ c.in_ok-home.ensures.last_value_decides)
    (c.in_ok-private_tmp.ensures.as_said ∙ c.in_ok-read_tmp.ensures.means)
    (c.in_ok-protect_kernel_tunables.ensures.as_said ∙ c.in_ok-tunables.ensures.last_value_decides)
    (c.is_on-protect_control_groups.ensures ∙ ap is_on (c.in_ok-groups.ensures.as_said ∙ c.in_ok-read_groups.ensures.means))

pub returns-clause-noted : goal.returns-clause-noted
unfolding protection_notes
returns-clause-noted c =
    behind _ _ _ _ _ c.in_ok-groups.ensures.notes_behind
    (behind _ _ _ _ _ c.in_ok-protect_kernel_tunables.ensures.notes_behind
    (behind _ _ _ _ _ c.in_ok-private_tmp.ensures.notes_behind
    (behind _ _ _ _ _ c.in_ok-protect_home.ensures.notes_behind c.in_ok-protect_system.ensures.notes_the_unread
    c.in_ok-home.ensures.notes_the_unread)
    c.in_ok-read_tmp.ensures.noted)
    c.in_ok-tunables.ensures.notes_the_unread)
    c.in_ok-read_groups.ensures.noted
