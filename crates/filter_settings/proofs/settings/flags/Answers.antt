use Rattle.std.proofs.Common.{ap, ◌++◌, ◌∙◌, append_assoc}
use Rattle.filter_settings.specs.Settings.{restriction_notes, protection_notes}
use Rattle.filter_settings.proofs.Chained.{four_behind, five_behind}
use Rattle.filter_settings.proofs.Joined.{joined_flags}
use Rattle.filter_settings.proofs.settings.flags.Goals as goal

pub returns-clause-means : goal.returns-clause-means
returns-clause-means c =
    joined_flags c.args.unit.now c.in_ok-flag.ensures.means c.in_ok-flag-2.ensures.means c.in_ok-flag-3.ensures.means
    c.in_ok-flag-4.ensures.means
    c.in_ok-flag-5.ensures.means c.in_ok-flag-6.ensures.means c.in_ok-flag-7.ensures.means c.in_ok-flag-8.ensures.means
    c.in_ok-flag-9.ensures.means

pub returns-clause-noted : goal.returns-clause-noted
unfolding restriction_notes protection_notes
returns-clause-noted c =
    five_behind _ _ _ _ _ _ c.in_ok-flag-5.ensures.noted c.in_ok-flag-6.ensures.noted c.in_ok-flag-7.ensures.noted
    c.in_ok-flag-8.ensures.noted c.in_ok-flag-9.ensures.noted
    ∙ ap (λ notes. notes ++ protection_notes c.args.unit.now)
    (four_behind _ _ _ _ _ c.in_ok-flag.ensures.noted c.in_ok-flag-2.ensures.noted c.in_ok-flag-3.ensures.noted
    c.in_ok-flag-4.ensures.noted)
    ∙ append_assoc _ (restriction_notes c.args.unit.now) (protection_notes c.args.unit.now)
