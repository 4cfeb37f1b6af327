use Rattle.std.proofs.Common.{ap, ◌++◌, ◌∙◌, append_assoc}
use Rattle.filter_settings.specs.CallLists.{unit_call_list, unit_call_list_notes}
use Rattle.filter_settings.specs.FamilyLists.{unit_family_list, unit_family_list_notes}
use Rattle.filter_settings.specs.Settings.{restriction_notes, protection_notes, list_notes, filter_notes}
use Rattle.filter_settings.proofs.Chained.{five_said}
use Rattle.filter_settings.proofs.Joined.{settings_by_flags}
use Rattle.filter_settings.proofs.settings.read_settings.Goals as goal

pub returns-clause-means : goal.returns-clause-means
unfolding unit_call_list unit_family_list
returns-clause-means c =
    settings_by_flags c.args.unit.now c.args.table.now c.in_ok-flags.ensures.means
    (c.in_ok-noted_in.ensures.as_said ∙ c.in_ok-error_action_of_key.ensures.means)
    (c.in_ok-noted_in-2.ensures.as_said ∙ c.in_ok-namespaces_of_key.ensures.means)
    (c.in_ok-noted_in-3.ensures.as_said ∙ c.in_ok-list_of_key.ensures.means)
    (c.in_ok-noted_in-4.ensures.as_said ∙ c.in_ok-list_of_key-2.ensures.means)
    (c.in_ok-noted_in-5.ensures.as_said ∙ c.in_ok-second_refused_by_key.ensures.means)
    c.in_ok-flag_of_key.ensures.last_value_decides c.in_ok-domain_of_key.ensures.last_value_decides

pub returns-clause-noted : goal.returns-clause-noted
unfolding unit_call_list_notes unit_family_list_notes list_notes filter_notes
returns-clause-noted c =
    five_said _ _ _ _ _ _ c.in_ok-error_action_of_key.ensures.noted c.in_ok-noted_in.ensures.notes_behind
    c.in_ok-namespaces_of_key.ensures.noted c.in_ok-noted_in-2.ensures.notes_behind
    c.in_ok-list_of_key.ensures.noted c.in_ok-noted_in-3.ensures.notes_behind c.in_ok-list_of_key-2.ensures.noted
    c.in_ok-noted_in-4.ensures.notes_behind c.in_ok-second_refused_by_key.ensures.noted c.in_ok-noted_in-5.ensures.notes_behind
    ∙ ap (λ notes. notes ++ list_notes c.args.unit.now c.args.table.now) c.in_ok-flags.ensures.noted
    ∙ append_assoc _ (restriction_notes c.args.unit.now ++ protection_notes c.args.unit.now) (list_notes c.args.unit.now c.args.table.now)
