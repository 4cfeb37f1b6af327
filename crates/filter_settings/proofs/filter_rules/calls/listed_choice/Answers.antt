use Rattle.std.proofs.Common.{ap, ◌∙◌, Some}
use Rattle.filter_settings.specs.filter_rules.Calls.{listed_action, listed_by}
use Rattle.filter_settings.specs.filter_rules.Choices.{always}
use Rattle.filter_settings.proofs.Marked.{chosen, not_chosen}
use Rattle.filter_settings.proofs.filter_rules.calls.listed_choice.Goals as goal

pub returns-in-Some : goal.returns-in-Some
returns-in-Some c = ap Some c.always.ensures.no_tests
    ∙ chosen (listed_action c.args.list.now.mode c.args.default) (listed_by c.args.table.now c.args.list.now.mentions c.args.name.now)
    always c.in-Some.action c.in-Some.ensures

pub returns-in-None : goal.returns-in-None
returns-in-None c =
    not_chosen (listed_action c.args.list.now.mode c.args.default) (listed_by c.args.table.now c.args.list.now.mentions c.args.name.now)
    always c.in-None.ensures
