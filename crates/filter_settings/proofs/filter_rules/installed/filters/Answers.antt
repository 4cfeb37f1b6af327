use Rattle.std.proofs.Common.{map}
use Rattle.filter_settings.specs.filter_rules.Installed.{shown}
use Rattle.filter_settings.proofs.Room.{answer_fits, within_costs}
use Rattle.filter_settings.proofs.filter_rules.installed.filters.Goals as goal

pub returns-clause-fit_into_a_stack : goal.returns-clause-fit_into_a_stack
returns-clause-fit_into_a_stack c =
    answer_fits c.args.settings.now c.args.table.now (map shown c.all_programs.result.now) c.all_programs.ensures.programs
    c.filters_among.result c.filters_among.ensures.on
    (within_costs c.args.settings.now c.args.table.now c.filters_among.result c.filters_among.ensures.rules)
