use Rattle.exec_settings.proofs.Mounted.{switches_are}
use Rattle.exec_settings.proofs.Whole.{filters_are}
use Rattle.exec_settings.proofs.filters.read_filters.Goals as goal

pub returns-clause-as_wanted : goal.returns-clause-as_wanted
returns-clause-as_wanted c =
    let made = c.in_ok-filters.ensures in
    filters_are _ c.in_ok-found.found c.args.calls.now _ c.in_ok-found.ensures.come_to made.exactly_those_on made.do_as_wanted
    made.can_be_compiled made.fit_into_a_stack made.cases_are_short c.in_ok-found.ensures.refusing

pub returns-clause-switches : goal.returns-clause-switches
returns-clause-switches c = switches_are c.args.unit.now c.args.calls.now _ _ _ c.requires c.in_ok-found.ensures.come_to
    c.switches_of.ensures
