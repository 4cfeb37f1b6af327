use Rattle.asked_service.proofs.launching.steps.lay_out.Goals as goal

pub returns-in-Ok : goal.returns-in-Ok
returns-in-Ok c = record {
  is_planned = c.in-Ok.ensures.table_or_first_refusal;
  keeps_by_rules = c.in-Ok.ensures.keeps_by_rules;
  finds_as_view = c.in-Ok.ensures.finds_as_view;
  places_are_mentioned = c.in-Ok.ensures.places_are_mentioned;
  can_be_mounted = c.in-Ok.ensures.can_be_mounted c.requires.paths_are_short;
}
