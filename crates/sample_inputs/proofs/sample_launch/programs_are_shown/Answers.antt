use Rattle.sample_inputs.proofs.Shown.{shown_by_the_view, shown_beside_mentions}
use Rattle.sample_inputs.proofs.sample_launch.programs_are_shown.Goals as goal

pub returns-clause-by_the_view : goal.returns-clause-by_the_view
returns-clause-by_the_view c = shown_by_the_view

pub returns-clause-beside_mentions : goal.returns-clause-beside_mentions
returns-clause-beside_mentions c = shown_beside_mentions
