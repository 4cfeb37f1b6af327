use Rattle.open_calls.proofs.Makers.{choice_is_made}
use Rattle.open_calls.proofs.Shown.{choice_shows}
use Rattle.open_calls.proofs.chosen_calls.choices.Goals as goal

pub returns : goal.returns
returns c = record { shown = choice_shows; made = choice_is_made }
