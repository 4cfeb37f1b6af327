use Rattle.asked_service.proofs.Changed.{changes_are_true}
use Rattle.asked_service.proofs.verdict_changes.reasons.changes_are_true.Goals as goal

pub returns : goal.returns
returns c = record { exactly_what_changes = changes_are_true c.truths.ensures.answers c.blindness.ensures.exact }
