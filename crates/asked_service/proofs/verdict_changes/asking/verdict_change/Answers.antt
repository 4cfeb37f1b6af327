use Rattle.asked_service.proofs.Lent.{lists_it, runs_it}
use Rattle.asked_service.proofs.verdict_changes.asking.verdict_change.Goals as goal

pub calls-requires-clause-program : goal.calls-requires-clause-program
calls-requires-clause-program c = runs_it c.args.after.now c.args.service.now c.requires.its_service c.requires.after

pub calls-requires-clause-asked : goal.calls-requires-clause-asked
calls-requires-clause-asked c = lists_it c.args.after.now c.args.service.now c.requires.its_service c.args.question.now
    c.requires.listed_after
