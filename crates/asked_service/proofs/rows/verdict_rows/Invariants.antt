use Rattle.std.proofs.Common.{◌≡◌, take}
use Rattle.asked_service.specs.Rows.{rows_of}
use Rattle.asked_service.proofs.rows.verdict_rows.Given as goal

abbrev pub invariant-loop-question : goal.invariant-loop-question
invariant-loop-question l = l.rows.items ≡ rows_of l.bounded.service.world (take l.question-index l.list)
