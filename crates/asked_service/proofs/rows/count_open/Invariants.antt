use Rattle.std.proofs.Common.{◌≡◌, ◌≤◌, take}
use Rattle.asked_service.specs.Rows.{count_open, rows_of}
use Rattle.asked_service.proofs.rows.count_open.Given as goal

abbrev pub invariant-loop-question : goal.invariant-loop-question
invariant-loop-question l = record {
  counted : l.open ≡ count_open (rows_of l.bounded.service.world (take l.question-index l.list));
  few : l.open ≤ l.question-index;
}
