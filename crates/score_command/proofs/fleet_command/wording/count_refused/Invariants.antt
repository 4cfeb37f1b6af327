use Rattle.std.proofs.Common.{◌≡◌, ◌≤◌, take}
use Rattle.std.specs.Prelude.{count_by}
use Rattle.score_command.specs.fleet_command.Texts.{is_refused}
use Rattle.score_command.proofs.fleet_command.wording.count_refused.Given as goal

abbrev pub invariant-loop-row : goal.invariant-loop-row
invariant-loop-row l = record {
  counted : l.count ≡ count_by is_refused (take l.row-index l.rows);
  few : l.count ≤ l.row-index;
}
