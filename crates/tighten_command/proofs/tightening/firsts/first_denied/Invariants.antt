use Rattle.std.proofs.Common.{◌≡◌, take}
use Rattle.std.specs.List.{All}
use Rattle.tighten_command.specs.tightening.Tried.{IsKept}
use Rattle.tighten_command.proofs.tightening.firsts.first_denied.Given as goal

-- those before are kept
abbrev pub invariant-loop-question : goal.invariant-loop-question
invariant-loop-question l = record {
  counted : l.before ≡ l.question-index;
  kept : All (IsKept l.bounded.service.world) (take l.question-index l.keep);
}
