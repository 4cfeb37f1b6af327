use Rattle.std.proofs.Common.{◌≡◌, take}
use Rattle.asked_service.specs.kernel_laws.Launched.{launch_of}
use Rattle.why_command.specs.opening_lines.ByRule.{shut_among}
use Rattle.why_command.proofs.opening_lines.opened.shut.Given as goal

abbrev pub invariant-loop-question : goal.invariant-loop-question
invariant-loop-question l = l.shut.items ≡ shut_among (launch_of l.before.service.world) (take l.question-index l.list)
