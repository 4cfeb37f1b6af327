use Rattle.std.proofs.Common.{◌≡◌, take}
use Rattle.asked_service.specs.kernel_laws.Launched.{launch_of}
use Rattle.why_command.specs.opening_lines.ByRule.{open_among}
use Rattle.why_command.proofs.opening_lines.opened.opened.Given as goal

abbrev pub invariant-loop-question : goal.invariant-loop-question
invariant-loop-question l = l.opened.items ≡ open_among (launch_of l.after.service.world) (take l.question-index l.shut)
