use Rattle.std.proofs.Common.{◌≡◌, ◌++◌, drop, take}
use Rattle.asked_service.specs.kernel_model.Runs.{replies}
use Rattle.derive_command.proofs.trace_profile.replies.are_replies.Given as goal

-- the replies so far are these, and the others are left
abbrev pub invariant-loop-at : goal.invariant-loop-at
invariant-loop-at l = take l.at l.said ++ replies l.world (drop l.at l.script) ≡ replies l.fn.world l.script
