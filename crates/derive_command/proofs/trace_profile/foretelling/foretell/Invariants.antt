use Rattle.std.proofs.Common.{◌≡◌, drop}
use Rattle.derive_command.specs.trace_profile.Foretelling.{foretells}
use Rattle.derive_command.proofs.trace_profile.foretelling.foretell.Given as goal

-- the calls so far have the replies that were said, and the others are left
abbrev pub invariant-loop-at : goal.invariant-loop-at
invariant-loop-at l = foretells l.calls l.stack (drop l.at l.script) (drop l.at l.fates) (drop l.at l.said)
    ≡ foretells l.calls l.stack l.script l.fates l.said
