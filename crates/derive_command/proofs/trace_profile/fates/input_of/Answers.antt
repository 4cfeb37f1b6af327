use Rattle.std.proofs.Common.{◌∙◌, ℕ, Some, ap, sym}
use Rattle.derive_command.proofs.Foretold.{seen_here}
use Rattle.derive_command.proofs.trace_profile.fates.input_of.Goals as goal

pub returns : goal.returns
returns c =
    seen_here c.args.calls.now c.args.call.now c.requires.has_the_abi
    ∙ ap (λ (arch : ℕ). Some (record { nr = c.args.call.now.nr; arch = arch; ip = 0; args = c.args.call.now.args })) (sym c.arch_of.ensures.by_position)
