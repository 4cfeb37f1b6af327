use Rattle.std.proofs.Common.{◌≡◌, take}
use Rattle.std.specs.Prelude.{option_copied}
use Rattle.kernel_laws.specs.kern_mounts.Entry.{entry_of}
use Rattle.launcher.proofs.privileged.entry_of.Given as goal

abbrev pub invariant-loop-entry : goal.invariant-loop-entry
invariant-loop-entry l = option_copied l.found ≡ entry_of (take l.entry-index l.plan) l.path
