-- The result of a call: an errno(3) and the unchanged table if its rule refuses the call, else the table that the rule gives.
use Rattle.std.specs.Prelude.{◌≡◌, ℕ, Result, Ok, Err, IsOk}
use Rattle.kern_mounts.specs.declared.error.MountError.{MountError}
use Rattle.kern_mounts.specs.declared.error.MountError.TheVariants.{Errno, Memory}

-- the call changed the old table to the new one and returned this result, as the rule's answer says
abbrev pub Becomes : {T : Type 0} → T → T → Result (Unit {0}) ℕ → Result T ℕ → Type 0
Becomes old new (Ok u) answer = answer ≡ Ok new
Becomes old new (Err errno) answer = (answer ≡ Err errno) × (new ≡ old)

-- a call that takes memory failed for this reason: the rule's errno, or lack of memory if the rule does not refuse the call
abbrev pub Refuses : {T : Type 0} → MountError → Result T ℕ → Type 0
Refuses (Errno errno) answer = answer ≡ Err errno
Refuses Memory answer = IsOk answer

-- the same for a call that takes memory
abbrev pub BecomesOrMemory : {T : Type 0} → T → T → Result (Unit {0}) MountError → Result T ℕ → Type 0
BecomesOrMemory old new (Ok u) answer = answer ≡ Ok new
BecomesOrMemory old new (Err error) answer = Refuses error answer × (new ≡ old)
