-- The result of a call: an errno(3) and unchanged credentials if its rule refuses the call, else the new credentials.
use Rattle.std.specs.Prelude.{◌≡◌, ℕ, Result, Ok, Err, IsOk}
use Rattle.kern_creds.specs.declared.creds.Creds.{Creds}
use Rattle.kern_creds.specs.declared.error.CredError.{CredError}
use Rattle.kern_creds.specs.declared.error.CredError.TheVariants.{Errno, Memory}

-- the call changed the old credentials to the new ones and returned this result, as the rule's answer says
abbrev pub Becomes : Creds → Creds → Result (Unit {0}) ℕ → Result Creds ℕ → Type 0
Becomes old new (Ok u) answer = answer ≡ Ok new
Becomes old new (Err errno) answer = (answer ≡ Err errno) × (new ≡ old)

-- the same for a call that takes memory; memory can run out only if the rule does not refuse the call
abbrev pub BecomesOrMemory : Creds → Creds → Result (Unit {0}) CredError → Result Creds ℕ → Type 0
BecomesOrMemory old new (Ok u) answer = answer ≡ Ok new
BecomesOrMemory old new (Err (Errno errno)) answer = (answer ≡ Err errno) × (new ≡ old)
BecomesOrMemory old new (Err Memory) answer = IsOk answer × (new ≡ old)
