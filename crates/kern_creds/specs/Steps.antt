-- One call, and any number of calls in sequence.
use Rattle.std.specs.Prelude.{◌≡◌, Bool, false, Ok, not}
use Rattle.kern_creds.specs.Calls.{Call, Exec, after}
use Rattle.kern_creds.specs.declared.creds.Creds.{Creds}

-- the call succeeds and leaves these credentials
abbrev pub Leads : Creds → Call → Creds → Type 0
Leads creds call now = after creds call ≡ Ok now

-- any number of successful calls lead from the first credentials to the last
pub data Reaches (first : Creds) : Creds → Type 0 where
  Here : Reaches first first
  Then : (creds now : Creds) (call : Call) → Reaches first creds → Leads creds call now → Reaches first now

-- prctl(2), PR_SET_NO_NEW_PRIVS: the call is an execve without no_new_privs, which may give new privileges
abbrev pub may_gain : Creds → Call → Bool
may_gain creds (Exec file nosuid) = not creds.no_new_privs
may_gain creds _ = false
