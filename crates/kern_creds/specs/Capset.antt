-- capset(2) of the calling thread, with the rules of capabilities(7), "Programmatically adjusting capability sets".
use Rattle.std.specs.Prelude.{ℕ, Bool, Result, Ok, Err, if◌then◌else◌, ◌&&◌, ◌||◌}
use Rattle.cap_sets.specs.Sets.{has, union, cut, within}
use Rattle.kern_creds.specs.declared.creds.Creds.{Creds}
use Rattle.cap_sets.specs.linux_numbers.Errnos.{eperm}
use Rattle.cap_sets.specs.linux_numbers.Capabilities.{cap_setpcap}

-- the new permitted set is within the old one, and the new effective set is within it. The new inheritable set is within the
-- old inheritable and bounding sets together; without CAP_SETPCAP it is also within the old inheritable and permitted sets
-- together
abbrev pub may_capset : Creds → ℕ → ℕ → ℕ → Bool
may_capset creds permitted effective inheritable =
    (within permitted creds.permitted && within effective permitted)
    && (within inheritable (union creds.inheritable creds.bounding)
    && (has creds.effective cap_setpcap || within inheritable (union creds.inheritable creds.permitted)))

-- an ambient capability stays only if it is still permitted and inheritable
abbrev pub with_sets : Creds → ℕ → ℕ → ℕ → Creds
with_sets creds permitted effective inheritable =
    record creds {
      permitted = permitted;
      effective = effective;
      inheritable = inheritable;
      ambient = cut creds.ambient (cut permitted inheritable);
    }

abbrev pub after_capset : Creds → ℕ → ℕ → ℕ → Result Creds ℕ
after_capset creds permitted effective inheritable =
    if may_capset creds permitted effective inheritable then Ok (with_sets creds permitted effective inheritable) else Err eperm
