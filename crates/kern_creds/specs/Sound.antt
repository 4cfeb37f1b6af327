-- The property that capabilities(7) states of the sets of every thread.
use Rattle.cap_sets.specs.Sets.{IsWithin}
use Rattle.kern_creds.specs.declared.creds.Creds.{Creds}

-- "Thread capability sets": the effective set is within the permitted set, and each ambient capability is both permitted and
-- inheritable
pub record IsSound (creds : Creds) : Type 0 where
  pub effective_is_permitted : IsWithin creds.effective creds.permitted
  pub ambient_is_permitted : IsWithin creds.ambient creds.permitted
  pub ambient_is_inheritable : IsWithin creds.ambient creds.inheritable
