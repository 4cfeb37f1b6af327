-- The credentials of a process that enters a user namespace of its own, user_namespaces(7), "Capabilities": it has every
-- capability there.
use Rattle.std.specs.Prelude.{false}
use Rattle.cap_sets.specs.Sets.{none, all}
use Rattle.kern_creds.specs.declared.creds.Creds.{Creds}

-- ids, groups, no_new_privs, mdwe and a ring stay
abbrev pub entered : Creds → Creds
entered creds = record creds { permitted = all; effective = all; bounding = all; inheritable = none; ambient = none; keepcaps = false }
