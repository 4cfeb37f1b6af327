-- The credentials of the first process, capabilities(7): it is root and has every capability. Its inheritable and ambient sets
-- are empty, and it has no ring.
use Rattle.std.specs.Prelude.{[], false}
use Rattle.cap_sets.specs.Sets.{none, all}
use Rattle.kern_creds.specs.declared.ids.Ids.{Ids}
use Rattle.kern_creds.specs.declared.creds.Creds.{Creds}

abbrev pub all_root : Ids
all_root = record { real = 0; effective = 0; saved = 0 }

abbrev pub start : Creds
start = record {
  uids = all_root;
  gids = all_root;
  groups = [];
  permitted = all;
  effective = all;
  inheritable = none;
  bounding = all;
  ambient = none;
  no_new_privs = false;
  mdwe = false;
  ring = false;
  keepcaps = false;
}
