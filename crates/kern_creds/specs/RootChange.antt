-- capabilities(7), "Effect of user ID changes on capabilities".
use Rattle.std.specs.Prelude.{Bool, true, false, if◌then◌else◌, ◌==◌, ◌&&◌, ◌||◌, not}
use Rattle.cap_sets.specs.Sets.{none}
use Rattle.kern_creds.specs.declared.ids.Ids.{Ids}
use Rattle.kern_creds.specs.declared.creds.Creds.{Creds}

-- one of the three ids is 0
abbrev pub has_root : Ids → Bool
has_root ids = (ids.real == 0 || ids.effective == 0) || ids.saved == 0

-- rule 1: if one or more uids were 0 and now none is, the ambient set is cleared; the permitted and the effective set are
-- cleared too, unless keepcaps is on
abbrev pub after_leaving_root : Bool → Creds → Creds
after_leaving_root true creds =
    record creds {
      ambient = none;
      permitted = if creds.keepcaps then creds.permitted else none;
      effective = if creds.keepcaps then creds.effective else none;
    }
after_leaving_root false creds = creds

-- rules 2 and 3: if the effective uid changes from 0, the effective set is cleared; if it changes to 0, the permitted set is
-- copied to it. The first argument says whether it was 0, the second whether it is.
abbrev pub after_switch : Bool → Bool → Creds → Creds
after_switch true true creds = creds
after_switch true false creds = record creds { effective = none }
after_switch false true creds = record creds { effective = creds.permitted }
after_switch false false creds = creds

-- the credentials with these uids in place of the old ones
abbrev pub with_uids : Creds → Ids → Creds
with_uids creds uids =
    after_switch (creds.uids.effective == 0) (uids.effective == 0)
    (after_leaving_root (has_root creds.uids && not (has_root uids)) (record creds { uids = uids }))
