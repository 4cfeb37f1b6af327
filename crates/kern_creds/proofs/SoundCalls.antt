-- Each call but execve keeps what is effective permitted, and what is ambient permitted and inheritable.
use Rattle.std.proofs.Common.{◌≡◌, ℕ, Bool, true, false, arith, rules, cond, List, Ok, Err, eqb}
use Rattle.std.specs.Prelude.{◌&&◌, not}
use Rattle.std.proofs.lemmas.Bool.{and_parts, not-false}
use Rattle.cap_sets.specs.Sets.{has, none, all, union, single, IsWithin}
use Rattle.cap_sets.proofs.Members.{within_self, none_within, cut_within_left, cut_within_right, union_within, minus_within, single_within}
use Rattle.cap_sets.proofs.Members.{IsWithin-from_within}
use Rattle.kern_creds.specs.declared.ids.Ids.{Ids}
use Rattle.kern_creds.specs.declared.creds.Creds.{Creds}
use Rattle.kern_creds.specs.Start.{start}
use Rattle.kern_creds.specs.RootChange.{with_uids, after_switch, after_leaving_root, has_root}
use Rattle.kern_creds.specs.Setuid.{after_setuid, after_setgid}
use Rattle.kern_creds.specs.Setresuid.{after_setresuid, after_setresgid}
use Rattle.kern_creds.specs.Setgroups.{after_setgroups}
use Rattle.kern_creds.specs.Capset.{may_capset, with_sets, after_capset}
use Rattle.kern_creds.specs.Prctl.{after_drop_bounding, after_raise, after_lower, after_clear_ambient, after_set_keepcaps}
use Rattle.kern_creds.specs.Prctl.{after_set_no_new_privs, after_set_mdwe}
use Rattle.kern_creds.specs.Ring.{after_set_up_ring}
use Rattle.kern_creds.specs.Sound.{IsSound}
use Rattle.kern_creds.proofs.Answers.{Leaves, left_err, left_ok, left_if}

pub sound-start : IsSound start
sound-start = record { effective_is_permitted = within_self all; ambient_is_permitted = none_within all; ambient_is_inheritable = none_within none }

-- ---- uids
sets_within : (keep : Bool) (a b : ℕ) → IsWithin a b → IsWithin (cond keep a none) (cond keep b none)
sets_within true a b w = w
sets_within false a b w = within_self none

sound-leaving : (b : Bool) (creds : Creds) → IsSound creds → IsSound (after_leaving_root b creds)
sound-leaving true creds k = record {
  effective_is_permitted = sets_within creds.keepcaps creds.effective creds.permitted k.effective_is_permitted;
  ambient_is_permitted = none_within _;
  ambient_is_inheritable = none_within _;
}
sound-leaving false creds k = k

sound-switch : (was is : Bool) (creds : Creds) → IsSound creds → IsSound (after_switch was is creds)
sound-switch true true creds k = k
sound-switch true false creds k = record { effective_is_permitted = none_within _; ambient_is_permitted = k.ambient_is_permitted; ambient_is_inheritable = k.ambient_is_inheritable }
sound-switch false true creds k = record { effective_is_permitted = within_self _; ambient_is_permitted = k.ambient_is_permitted; ambient_is_inheritable = k.ambient_is_inheritable }
sound-switch false false creds k = k

sound-ids : (creds : Creds) (uids : Ids) → IsSound creds → IsSound (record creds { uids = uids })
sound-ids creds uids k = record { effective_is_permitted = k.effective_is_permitted; ambient_is_permitted = k.ambient_is_permitted; ambient_is_inheritable = k.ambient_is_inheritable }

sound-uids : (creds : Creds) (uids : Ids) → IsSound creds → IsSound (with_uids creds uids)
sound-uids creds uids k =
    sound-switch (eqb creds.uids.effective 0) (eqb uids.effective 0)
    (after_leaving_root (has_root creds.uids && not (has_root uids)) (record creds { uids = uids }))
    (sound-leaving (has_root creds.uids && not (has_root uids)) (record creds { uids = uids }) (sound-ids creds uids k))

-- ---- sets
raised_left : (a b k : ℕ) → not (has a k && has b k) ≡ false → IsWithin (single k) a
raised_left a b k h = single_within k a (and_parts _ _ (not-false (has a k && has b k) h)).0

raised_right : (a b k : ℕ) → not (has a k && has b k) ≡ false → IsWithin (single k) b
raised_right a b k h = single_within k b (and_parts _ _ (not-false (has a k && has b k) h)).1

-- what capset asks
pub record Asked (creds : Creds) (p e i : ℕ) : Type 0 where
  pub permitted : IsWithin p creds.permitted
  pub effective : IsWithin e p
  pub inheritable : IsWithin i (union creds.inheritable creds.bounding)

pub may_capset-true : (creds : Creds) (p e i : ℕ) → may_capset creds p e i ≡ true → Asked creds p e i
may_capset-true creds p e i h = record {
  permitted = IsWithin-from_within _ _ (grind arith);
  effective = IsWithin-from_within _ _ (grind arith);
  inheritable = IsWithin-from_within _ _ (grind arith);
}

module _ (creds : Creds) (k : IsSound creds) where
  pub sound-setuid : (id : ℕ) → Leaves IsSound (after_setuid creds id)
  sound-setuid id = search (rules, left_if, left_err, left_ok, sound-uids)

  pub sound-setgid : (id : ℕ) → Leaves IsSound (after_setgid creds id)
  sound-setgid id = search (rules, left_if, left_err, left_ok)

  pub sound-setresuid : (real effective saved : ℕ) → Leaves IsSound (after_setresuid creds real effective saved)
  sound-setresuid real effective saved = search (rules, left_if, left_err, left_ok, sound-uids)

  pub sound-setresgid : (real effective saved : ℕ) → Leaves IsSound (after_setresgid creds real effective saved)
  sound-setresgid real effective saved = search (rules, left_if, left_err, left_ok)

  pub sound-setgroups : (ids : List ℕ) → Leaves IsSound (after_setgroups creds ids)
  sound-setgroups ids = search (rules, left_if, left_err, left_ok)

  pub sound-drop_bounding : (cap' : ℕ) → Leaves IsSound (after_drop_bounding creds cap')
  sound-drop_bounding cap' = search (rules, left_if, left_err, left_ok)

  pub sound-raise : (cap' : ℕ) → Leaves IsSound (after_raise creds cap')
  sound-raise cap' = search (rules, left_if, left_err, left_ok, union_within, raised_left, raised_right)

  pub sound-lower : (cap' : ℕ) → Leaves IsSound (after_lower creds cap')
  sound-lower cap' = search (rules, left_if, left_err, left_ok, minus_within)

  pub sound-clear_ambient : IsSound (after_clear_ambient creds)
  sound-clear_ambient = search (rules, none_within)

  pub sound-set_keepcaps : (on : Bool) → IsSound (after_set_keepcaps creds on)
  sound-set_keepcaps on = search rules

  pub sound-set_no_new_privs : IsSound (after_set_no_new_privs creds)
  sound-set_no_new_privs = search rules

  pub sound-set_mdwe : IsSound (after_set_mdwe creds)
  sound-set_mdwe = search rules

  pub sound-set_up_ring : IsSound (after_set_up_ring creds)
  sound-set_up_ring = search rules

  pub sound-capset : (p e i : ℕ) → Leaves IsSound (after_capset creds p e i)
  sound-capset p e i =
      left_if IsSound (may_capset creds p e i) (Ok (with_sets creds p e i)) (Err 1)
      (λ h. left_ok IsSound (with_sets creds p e i) record {
        effective_is_permitted = (may_capset-true creds p e i h).effective;
        ambient_is_permitted = cut_within_right _ _ _ (cut_within_left _ _ _ (within_self p));
        ambient_is_inheritable = cut_within_right _ _ _ (cut_within_right _ _ _ (within_self i));
      }) (λ h. left_err IsSound 1)
