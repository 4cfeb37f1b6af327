-- Calls on the sets keep the bounds.
use Rattle.std.proofs.Common.{◌≡◌, ℕ, Bool, true, false, arith, rules, cond, Ok, Err}
use Rattle.std.specs.Prelude.{◌&&◌, not}
use Rattle.std.proofs.lemmas.Bool.{and_parts, not-false}
use Rattle.kernel_model.specs.cap_sets.Sets.{has, union, single, IsWithin}
use Rattle.kernel_model.specs.kern_creds.declared.creds.Creds.{Creds}
use Rattle.kernel_model.specs.kern_creds.Capset.{may_capset, with_sets, after_capset}
use Rattle.kernel_model.specs.kern_creds.Prctl.{after_drop_bounding, after_raise, after_lower, after_clear_ambient, after_set_keepcaps}
use Rattle.kernel_model.specs.kern_creds.Prctl.{after_set_no_new_privs, after_set_mdwe}
use Rattle.kernel_model.specs.kern_creds.Ring.{after_set_up_ring}
use Rattle.kernel_model.proofs.OfKernCreds.Answers.{Leaves, left_err, left_ok, left_if}
use Rattle.kernel_laws.specs.Bounds.{Bounds, Keeps}
use Rattle.kernel_model.proofs.OfCapSets.Members.{within_self, within_through, none_within, cut_within_left, cut_within_right, within_cut}
use Rattle.kernel_model.proofs.OfCapSets.Members.{union_within, within_union_left, within_union_right, minus_within, single_within}
use Rattle.kernel_model.proofs.OfCapSets.Members.{IsWithin-from_within}

pub cond_within : (b : Bool) (x y a : ℕ) → IsWithin x a → IsWithin y a → IsWithin (cond b x y) a
cond_within true x y a p q = p
cond_within false x y a p q = q

pub ruleset order = (none_within, cut_within_left, cut_within_right, within_cut, union_within, within_union_left, within_union_right, minus_within, cond_within, within_self)

pub raised_left : (a b k : ℕ) → not (has a k && has b k) ≡ false → IsWithin (single k) a
raised_left a b k h = single_within k a (and_parts _ _ (not-false (has a k && has b k) h)).0

pub raised_right : (a b k : ℕ) → not (has a k && has b k) ≡ false → IsWithin (single k) b
raised_right a b k h = single_within k b (and_parts _ _ (not-false (has a k && has b k) h)).1

record Capset (creds : Creds) (p e i : ℕ) : Type 0 where
  permitted : IsWithin p creds.permitted
  effective : IsWithin e p
  inheritable : IsWithin i (union creds.inheritable creds.bounding)

may_capset-true : (creds : Creds) (p e i : ℕ) → may_capset creds p e i ≡ true → Capset creds p e i
may_capset-true creds p e i h = record {
  permitted = IsWithin-from_within _ _ (grind arith);
  effective = IsWithin-from_within _ _ (grind arith);
  inheritable = IsWithin-from_within _ _ (grind arith);
}

module _ (top : Bounds) (creds : Creds) (k : Keeps top creds) where
  pub kept-clear_ambient : Keeps top (after_clear_ambient creds)
  kept-clear_ambient = search (rules, none_within)

  pub kept-no_new_privs : Keeps top (after_set_no_new_privs creds)
  kept-no_new_privs = search rules

  pub kept-mdwe : Keeps top (after_set_mdwe creds)
  kept-mdwe = search rules

  pub kept-ring : top.ring ≡ true → Keeps top (after_set_up_ring creds)
  kept-ring on = record {
    no_new_privs = k.no_new_privs;
    mdwe = k.mdwe;
    ring = λ e. on;
    bounding = k.bounding;
    inheritable = k.inheritable;
    permitted = k.permitted;
    effective = k.effective;
    effective_permitted = k.effective_permitted;
    ambient_permitted = k.ambient_permitted;
    ambient_inheritable = k.ambient_inheritable;
    uids = k.uids;
    gids = k.gids;
    groups = k.groups;
  }

  pub kept-keepcaps : (on : Bool) → Keeps top (after_set_keepcaps creds on)
  kept-keepcaps on = search rules

  pub kept-lower : (cap' : ℕ) → Leaves (Keeps top) (after_lower creds cap')
  kept-lower cap' = search (rules, left_if, left_err, left_ok, minus_within)

  pub kept-drop_bounding : (cap' : ℕ) → Leaves (Keeps top) (after_drop_bounding creds cap')
  kept-drop_bounding cap' = search (rules, left_if, left_err, left_ok, minus_within)

  pub kept-raise : (cap' : ℕ) → Leaves (Keeps top) (after_raise creds cap')
  kept-raise cap' = search (rules, left_if, left_err, left_ok, union_within, raised_left, raised_right)

  pub kept-capset : (p e i : ℕ) → IsWithin top.permitted top.effective → IsWithin top.bounding top.inheritable
      → Leaves (Keeps top) (after_capset creds p e i)
  kept-capset p e i pe bi =
      left_if (Keeps top) (may_capset creds p e i) (Ok (with_sets creds p e i)) (Err 1) (λ ok.
      let facts = may_capset-true creds p e i ok in
      let p' = within_through p creds.permitted top.permitted facts.permitted k.permitted in
      let i' = within_through i (union creds.inheritable creds.bounding) top.inheritable facts.inheritable (union_within _ _ _ k.inheritable (within_through creds.bounding top.bounding top.inheritable k.bounding bi)) in
      left_ok (Keeps top) (with_sets creds p e i) record {
        no_new_privs = k.no_new_privs;
        mdwe = k.mdwe;
        ring = k.ring;
        bounding = k.bounding;
        inheritable = i';
        permitted = p';
        effective = within_through e p top.effective facts.effective (within_through p top.permitted top.effective p' pe);
        effective_permitted = facts.effective;
        ambient_permitted = search (rules, order);
        ambient_inheritable = search (rules, order);
        uids = k.uids;
        gids = k.gids;
        groups = k.groups;
      }) (λ e. left_err (Keeps top) 1)
