-- A change of uids keeps the bounds.
use Rattle.std.proofs.Common.{◌≡◌, ℕ, Bool, true, false, arith, rules, refl, cond, Ok, Err, sym, eqb, subst}
use Rattle.std.specs.Prelude.{◌&&◌, ◌||◌, not, List, [], ◌∷◌, nat_lt, length}
use Rattle.std.proofs.lemmas.Bool.{and_parts, not-false, eqb-true}
use Rattle.std.proofs.lemmas.Bool.Decides.{nat_tests}
use Rattle.std.specs.List.{AllByRecursion}
use Rattle.kernel_model.specs.cap_sets.Sets.{has, IsWithin}
use Rattle.kernel_model.specs.kern_creds.declared.ids.Ids.{Ids}
use Rattle.kernel_model.specs.kern_creds.declared.creds.Creds.{Creds}
use Rattle.filter_settings.specs.linux_numbers.Limits.{no_id}
use Rattle.kernel_model.specs.kern_creds.Ids.{is_one_of, may_take, may_take_all, kept_id, kept_ids, all_of}
use Rattle.kernel_model.specs.kern_creds.RootChange.{has_root, with_uids, after_switch, after_leaving_root}
use Rattle.kernel_model.specs.kern_creds.Setuid.{after_setuid, after_setgid}
use Rattle.kernel_model.specs.kern_creds.Setresuid.{after_setresuid, after_setresgid}
use Rattle.kernel_model.specs.kern_creds.Setgroups.{after_setgroups}
use Rattle.kernel_laws.specs.Bounds.{Bounds, Keeps, IsIdsWithin, IsSettled}
use Rattle.kernel_model.proofs.OfCapSets.Members.{none_within, within_self}
use Rattle.kernel_model.proofs.OfKernCreds.Answers.{Leaves, left_if, left_ok, left_err}
use Rattle.kernel_laws.proofs.Kept.{cond_within}

pub at_zero : (ok : ℕ → Bool) (id : ℕ) → ok id ≡ true → eqb id 0 ≡ true → ok 0 ≡ true
at_zero ok id h e = let same : id ≡ 0 = eqb-true id 0 e in subst (λ n. ok n ≡ true) same h

of_two : (ok : ℕ → Bool) (id a b : ℕ) → (eqb id a || eqb id b) ≡ true → ok a ≡ true → ok b ≡ true → ok id ≡ true
of_two ok id a b h p q = grind (arith, nat_tests)

kept_id-within : (ok : ℕ → Bool) (old : Ids) (own id : ℕ) → IsIdsWithin old ok → ok own ≡ true → (may_take old id ≡ true)
    → ok (kept_id own id) ≡ true
kept_id-within ok old own id w h m = by (eqb id no_id) m
  where
    by : (b : Bool) → (b || is_one_of old id) ≡ true → ok (cond b own id) ≡ true
    by true e = h
    by false e = let p = w.real in let q = w.effective in let r = w.saved in grind (arith, nat_tests)

module _ (top : Bounds) where
  kept-leaving : (b : Bool) (creds : Creds) → Keeps top creds → Keeps top (after_leaving_root b creds)
  kept-leaving true creds k = search (rules, none_within, cond_within)
  kept-leaving false creds k = k

  kept-switch : (was is : Bool) (creds : Creds) → (is ≡ true → IsWithin top.permitted top.effective) → Keeps top creds
      → Keeps top (after_switch was is creds)
  kept-switch true true creds pe k = k
  kept-switch true false creds pe k = search (rules, none_within)
  kept-switch false true creds pe k = record {
    no_new_privs = k.no_new_privs;
    mdwe = k.mdwe;
    ring = k.ring;
    bounding = k.bounding;
    inheritable = k.inheritable;
    permitted = k.permitted;
    effective = record { each = λ cap h. (pe refl).each cap (k.permitted.each cap h) };
    effective_permitted = within_self _;
    ambient_permitted = k.ambient_permitted;
    ambient_inheritable = k.ambient_inheritable;
    uids = k.uids;
    gids = k.gids;
    groups = k.groups;
  }
  kept-switch false false creds pe k = k

  kept-ids : (creds : Creds) (uids : Ids) → Keeps top creds → IsIdsWithin uids top.uid → Keeps top (record creds { uids = uids })
  kept-ids creds uids k w = search rules

  kept-with_uids : (creds : Creds) (uids : Ids) → IsSettled top → Keeps top creds → IsIdsWithin uids top.uid
      → Keeps top (with_uids creds uids)
  kept-with_uids creds uids s k w =
      kept-switch (eqb creds.uids.effective 0) (eqb uids.effective 0)
      (after_leaving_root (has_root creds.uids && not (has_root uids)) (record creds { uids = uids }))
      (λ e. s.root_effective (at_zero top.uid uids.effective w.effective e))
      (kept-leaving (has_root creds.uids && not (has_root uids)) (record creds { uids = uids }) (kept-ids creds uids k w))

  module _ (creds : Creds) (k : Keeps top creds) (s : IsSettled top) (any : has creds.effective 7 ≡ true → (id : ℕ) → top.uid id ≡ true) where
    all_ids : has creds.effective 7 ≡ true → (ids : Ids) → IsIdsWithin ids top.uid
    all_ids h ids = record { real = any h _; effective = any h _; saved = any h _ }

    pub kept-setuid : (id : ℕ) → Leaves (Keeps top) (after_setuid creds id)
    kept-setuid id =
        left_if (Keeps top) (eqb id no_id) _ _ (λ e. left_err (Keeps top) 22) λ e.
        left_if (Keeps top) (has creds.effective 7) (Ok (with_uids creds (all_of id))) _
        (λ h. left_ok (Keeps top) _ (kept-with_uids creds _ s k (all_ids h _))) λ h.
        left_if (Keeps top) (eqb id creds.uids.real || eqb id creds.uids.saved)
        (Ok (with_uids creds (record creds.uids { effective = id }))) (Err 1)
        (λ o. left_ok (Keeps top) _
        (kept-with_uids creds _ s k
        (record { real = k.uids.real; effective = of_two top.uid id _ _ o k.uids.real k.uids.saved; saved = k.uids.saved })))
        λ o. left_err (Keeps top) 1

    kept-taken : (r e v : ℕ) → may_take_all creds.uids r e v ≡ true → IsIdsWithin (kept_ids creds.uids r e v) top.uid
    kept-taken r e v m =
        let parts = and_parts (may_take creds.uids r && may_take creds.uids e) (may_take creds.uids v) m in
        let first = and_parts (may_take creds.uids r) (may_take creds.uids e) parts.0 in
        record {
          real = kept_id-within top.uid creds.uids creds.uids.real r k.uids k.uids.real first.0;
          effective = kept_id-within top.uid creds.uids creds.uids.effective e k.uids k.uids.effective first.1;
          saved = kept_id-within top.uid creds.uids creds.uids.saved v k.uids k.uids.saved parts.1;
        }

    allowed : (r e v : ℕ) (b : Bool) → b ≡ has creds.effective 7 → (b || may_take_all creds.uids r e v) ≡ true
        → IsIdsWithin (kept_ids creds.uids r e v) top.uid
    allowed r e v true same m = all_ids (sym same) _
    allowed r e v false same m = kept-taken r e v m

    pub kept-setresuid : (r e v : ℕ) → Leaves (Keeps top) (after_setresuid creds r e v)
    kept-setresuid r e v =
        left_if (Keeps top) (has creds.effective 7 || may_take_all creds.uids r e v) (Ok (with_uids creds (kept_ids creds.uids r e v)))
        (Err 1)
        (λ m. left_ok (Keeps top) _ (kept-with_uids creds _ s k (allowed r e v _ refl m))) λ m. left_err (Keeps top) 1

each_of : (ok : ℕ → Bool) → ((id : ℕ) → ok id ≡ true) → (ids : List ℕ) → AllByRecursion (λ id. ok id ≡ true) ids
each_of ok every [] = tt
each_of ok every (id ∷ ids) = (every id, each_of ok every ids)

module _ (top : Bounds) (creds : Creds) (k : Keeps top creds) (any : has creds.effective 6 ≡ true → (id : ℕ) → top.gid id ≡ true) where
  with_gids : (gids : Ids) → IsIdsWithin gids top.gid → Leaves (Keeps top) (Ok (record creds { gids = gids }))
  with_gids gids w = left_ok (Keeps top) (record creds { gids = gids }) (search rules)

  pub kept-setgid : (id : ℕ) → Leaves (Keeps top) (after_setgid creds id)
  kept-setgid id =
      left_if (Keeps top) (eqb id no_id) _ _ (λ e. left_err (Keeps top) 22) λ e.
      left_if (Keeps top) (has creds.effective 6) (Ok (record creds { gids = all_of id })) _
      (λ h. with_gids _ (record { real = any h id; effective = any h id; saved = any h id })) λ h.
      left_if (Keeps top) (eqb id creds.gids.real || eqb id creds.gids.saved)
      (Ok (record creds { gids = record creds.gids { effective = id } })) (Err 1)
      (λ o. with_gids _ (record
      { real = k.gids.real; effective = of_two top.gid id _ _ o k.gids.real k.gids.saved; saved = k.gids.saved })) λ o. left_err
      (Keeps top) 1

  gids_taken : (r e v : ℕ) (b : Bool) → b ≡ has creds.effective 6 → (b || may_take_all creds.gids r e v) ≡ true
      → IsIdsWithin (kept_ids creds.gids r e v) top.gid
  gids_taken r e v true same m = record { real = any (sym same) _; effective = any (sym same) _; saved = any (sym same) _ }
  gids_taken r e v false same m =
      let parts = and_parts (may_take creds.gids r && may_take creds.gids e) (may_take creds.gids v) m in
      let first = and_parts (may_take creds.gids r) (may_take creds.gids e) parts.0 in
      record {
        real = kept_id-within top.gid creds.gids creds.gids.real r k.gids k.gids.real first.0;
        effective = kept_id-within top.gid creds.gids creds.gids.effective e k.gids k.gids.effective first.1;
        saved = kept_id-within top.gid creds.gids creds.gids.saved v k.gids k.gids.saved parts.1;
      }

  pub kept-setresgid : (r e v : ℕ) → Leaves (Keeps top) (after_setresgid creds r e v)
  kept-setresgid r e v =
      left_if (Keeps top) (has creds.effective 6 || may_take_all creds.gids r e v)
      (Ok (record creds { gids = kept_ids creds.gids r e v })) (Err 1)
      (λ m. with_gids _ (gids_taken r e v _ refl m)) λ m. left_err (Keeps top) 1

  pub kept-setgroups : (ids : List ℕ) → Leaves (Keeps top) (after_setgroups creds ids)
  kept-setgroups ids =
      left_if (Keeps top) (not (has creds.effective 6)) (Err 1) _ (λ e. left_err (Keeps top) 1) λ e.
      left_if (Keeps top) (nat_lt 65536 (length ids)) (Err 22) (Ok (record creds { groups = ids })) (λ l. left_err (Keeps top) 22) λ l.
      let held = each_of top.gid (any (not-false (has creds.effective 6) e)) ids in
      left_ok (Keeps top) (record creds { groups = ids }) (search rules)
