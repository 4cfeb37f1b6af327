-- Without its capability a process keeps to its own ids.
use Rattle.std.proofs.Common.{◌≡◌, ℕ, Bool, true, false, arith, refl, cond, Option, Some, None, Ok, Err, eqb, subst, sym, ◌∙◌}
use Rattle.std.specs.Prelude.{◌&&◌, ◌||◌, not}
use Rattle.std.proofs.lemmas.Bool.{and_parts}
use Rattle.std.proofs.lemmas.Bool.Decides.{nat_tests}
use Rattle.cap_sets.specs.Sets.{has}
use Rattle.kern_creds.specs.declared.ids.Ids.{Ids}
use Rattle.kern_creds.specs.declared.creds.Creds.{Creds}
use Rattle.kern_creds.specs.Ids.{is_one_of, may_take, may_take_all, kept_id, kept_ids, all_of}
use Rattle.kern_creds.specs.RootChange.{with_uids, after_switch, after_leaving_root, has_root}
use Rattle.kern_creds.specs.Setuid.{after_setuid, after_setgid}
use Rattle.kern_creds.specs.Setresuid.{after_setresuid, after_setresgid}
use Rattle.kern_creds.specs.Exec.{exec_ids, is_set_id}
use Rattle.kern_creds.specs.Guarded.{AreAmong}
use Rattle.kern_creds.proofs.Answers.{Leaves, left_err, left_ok, left_if}

first_of : (ids : Ids) → is_one_of ids ids.real ≡ true
first_of ids = grind (arith, nat_tests)

second_of : (ids : Ids) → is_one_of ids ids.effective ≡ true
second_of ids = grind (arith, nat_tests)

third_of : (ids : Ids) → is_one_of ids ids.saved ≡ true
third_of ids = grind (arith, nat_tests)

pub same_ids : (ids : Ids) → AreAmong ids ids
same_ids ids = record { real = first_of ids; effective = second_of ids; saved = third_of ids }

one_effective : (ids : Ids) (id : ℕ) → is_one_of ids id ≡ true → AreAmong (record ids { effective = id }) ids
one_effective ids id h = record { real = first_of ids; effective = h; saved = third_of ids }

real_or_saved : (ids : Ids) (id : ℕ) → (eqb id ids.real || eqb id ids.saved) ≡ true → is_one_of ids id ≡ true
real_or_saved ids id h = grind (arith, nat_tests)

kept_one : (old : Ids) (own id : ℕ) → is_one_of old own ≡ true → may_take old id ≡ true → is_one_of old (kept_id own id) ≡ true
kept_one old own id h m = by (eqb id 0xffff_ffff) m
  where
    by : (b : Bool) → (b || is_one_of old id) ≡ true → is_one_of old (cond b own id) ≡ true
    by true e = h
    by false e = e

taken_ids : (old : Ids) (r e s : ℕ) → may_take_all old r e s ≡ true → AreAmong (kept_ids old r e s) old
taken_ids old r e s m =
    let parts = and_parts (may_take old r && may_take old e) (may_take old s) m in
    let first = and_parts (may_take old r) (may_take old e) parts.0 in
    record { real = kept_one old old.real r (first_of old) first.0; effective = kept_one old old.effective e (second_of old) first.1; saved = kept_one old old.saved s (third_of old) parts.1 }

-- the uids of changed credentials are those asked for
leaving_uids : (b : Bool) (creds : Creds) → (after_leaving_root b creds).uids ≡ creds.uids
leaving_uids true creds = refl
leaving_uids false creds = refl

switch_uids : (was is : Bool) (creds : Creds) → (after_switch was is creds).uids ≡ creds.uids
switch_uids true true creds = refl
switch_uids true false creds = refl
switch_uids false true creds = refl
switch_uids false false creds = refl

new_uids : (creds : Creds) (uids : Ids) → (with_uids creds uids).uids ≡ uids
new_uids creds uids =
    switch_uids (eqb creds.uids.effective 0) (eqb uids.effective 0)
    (after_leaving_root (has_root creds.uids && not (has_root uids)) (record creds { uids = uids }))
    ∙ leaving_uids (has_root creds.uids && not (has_root uids)) (record creds { uids = uids })

uids_among : (creds : Creds) (uids : Ids) → AreAmong uids creds.uids → AreAmong (with_uids creds uids).uids creds.uids
uids_among creds uids a = let P : Ids → Type 0 = λ u. AreAmong u creds.uids in subst P (sym (new_uids creds uids)) a

abbrev pub OwnUids : Creds → Creds → Type 0
OwnUids creds now = AreAmong now.uids creds.uids

abbrev pub OwnGids : Creds → Creds → Type 0
OwnGids creds now = AreAmong now.gids creds.gids

module _ (creds : Creds) where
  pub own-setuid : (id : ℕ) → has creds.effective 7 ≡ false → Leaves (OwnUids creds) (after_setuid creds id)
  own-setuid id no_cap =
      left_if (OwnUids creds) (eqb id 0xffff_ffff) (Err 22) _ (λ e. left_err _ 22) λ e.
      left_if (OwnUids creds) (has creds.effective 7) (Ok (with_uids creds (all_of id))) _ (λ h. absurd (differ _ no_cap h)) λ h.
      left_if (OwnUids creds) (eqb id creds.uids.real || eqb id creds.uids.saved)
      (Ok (with_uids creds (record creds.uids { effective = id }))) (Err 1)
      (λ o. left_ok _ _ (uids_among creds _ (one_effective creds.uids id (real_or_saved creds.uids id o)))) (λ o. left_err _ 1)
    where
      differ : (b : Bool) → b ≡ false → b ≡ true → ⊥
      differ b p q = cc

  pub own-setgid : (id : ℕ) → has creds.effective 6 ≡ false → Leaves (OwnGids creds) (after_setgid creds id)
  own-setgid id no_cap =
      left_if (OwnGids creds) (eqb id 0xffff_ffff) (Err 22) _ (λ e. left_err _ 22) λ e.
      left_if (OwnGids creds) (has creds.effective 6) (Ok (record creds { gids = all_of id })) _ (λ h. absurd (differ _ no_cap h)) λ h.
      left_if (OwnGids creds) (eqb id creds.gids.real || eqb id creds.gids.saved)
      (Ok (record creds { gids = record creds.gids { effective = id } })) (Err 1)
      (λ o. left_ok _ _ (one_effective creds.gids id (real_or_saved creds.gids id o))) (λ o. left_err _ 1)
    where
      differ : (b : Bool) → b ≡ false → b ≡ true → ⊥
      differ b p q = cc

  without : (b m : Bool) → b ≡ false → (b || m) ≡ true → m ≡ true
  without b m p q = grind arith

  pub own-setresuid : (r e s : ℕ) → has creds.effective 7 ≡ false → Leaves (OwnUids creds) (after_setresuid creds r e s)
  own-setresuid r e s no_cap =
      left_if (OwnUids creds) (has creds.effective 7 || may_take_all creds.uids r e s) (Ok (with_uids creds (kept_ids creds.uids r e s)))
      (Err 1)
      (λ h. left_ok _ _ (uids_among creds _ (taken_ids creds.uids r e s (without _ _ no_cap h)))) (λ h. left_err _ 1)

  pub own-setresgid : (r e s : ℕ) → has creds.effective 6 ≡ false → Leaves (OwnGids creds) (after_setresgid creds r e s)
  own-setresgid r e s no_cap =
      left_if (OwnGids creds) (has creds.effective 6 || may_take_all creds.gids r e s)
      (Ok (record creds { gids = kept_ids creds.gids r e s })) (Err 1)
      (λ h. left_ok _ _ (taken_ids creds.gids r e s (without _ _ no_cap h))) (λ h. left_err _ 1)

pub own-exec : (honoured : Bool) (ids : Ids) (owner : Option ℕ) → (honoured && is_set_id owner) ≡ false
    → AreAmong (exec_ids honoured ids owner) ids
own-exec true ids None h = record { real = first_of ids; effective = second_of ids; saved = second_of ids }
own-exec true ids (Some id) h = cc
own-exec false ids owner h = record { real = first_of ids; effective = second_of ids; saved = second_of ids }
