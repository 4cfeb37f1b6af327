-- The computed bounds are closed.
use Rattle.std.proofs.Common.{◌≡◌, ℕ, Bool, true, false, List, [], ◌∷◌, Some, ◌⊎◌, inl, inr, arith, refl, cond, ap, ◌∙◌, sym, subst, zero}
use Rattle.std.proofs.Common.{suc, eqb}
use Rattle.std.specs.Prelude.{slice_get, not, ◌&&◌, ◌||◌}
use Rattle.std.specs.List.{list_any, AllByRecursion}
use Rattle.std.proofs.lemmas.Bool.{or_left, or_right, and_parts, and_from, eqb-true, eq-eqb}
use Rattle.kernel_model.specs.cap_sets.Sets.{has, none, union, cut, within, IsWithin}
use Rattle.kernel_model.proofs.OfCapSets.Members.{has_none, has_union, none_within, union_within, within_union_left, within_union_right}
use Rattle.kernel_model.proofs.OfCapSets.Members.{within_self, within_through, cut_within_left, cut_within_right, within-from_IsWithin}
use Rattle.kernel_model.specs.site_table.declared.row.Row.{Row}
use Rattle.kernel_model.specs.kern_creds.declared.creds.Creds.{Creds}
use Rattle.kernel_laws.specs.Bounds.{Bounds, IsSettled, Admits, Keeps}
use Rattle.kernel_laws.specs.Reach.{runs_marked}
use Rattle.kernel_laws.specs.declared.question_types.power.Power.{Power}
use Rattle.kernel_laws.specs.declared.question_types.power.Power.TheVariants.{None as Nowise, Mount as Mounting}
use Rattle.kernel_laws.specs.declared.question_types.kind.CallKind.TheVariants.{ChangesMounts, RemovesMounts, SetsCaps}
use Rattle.kernel_model.specs.kern_files.Executing.{marks_of}
use Rattle.kernel_laws.specs.Launched.{Launch, lets, IsLaunched}
use Rattle.kernel_laws.specs.Ceiling.{CanRun, IsClosed}
use Rattle.kernel_laws.specs.Bound.{gathered, when, is_owner, can_run, file_gain, gain_at, caps_before, with_root, caps_by, power_by}
use Rattle.kernel_laws.specs.Bound.{power_using, any_by, owned_by, grouped_by, bounds_by}
use Rattle.kernel_laws.proofs.KeptExec.{within_if, above_if}
use Rattle.kernel_laws.proofs.Reach.{leads, listed, reaches_if}

pub gathered_has : (f : Row → ℕ) (rows : List Row) (at : ℕ) (row : Row) → slice_get rows at ≡ Some row → IsWithin (f row) (gathered f rows)
gathered_has f [] at row e = cc
gathered_has f (first ∷ rows) zero row e = let same : first ≡ row = cc in subst (λ (r : Row). IsWithin (f r) (union (f first) (gathered f rows))) same (within_union_left _ _ _ (within_self (f first)))
gathered_has f (first ∷ rows) (suc at) row e = within_union_right _ _ _ (gathered_has f rows at row e)

pub gathered_within : (f : Row → ℕ) (rows : List Row) (c : ℕ) → ((at : ℕ) (row : Row) → slice_get rows at ≡ Some row → IsWithin (f row) c)
    → IsWithin (gathered f rows) c
gathered_within f [] c h = none_within c
gathered_within f (first ∷ rows) c h = union_within _ _ _ (h 0 first refl) (gathered_within f rows c (λ at row e. h (suc at) row e))

when_within : (b : Bool) (set c : ℕ) → (b ≡ true → IsWithin set c) → IsWithin (when b set) c
when_within true set c h = h refl
when_within false set c h = none_within c

pub within_when : (b : Bool) (set c : ℕ) → b ≡ true → IsWithin c set → IsWithin c (when b set)
within_when true set c e h = h
within_when false set c e h = cc

same_within : (a b : ℕ) → a ≡ b → IsWithin a b
same_within a b e = subst (IsWithin a) e (within_self a)

pub listed_any : (p : Row → Bool) (rows : List Row) (at : ℕ) (row : Row) → slice_get rows at ≡ Some row → p row ≡ true → list_any p rows ≡ true
listed_any p [] at row e h = cc
listed_any p (first ∷ rows) zero row e h = let same : first ≡ row = cc in or_left (p first) (list_any p rows) (ap p same ∙ h)
listed_any p (first ∷ rows) (suc at) row e h = or_right (p first) (list_any p rows) (listed_any p rows at row e h)

pub any_listed : (p : Row → Bool) (rows : List Row) → list_any p rows ≡ true
    → (at : ℕ) × (row : Row) × (slice_get rows at ≡ Some row) × (p row ≡ true)
any_listed p [] h = cc
any_listed p (first ∷ rows) h = by (p first) refl h (any_listed p rows)
  where
    by : (b : Bool) → p first ≡ b → (b || list_any p rows) ≡ true
        → (list_any p rows ≡ true → (at : ℕ) × (row : Row) × (slice_get rows at ≡ Some row) × (p row ≡ true))
        → (at : ℕ) × (row : Row) × (slice_get (first ∷ rows) at ≡ Some row) × (p row ≡ true)
    by true e h more = (0, first, refl, e)
    by false e h more = let m = more h in (suc m.0, m.1, m.2, m.3)

rooted_set : (before number : ℕ) (lets' : Bool) (set : ℕ) → lets' ≡ true
    → has (union before (when (has before number && lets') set)) number ≡ true
    → IsWithin set (union before (when (has before number && lets') set))
rooted_set before number lets' set e h = by (has before number) refl (sym (has_union before _ number) ∙ h)
  where
    by : (b : Bool) → has before number ≡ b → (has before number || has (when (b && lets') set) number) ≡ true
        → IsWithin set (union before (when (b && lets') set))
    by true f g = within_union_right _ _ _ (within_when lets' set set e (within_self set))
    by false f g = let off : has none number ≡ false = has_none number in grind arith

module _ (launch : Launch) (uids gids : Bool) (power : Power) (l : IsLaunched launch) where
  abbrev c : Creds
  c = launch.creds

  abbrev caps : ℕ
  caps = caps_by launch uids power

  -- where no_new_privs does not hold them down
  abbrev free_caps : ℕ
  free_caps = with_root launch uids (caps_before launch power)

  abbrev top : Bounds
  top = bounds_by launch uids gids power

  abbrev files : ℕ
  files = gathered (λ row. when (can_run launch power row) (cut row.caps c.bounding)) launch.site.rows

  -- the launched set is below the ceiling
  eff_caps : IsWithin c.effective caps
  eff_caps = above_if c.no_new_privs c.effective free_caps c.effective (λ n. within_self _)
      (λ n. within_union_left _ _ _ (within_union_left _ _ _ (within_self _)))

  -- each row's gain is
  gain_caps : c.no_new_privs ≡ false → (at : ℕ) (row : Row) → slice_get launch.site.rows at ≡ Some row → can_run launch power row ≡ true
      → IsWithin (file_gain launch row) caps
  gain_caps n at row e r = above_if c.no_new_privs c.effective free_caps _ (λ y. let no' : false ≡ true = sym n ∙ y in cc)
      (λ n. within_union_left _ _ _
      (within_union_right _ _ _
      (within_through _ _ _ (within_when (can_run launch power row) (file_gain launch row) _ r (within_self _))
      (gathered_has (gain_at launch power) launch.site.rows at row e))))

  caps_are : c.no_new_privs ≡ false → free_caps ≡ caps
  caps_are n = ap (λ b. cond b c.effective free_caps) (sym n)

  -- with CAP_SETUID and a call for it, uid 0 can be had, and execve gives the bounding set
  setuid_caps : c.no_new_privs ≡ false → any_by uids 7 caps ≡ true → IsWithin c.bounding caps
  setuid_caps n a =
      let before = caps_before launch power in
      let parts = and_parts (has caps 7) uids a in
      let has7 : has free_caps 7 ≡ true = ap (λ s. has s 7) (caps_are n) ∙ parts.0 in
      let b = rooted_set before 7 uids c.bounding parts.1 has7 in
      subst (IsWithin c.bounding) (caps_are n) b

  owned_caps : c.no_new_privs ≡ false → (at : ℕ) (row : Row) → slice_get launch.site.rows at ≡ Some row
      → owned_by launch power 0 row ≡ true → IsWithin c.bounding caps
  owned_caps n at row e o =
      let parts = and_parts (can_run launch power row) (is_owner 0 row.setuid) o in
      within_through _ _ _ (above_if (is_owner 0 row.setuid) c.bounding _ c.bounding (λ y. within_self _) (λ y. let no' : true ≡ false = sym parts.1 ∙ y in cc)) (gain_caps n at row e parts.0)

  -- uid 0 makes the bounding set effective
  root_caps : c.no_new_privs ≡ false → top.uid 0 ≡ true → IsWithin c.bounding caps
  root_caps n z = by (any_by uids 7 caps) (eqb 0 c.uids.effective) refl refl (list_any (owned_by launch power 0) launch.site.rows) refl
      (ap (λ b. any_by uids 7 caps || (eqb 0 c.uids.effective || (not b && list_any (owned_by launch power 0) launch.site.rows))) (sym n)
      ∙ z)
    where
      by : (x y : Bool) → any_by uids 7 caps ≡ x → eqb 0 c.uids.effective ≡ y → (o : Bool)
          → list_any (owned_by launch power 0) launch.site.rows ≡ o → (x || (y || o)) ≡ true → IsWithin c.bounding caps
      by true y e f o g h = setuid_caps n e
      by false true e f o g h = within_through _ _ _ (l.root (sym (eqb-true 0 c.uids.effective f))) eff_caps
      by false false e f true g h = let m = any_listed (owned_by launch power 0) launch.site.rows g in owned_caps n m.0 m.1 m.2 m.3
      by false false e f false g h = cc

  -- where capset passes, or uid 0 can be had, what files give is effective
  files_caps : c.no_new_privs ≡ false → (lets launch SetsCaps ≡ true) ⊎ (IsWithin c.bounding caps) → IsWithin files caps
  files_caps n (inr b) = gathered_within (λ row. when (can_run launch power row) (cut row.caps c.bounding)) launch.site.rows caps
      (λ at row e. when_within (can_run launch power row) (cut row.caps c.bounding) caps (λ r. cut_within_right row.caps c.bounding caps b))
  files_caps n (inl p) = gathered_within (λ row. when (can_run launch power row) (cut row.caps c.bounding)) launch.site.rows caps
      (λ at row e. when_within (can_run launch power row) (cut row.caps c.bounding) caps
      (λ r. within_through _ (file_gain launch row) _ (gives row) (gain_caps n at row e r)))
    where
      gives : (row : Row) → IsWithin (cut row.caps c.bounding) (file_gain launch row)
      gives row = above_if (is_owner 0 row.setuid) c.bounding (when (row.effective || lets launch SetsCaps) (cut row.caps c.bounding))
          (cut row.caps c.bounding)
          (λ o. cut_within_right _ _ _ (within_self _))
          (λ o. within_when (row.effective || lets launch SetsCaps) _ _ (or_right row.effective (lets launch SetsCaps) p)
          (within_self _))

  permitted_caps : (c.no_new_privs ≡ false → (lets launch SetsCaps ≡ true) ⊎ (IsWithin c.bounding caps)) → IsWithin top.permitted caps
  permitted_caps h = within_if c.no_new_privs c.effective (union caps files) caps (λ n. eff_caps)
      (λ n. union_within caps files caps (within_self caps) (files_caps n (h n)))

  capset_caps : lets launch SetsCaps ≡ true → IsWithin top.permitted caps
  capset_caps p = permitted_caps (λ n. inl p)

  settled : IsSettled top
  settled = record {
    inheritable = within_if (lets launch SetsCaps) c.bounding c.inheritable c.bounding (λ p. within_self _) (λ p. l.inheritable_bounding);
    ambient = by (lets launch SetsCaps) refl;
    root_effective = λ z. permitted_caps (λ n. inr (root_caps n z));
    root_permitted = λ z n. above_if c.no_new_privs c.effective (union caps files) c.bounding (λ y. let no' : false ≡ true = sym n ∙ y in cc) (λ n. within_union_left _ _ _ (root_caps n z));
  }
    where
      by : (b : Bool) → lets launch SetsCaps ≡ b → IsWithin (cut top.permitted (cond b c.bounding c.inheritable)) caps
      by true p = cut_within_left _ _ _ (capset_caps p)
      by false p = cut_within_right _ _ _ (within_through _ _ _ (l.inheritable_effective p) eff_caps)

  -- a row that some process can run with its marks honoured
  runs : (row : Row) → CanRun launch power row → (row.effective ≡ true → IsWithin row.caps c.bounding) → can_run launch power row ≡ true
  runs row r h =
      let lead = leads launch.site.rows r.table r.path row runs_marked r.found (and_from _ _ (ap not r.runs) (ap not r.suid)) in
      let there = reaches_if power launch.table r.table row.path runs_marked r.allowed lead in
      and_from _ _ (and_from _ _ r.exe there) (ap not (by row.effective h))
    where
      by : (b : Bool) → (b ≡ true → IsWithin row.caps c.bounding) → (b && not (within row.caps c.bounding)) ≡ false
      by true h = ap not (within-from_IsWithin _ _ (h refl))
      by false h = refl

  admits : (row : Row) → c.no_new_privs ≡ false → CanRun launch power row → (row.effective ≡ true → IsWithin row.caps c.bounding)
      → Admits top (marks_of row)
  admits row n r h =
      let run = runs row r h in
      let own = listed launch.site.rows r.table r.path row r.found in
      record {
        owner = λ id e. or_right (any_by uids 7 caps) _
            (or_right (eqb id c.uids.effective) _
            (and_from _ _ (ap not n)
            (listed_any (owned_by launch power id) launch.site.rows own.0 row own.1
            (and_from _ _ run (ap (is_owner id) e ∙ eq-eqb id id refl)))));
        group = λ id e. or_right (any_by gids 6 caps) _
            (or_right (eqb id c.gids.effective || list_any (λ group. eqb id group) c.groups) _
            (and_from _ _ (ap not n)
            (listed_any (grouped_by launch power id) launch.site.rows own.0 row own.1
            (and_from _ _ run (ap (is_owner id) e ∙ eq-eqb id id refl)))));
        permitted = above_if c.no_new_privs c.effective (union caps files) _ (λ y. let no' : false ≡ true = sym n ∙ y in cc)
            (λ n. within_union_right _ _ _
            (within_through _ _ _ (within_when (can_run launch power row) _ _ run (within_self _))
            (gathered_has (λ row. when (can_run launch power row) (cut row.caps c.bounding)) launch.site.rows own.0 row own.1)));
        effective = λ e. within_through _ (file_gain launch row) _
            (above_if (is_owner 0 row.setuid) c.bounding (when (row.effective || lets launch SetsCaps) (cut row.caps c.bounding))
            (cut row.caps c.bounding)
            (λ o. cut_within_right _ _ _ (within_self _))
            (λ o. within_when (row.effective || lets launch SetsCaps) _ _ (or_left row.effective (lets launch SetsCaps) e)
            (within_self _)))
            (gain_caps n own.0 row own.1 run);
      }

  -- the launched process is within its ceiling
  pub kept_launch : Keeps top c
  kept_launch = record {
    no_new_privs = λ n. n;
    mdwe = λ n. n;
    ring = λ e. let no' : true ≡ false = sym e ∙ l.no_ring in cc;
    bounding = within_self _;
    inheritable = above_if (lets launch SetsCaps) c.bounding c.inheritable c.inheritable (λ p. l.inheritable_bounding) (λ p. within_self _);
    permitted = above_if c.no_new_privs c.effective (union caps files) c.permitted (λ n. same_within _ _ (sym l.full))
        (λ n. within_union_left _ _ _ (within_through _ _ _ (same_within _ _ (sym l.full)) eff_caps));
    effective = eff_caps;
    effective_permitted = same_within _ _ l.full;
    ambient_permitted = l.ambient_permitted;
    ambient_inheritable = l.ambient_inheritable;
    uids = record { real = own_uid c.uids.real l.real; effective = own_uid c.uids.effective refl; saved = own_uid c.uids.saved l.saved };
    gids = record { real = own_gid c.gids.real l.real_gid; effective = own_gid c.gids.effective refl; saved = own_gid c.gids.saved l.saved_gid };
    groups = own_groups c.groups (λ id h. h);
  }
    where
      own_uid : (id : ℕ) → id ≡ c.uids.effective → top.uid id ≡ true
      own_uid id e = or_right (any_by uids 7 caps) _ (or_left (eqb id c.uids.effective) _ (eq-eqb id c.uids.effective e))

      own_gid : (id : ℕ) → id ≡ c.gids.effective → top.gid id ≡ true
      own_gid id e = or_right (any_by gids 6 caps) _
          (or_left (eqb id c.gids.effective || list_any (λ group. eqb id group) c.groups) _
          (or_left (eqb id c.gids.effective) _ (eq-eqb id c.gids.effective e)))

      own_groups : (ids : List ℕ)
          → ((id : ℕ) → list_any (λ group. eqb id group) ids ≡ true → list_any (λ group. eqb id group) c.groups ≡ true)
          → AllByRecursion (λ id. top.gid id ≡ true) ids
      own_groups [] h = tt
      own_groups (id ∷ ids) h = (or_right (any_by gids 6 caps) _ (or_left (eqb id c.gids.effective || list_any (λ group. eqb id group) c.groups) _ (or_right (eqb id c.gids.effective) _ (h id (or_left (eqb id id) _ (eq-eqb id id refl))))), own_groups ids (λ own e. h own (or_right (eqb own id) _ e)))

-- CAP_SYS_ADMIN enters once: what it opens gives it no second time
power_mounts : (admin : Power → Bool) (b m u : Bool) → admin Nowise ≡ b → m ≡ true → admin (power_by b m u) ≡ true
    → power_by b m u ≡ Mounting
power_mounts admin true true u e p h = refl
power_mounts admin true false u e p h = cc
power_mounts admin false m u e p h = cc

power_unmounts : (admin : Power → Bool) (b m u : Bool) → admin Nowise ≡ b → u ≡ true → admin (power_by b m u) ≡ true
    → power_by b m u ≡ Nowise → ⊥
power_unmounts admin true true u e p h n = cc
power_unmounts admin true false true e p h n = cc
power_unmounts admin true false false e p h n = cc
power_unmounts admin false m u e p h n = cc

-- they are left by no call that uses only what may be used
pub is_closed : (launch : Launch) (uids gids : Bool) → IsLaunched launch
    → IsClosed launch uids gids (power_using launch uids) (bounds_by launch uids gids (power_using launch uids))
is_closed launch uids gids l =
    let power = power_using launch uids in
    record {
      settled = settled launch uids gids power l;
      rooted = l.rooted;
      files = admits launch uids gids power l;
      capset_effective = λ p. capset_caps launch uids gids power l p;
      capset_inheritable = λ p. above_if (lets launch SetsCaps) launch.creds.bounding launch.creds.inheritable launch.creds.bounding
          (λ y. within_self _) (λ no'. cc);
      any_uid = λ p h id. or_left (any_by uids 7 (caps_by launch uids power)) _ (and_from (has (caps_by launch uids power) 7) uids h p);
      any_gid = λ p h id. or_left (any_by gids 6 (caps_by launch uids power)) _ (and_from (has (caps_by launch uids power) 6) gids h p);
      ring = λ h. h;
      mount = λ p h. power_mounts (λ power. has (caps_by launch uids power) 21) (has (caps_by launch uids Nowise) 21)
          (lets launch ChangesMounts) (lets launch RemovesMounts) refl p h;
      umount = λ p h. power_unmounts (λ power. has (caps_by launch uids power) 21) (has (caps_by launch uids Nowise) 21)
          (lets launch ChangesMounts) (lets launch RemovesMounts) refl p h;
    }
