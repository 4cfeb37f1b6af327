-- What covers the copies that a bind makes.
use Rattle.std.proofs.Common.{◌≡◌, Bool, true, false, cond, [], ◌∷◌, ◌++◌, refl, sym, ap, ◌∙◌, filter, map}
use Rattle.std.specs.Prelude.{◌&&◌, ◌||◌, not}
use Rattle.std.proofs.lemmas.Bool.{and_parts, and_from, false≢true, false_from_ne_true}
use Rattle.abs_path.specs.Paths.{Path}
use Rattle.abs_path.specs.Prefix.{is_prefix, is_same, rest_of, is_below as is_path_below}
use Rattle.abs_path.proofs.Prefixes.{prefix-append, prefix_trans, prefix_antisymm, same_path, same_itself}
use Rattle.kern_mounts.proofs.Paths.{behind, below_leads, front_leads, front_same}
use Rattle.kern_mounts.specs.declared.step.Mount.{Mount}
use Rattle.kern_mounts.specs.Mounts.{Mounts, leads, stands_below}
use Rattle.kern_mounts.specs.Bind.{moved_mount, copies}
use Rattle.kern_mounts.specs.Backing.{is_covered}
use Rattle.kern_mounts.proofs.Covering.{more_covered, later_covers}

-- a common front changes nothing
front_below : (front one other : Path) → is_path_below (front ++ one) (front ++ other) ≡ is_path_below one other
front_below front one other = ap (λ b. b && not (is_same (front ++ other) (front ++ one))) (front_leads front other one)
    ∙ ap (λ b. is_prefix other one && not b) (front_same front other one)

-- what stands strictly below a path below the source stands strictly below the source
below_source : (place source tail : Path) → is_path_below place (source ++ tail) ≡ true → is_path_below place source ≡ true
below_source place source tail h =
    and_from _ _ (prefix_trans source (source ++ tail) place (prefix-append source tail) parts.0)
    (by (is_same source place) (same_path source place))
  where
    parts : (is_prefix (source ++ tail) place ≡ true) × (not (is_same (source ++ tail) place) ≡ true)
    parts = and_parts (is_prefix (source ++ tail) place) (not (is_same (source ++ tail) place)) h

    by : (b : Bool) → (b ≡ true → source ≡ place) → not b ≡ true
    by false same = refl
    by true same =
        let back : is_prefix (source ++ tail) source ≡ true = ap (is_prefix (source ++ tail)) (same refl) ∙ parts.0 in
        let whole : source ++ tail ≡ place = prefix_antisymm (source ++ tail) source back (prefix-append source tail) ∙ same refl in
        absurd (false≢true (sym (ap not (ap (is_same (source ++ tail)) (sym whole) ∙ same_itself (source ++ tail))) ∙ parts.1))

-- a path below the source, and the same one below the target
pub record IsMoved (source target path moved : Path) : Type 0 where
  pub rest : Path
  pub old : path ≡ source ++ rest
  pub new : moved ≡ target ++ rest

-- what stands below and leads does so when moved
moved_below : (source target place path to_place to_path : Path) (mount : Mount) → IsMoved source target place to_place
    → IsMoved source target path to_path → stands_below source mount ≡ true
    → (stands_below place mount && leads path mount) ≡ true →
    (stands_below to_place (moved_mount source target mount) && leads to_path (moved_mount source target mount)) ≡ true
moved_below source target place path to_place to_path mount p q below h =
    ap (λ b. b && is_prefix (target ++ rest) to_path) same_below ∙ ap (λ b. stands_below place mount && b) same_leads ∙ h
  where
    rest : Path
    rest = rest_of source mount.step.place

    own : mount.step.place ≡ source ++ rest
    own = behind source mount.step.place (below_leads source mount.step below)

    same_below : is_path_below (target ++ rest) to_place ≡ stands_below place mount
    same_below = ap (is_path_below (target ++ rest)) p.new ∙ front_below target rest p.rest ∙ sym (front_below source rest p.rest)
        ∙ ap (is_path_below (source ++ rest)) (sym p.old) ∙ ap (λ (t : Path). is_path_below t place) (sym own)

    same_leads : is_prefix (target ++ rest) to_path ≡ leads path mount
    same_leads = ap (is_prefix (target ++ rest)) q.new ∙ front_leads target rest q.rest ∙ sym (front_leads source rest q.rest)
        ∙ ap (is_prefix (source ++ rest)) (sym q.old) ∙ ap (λ (t : Path). is_prefix t path) (sym own)

-- what covers a path below the source covers the same path below the target, when it is copied
pub covered_copies : (source target place path to_place to_path : Path) (later : Mounts) → IsMoved source target place to_place
    → IsMoved source target path to_path
    → is_covered place path later ≡ true → is_covered to_place to_path (copies true source target later) ≡ true
covered_copies source target place path to_place to_path [] p q h = h
covered_copies source target place path to_place to_path (mount ∷ later) p q h =
    by (stands_below source mount) refl h (covered_copies source target place path to_place to_path later p q)
  where
    now : Mounts
    now = copies true source target later

    elsewhere : stands_below source mount ≡ false → (stands_below place mount && leads path mount) ≡ false
    elsewhere not_below = false_from_ne_true _ (λ both. false≢true (sym not_below ∙
        below_source mount.step.place source p.rest (ap (is_path_below mount.step.place) (sym p.old)
        ∙ (and_parts (stands_below place mount) (leads path mount) both).0)))

    by : (b : Bool) → stands_below source mount ≡ b
        → (mount.locked && ((stands_below place mount && leads path mount) || is_covered place path later)) ≡ true
        → (is_covered place path later ≡ true → is_covered to_place to_path now ≡ true)
        → is_covered to_place to_path
        (map (moved_mount source target) (cond b (mount ∷ filter (stands_below source) later) (filter (stands_below source) later)))
        ≡ true
    by true below h more =
        more_covered mount.locked (stands_below place mount && leads path mount)
        (stands_below to_place (moved_mount source target mount) && leads to_path (moved_mount source target mount))
        (is_covered place path later) (is_covered to_place to_path now)
        (moved_below source target place path to_place to_path mount p q below) more h
    by false not_below h more =
        more (later_covers mount.locked (stands_below place mount && leads path mount) (is_covered place path later)
        (elsewhere not_below) h)
