-- What covers the paths of a mount, as mounts come and go.
use Rattle.std.proofs.Common.{◌≡◌, Bool, true, false, cond, [], ◌∷◌, ◌++◌, inl, inr, refl, sym, ap, ◌∙◌, filter}
use Rattle.std.specs.Prelude.{◌&&◌, ◌||◌, not}
use Rattle.std.specs.List.{list_any}
use Rattle.std.proofs.lemmas.Bool.{and_parts, and_from, false≢true, false_from_ne_true}
use Rattle.abs_path.specs.Paths.{Path}
use Rattle.abs_path.specs.Prefix.{is_prefix, is_same, is_below as is_path_below}
use Rattle.abs_path.proofs.Prefixes.{prefix_itself, prefix_chain, same_path}
use Rattle.kern_mounts.proofs.Paths.{below_leads, stands_below as place_stands_below}
use Rattle.kern_mounts.specs.declared.step.Mount.{Mount}
use Rattle.kern_mounts.specs.Mounts.{Mounts, leads, stands_below}
use Rattle.kern_mounts.specs.Copying.{locked_copy}
use Rattle.kern_mounts.specs.Backing.{is_covered}
use Rattle.kern_mounts.proofs.Splits.{None_have}

-- ---- of one mount and the later ones
-- what covers by this mount or by later ones, where each covers elsewhere too
pub more_covered : (lock here there later now : Bool) → (here ≡ true → there ≡ true) → (later ≡ true → now ≡ true)
    → (lock && (here || later)) ≡ true → (lock && (there || now)) ≡ true
more_covered false here there later now f g h = h
more_covered true true there later now f g h = ap (λ b. b || now) (f refl)
more_covered true false true later now f g h = refl
more_covered true false false later now f g h = g h

-- where this mount does not cover, later ones do
pub later_covers : (lock here later : Bool) → here ≡ false → (lock && (here || later)) ≡ true → later ≡ true
later_covers false here later f h = absurd (false≢true h)
later_covers true true later f h = absurd (false≢true (sym f))
later_covers true false later f h = h

-- a test that holds wherever another does is false only where the other is
pub not_more : (a b : Bool) → (a ≡ true → b ≡ true) → b ≡ false → a ≡ false
not_more false b f h = refl
not_more true b f h = sym (f refl) ∙ h

-- ---- more mounts behind
pub covered_append : (place path : Path) (later more : Mounts) → is_covered place path later ≡ true
    → is_covered place path (later ++ more) ≡ true
covered_append place path [] more h = absurd (false≢true h)
covered_append place path (mount ∷ later) more h =
    more_covered mount.locked (stands_below place mount && leads path mount) _ (is_covered place path later) _ (λ e. e)
    (covered_append place path later more) h

-- ---- a mount that is not locked, and what is behind it
not_both : (a b : Bool) → a ≡ false → (a && b) ≡ false
not_both false b e = refl
not_both true b e = absurd (false≢true (sym e))

pub covered_front : (place path : Path) (earlier : Mounts) (mount : Mount) (later now : Mounts) → mount.locked ≡ false
    → is_covered place path (earlier ++ mount ∷ later) ≡ true → is_covered place path (earlier ++ now) ≡ true
covered_front place path [] mount later now free h =
    absurd (false≢true (sym (not_both mount.locked ((stands_below place mount && leads path mount) || is_covered place path later) free)
    ∙ h))
covered_front place path (first ∷ earlier) mount later now free h =
    more_covered first.locked (stands_below place first && leads path first) _ (is_covered place path (earlier ++ mount ∷ later)) _
    (λ e. e) (covered_front place path earlier mount later now free) h

-- ---- without what stands below a path
-- of two paths that lead to one, the first does not lead to the second: then it stands strictly below it
apart : (front place path : Path) → is_prefix front path ≡ true → is_prefix place path ≡ true → is_prefix place front ≡ false
    → is_path_below place front ≡ true
apart front place path f g none = elim (prefix_chain place front path g f) [
  | inl there ↦ absurd (false≢true (sym none ∙ there))
  | inr there ↦ and_from _ _ there (by (is_same front place) (same_path front place))
]
  where
    by : (b : Bool) → (b ≡ true → front ≡ place) → not b ≡ true
    by false same = refl
    by true same = absurd (false≢true (sym none ∙ ap (is_prefix place) (same refl) ∙ prefix_itself place))

-- at a place that is not below the path, and does not lead to it
pub covered_left : (path place at : Path) (later : Mounts) → is_path_below place path ≡ false → is_prefix place path ≡ false
    → is_covered place at later ≡ true → is_covered place at (filter (λ mount. not (stands_below path mount)) later) ≡ true
covered_left path place at [] here leads_not h = h
covered_left path place at (mount ∷ later) here leads_not h =
    by (stands_below path mount) refl h (covered_left path place at later here leads_not)
  where
    left : Mounts
    left = filter (λ mount. not (stands_below path mount)) later

    elsewhere : stands_below path mount ≡ true → (stands_below place mount && leads at mount) ≡ false
    elsewhere below = false_from_ne_true _ (λ both. false≢true (sym here ∙
        apart path place mount.step.place (below_leads path mount.step below)
        (below_leads place mount.step (and_parts (stands_below place mount) (leads at mount) both).0) leads_not))

    by : (b : Bool) → stands_below path mount ≡ b
        → (mount.locked && ((stands_below place mount && leads at mount) || is_covered place at later)) ≡ true
        → (is_covered place at later ≡ true → is_covered place at left ≡ true)
        → is_covered place at (cond (not b) (mount ∷ left) left) ≡ true
    by true below h more = more
        (later_covers mount.locked (stands_below place mount && leads at mount) (is_covered place at later) (elsewhere below) h)
    by false below h more = more_covered mount.locked (stands_below place mount && leads at mount) _ (is_covered place at later)
        (is_covered place at left) (λ e. e) more h

-- ---- locked copies
pub covered_locked : (place path : Path) (later : Mounts) → is_covered place path later ≡ true
    → is_covered place path (locked_copy later) ≡ true
covered_locked place path [] h = h
covered_locked place path (mount ∷ later) h = by mount.locked (stands_below place mount && leads path mount) h
    (covered_locked place path later)
  where
    by : (lock here : Bool) → (lock && (here || is_covered place path later)) ≡ true
        → (is_covered place path later ≡ true → is_covered place path (locked_copy later) ≡ true)
        → (here || is_covered place path (locked_copy later)) ≡ true
    by false here h more = absurd (false≢true h)
    by true true h more = refl
    by true false h more = more h

-- ---- where nothing leads to the path
pub none_covers : (place path : Path) (later : Mounts) → None_have (leads path) later → is_covered place path later ≡ false
none_covers place path [] none = refl
none_covers place path (mount ∷ later) none = by mount.locked (stands_below place mount) (leads path mount) none.0
    (none_covers place path later none.1)
  where
    by : (lock below here : Bool) → here ≡ false → is_covered place path later ≡ false
        → (lock && ((below && here) || is_covered place path later)) ≡ false
    by false below here f g = refl
    by true false here f g = g
    by true true true f g = f
    by true true false f g = g

-- ---- from a path that belongs to a mount
-- no later mount leads to the source: so what covers a path below it, of an earlier mount, stands strictly below the source
pub covered_source : (place source more : Path) (later : Mounts) → None_have (leads source) later
    → is_covered place (source ++ more) later ≡ true → is_covered source (source ++ more) later ≡ true
covered_source place source more [] none h = h
covered_source place source more (mount ∷ later) none h =
    more_covered mount.locked (stands_below place mount && leads (source ++ more) mount)
    (stands_below source mount && leads (source ++ more) mount)
    (is_covered place (source ++ more) later) (is_covered source (source ++ more) later)
    (λ both. let here = (and_parts (stands_below place mount) (leads (source ++ more) mount) both).1 in and_from _ _ (place_stands_below source more mount.step.place here none.0) here)
    (covered_source place source more later none.1) h

-- what covers is locked and stands below
pub covered_any : (place path : Path) (later : Mounts) → is_covered place path later ≡ true
    → list_any (λ mount. mount.locked && stands_below place mount) later ≡ true
covered_any place path [] h = h
covered_any place path (mount ∷ later) h = by mount.locked (stands_below place mount) (leads path mount) h (covered_any place path later)
  where
    by : (lock below here : Bool) → (lock && ((below && here) || is_covered place path later)) ≡ true
        → (is_covered place path later ≡ true → list_any (λ mount. mount.locked && stands_below place mount) later ≡ true)
        → ((lock && below) || list_any (λ mount. mount.locked && stands_below place mount) later) ≡ true
    by false below here h more = absurd (false≢true h)
    by true true here h more = refl
    by true false here h more = more h
