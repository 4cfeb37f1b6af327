-- Mounts and their entries, by number and about a path.
use Rattle.std.proofs.Common.{◌≡◌, ◌<◌, ℕ, zero, suc, Bool, true, false, [], ◌∷◌, ◌++◌, Option, Some, None, length, get_or, take, drop}
use Rattle.std.proofs.Common.{filter, refl, ap, ◌∙◌, sym, arith, add-one, cond}
use Rattle.std.specs.Prelude.{not}
use Rattle.std.proofs.lemmas.List.{map-append, length-map, get_or-map, take-map}
use Rattle.std.proofs.lemmas.List.Elements.{recursion_from_All}
use Rattle.abs_path.specs.Paths.{Path}
use Rattle.kern_mounts.specs.declared.step.Mount.{Mount}
use Rattle.kern_mounts.specs.declared.step.MountStep.{MountStep}
use Rattle.kern_mounts.specs.Entry.{Belongs, leads_to, entry_of}
use Rattle.kern_mounts.specs.Split as table
use Rattle.kern_mounts.specs.Split.{SplitOf, split_or, split_last, is_below}
use Rattle.kern_mounts.specs.MountAt.{mount_at}
use Rattle.kern_mounts.specs.Copying.{locked_copy}
use Rattle.kern_mounts.specs.Mounts.{Mounts, steps_of, leads, stands_below}
use Rattle.kern_mounts.proofs.Entries.{behind_first}
use Rattle.kern_mounts.proofs.Splits.{None_have, split_is, of_split, cut, about}

pub steps_append : (mounts more : Mounts) → steps_of (mounts ++ more) ≡ steps_of mounts ++ steps_of more
steps_append mounts more = map-append (λ mount. mount.step) mounts more

pub steps_long : (mounts : Mounts) → length (steps_of mounts) ≡ length mounts
steps_long mounts = length-map mounts (λ mount. mount.step)

pub steps_take : (n : ℕ) (mounts : Mounts) → take n (steps_of mounts) ≡ steps_of (take n mounts)
steps_take n mounts = take-map (λ mount. mount.step) n mounts

-- the entries of the mounts of a kind that their entries tell
pub steps_filter : (p : MountStep → Bool) (mounts : Mounts) → steps_of (filter (λ mount. p mount.step) mounts) ≡ filter p (steps_of mounts)
steps_filter p [] = refl
steps_filter p (mount ∷ mounts) = by (p mount.step) (steps_filter p mounts)
  where
    by : (b : Bool) → steps_of (filter (λ mount. p mount.step) mounts) ≡ filter p (steps_of mounts)
        → steps_of (cond b (mount ∷ filter (λ mount. p mount.step) mounts) (filter (λ mount. p mount.step) mounts))
        ≡ cond b (mount.step ∷ filter p (steps_of mounts)) (filter p (steps_of mounts))
    by true more = ap (λ (t : table.Table). mount.step ∷ t) more
    by false more = more

-- what is left of mounts where those below a path go
pub left_steps : (path : Path) (split : SplitOf Mount) → steps_of
    (split.earlier ++ filter (λ mount. not (stands_below path mount)) split.later)
    ≡ steps_of split.earlier ++ filter (λ step. not (is_below path step)) (steps_of split.later)
left_steps path split = steps_append split.earlier (filter (λ mount. not (stands_below path mount)) split.later)
    ∙ ap (λ (t : table.Table). steps_of split.earlier ++ t) (steps_filter (λ step. not (is_below path step)) split.later)

pub in_range : (mounts : Mounts) (path : Path) (at : ℕ) → Belongs (steps_of mounts) path at → at < length mounts
in_range mounts path at h = let long = steps_long mounts in omega (arith, h.in_range, long)

none_after : (path : Path) (mounts : Mounts) (at : ℕ) → Belongs (steps_of mounts) path at → None_have (leads path) (drop (suc at) mounts)
none_after path [] at h = absurd (omega (arith, h.in_range))
none_after path (mount ∷ mounts) zero h =
    recursion_from_All (λ other. leads path other ≡ false) mounts
    (λ k d lt. ap (leads_to path) (sym (get_or-map (λ (m : Mount). m.step) mounts k d d.step (omega arith))) ∙ h.none_later (suc k) d.step (omega arith) (let long = steps_long mounts in omega (arith, long, lt)))
none_after path (mount ∷ mounts) (suc at) h = none_after path mounts at (behind_first mount.step (steps_of mounts) path at h)

-- the path's mount with what stands about it
pub mount_by_number : (mounts : Mounts) (path : Path) (at : ℕ) (mount : Mount) → Belongs (steps_of mounts) path at
    → mount ≡ get_or mounts at mount → mount_at path mounts ≡ Some (about mounts at mount)
mount_by_number mounts path at mount h e =
    let lt = in_range mounts path at h in
    let own : leads path mount ≡ true = ap (leads path) e ∙ ap (leads_to path) (sym (get_or-map (λ (m : Mount). m.step) mounts at mount mount.step lt)) ∙ h.leads mount.step in
    ap (split_last (leads path)) (cut mounts at mount e lt) ∙ split_is (leads path) (take at mounts) mount (drop (suc at) mounts) own
    (none_after path mounts at h)
    ∙ ap (λ (n : ℕ). Some (record { earlier = take at mounts; entry = mount; later = drop n mounts })) (sym (add-one at))

-- ---- the entry about which entries stand, and the mount about which mounts do
abbrev pub steps_split : Option (SplitOf Mount) → Option table.Split
steps_split None = None
steps_split (Some split) = Some (record { earlier = steps_of split.earlier; entry = split.entry.step; later = steps_of split.later })

steps_or : (o : Option (SplitOf Mount)) (b : Bool) (mount : Mount) (mounts : Mounts)
    → split_or (steps_split o) b mount.step (steps_of mounts) ≡ steps_split (split_or o b mount mounts)
steps_or (Some split) b mount mounts = refl
steps_or None true mount mounts = refl
steps_or None false mount mounts = refl

pub split_steps : (path : Path) (mounts : Mounts) → table.split_at path (steps_of mounts) ≡ steps_split (mount_at path mounts)
split_steps path [] = refl
split_steps path (mount ∷ mounts) = ap (λ o. split_or o (leads path mount) mount.step (steps_of mounts)) (split_steps path mounts)
    ∙ steps_or (mount_at path mounts) (leads path mount) mount mounts

-- the entry of a path is that of its mount
pub mount_entry : (path : Path) (mounts : Mounts) (split : SplitOf Mount) → mount_at path mounts ≡ Some split
    → entry_of (steps_of mounts) path ≡ Some split.entry.step
mount_entry path mounts split e = of_split path (steps_of mounts) _ (split_steps path mounts ∙ ap steps_split e)

-- ---- locked copies
pub locked_steps : (mounts : Mounts) → steps_of (locked_copy mounts) ≡ steps_of mounts
locked_steps [] = refl
locked_steps (mount ∷ mounts) = ap (λ (t : table.Table). mount.step ∷ t) (locked_steps mounts)
