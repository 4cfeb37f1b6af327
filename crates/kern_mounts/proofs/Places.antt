-- The places of a table's entries, as the tree of places keeps them.
use Rattle.std.proofs.Common.{◌≡◌, ℕ, zero, suc, List, [], ◌∷◌, length, get_or, set, Some, sym, ap, ◌∙◌, arith, refl}
use Rattle.std.proofs.Math.ListN.{length-set}
use Rattle.std.proofs.lemmas.List.{length-map, get_or-map}
use Rattle.abs_path.specs.Paths.{Path}
use Rattle.abs_path.specs.Prefix.{is_prefix}
use Rattle.abs_path.specs.place_tree.Places.{IsLastLeading}
use Rattle.kern_mounts.specs.declared.step.Mount.{Mount}
use Rattle.kern_mounts.specs.declared.step.MountStep.{MountStep}
use Rattle.kern_mounts.specs.Mounts.{Mounts, steps_of}
use Rattle.kern_mounts.specs.Table.{StartsAtRoot, IsTable, places_of, HasPlaces}
use Rattle.kern_mounts.specs.Entry.{Belongs}

-- the last place that leads to a path is that of the path's entry
pub belongs_by_place : (table : List MountStep) (places : List Path) (path : Path) (at : ℕ) → HasPlaces table places
    → IsLastLeading places path (Some at) → Belongs table path at
belongs_by_place table places path at e h =
    let long : length places ≡ length table = ap length e ∙ length-map table (λ step. step.place) in
    let within = h.in_range in
    record {
      in_range = omega arith;
      leads = λ d. ap (λ (p : Path). is_prefix p path) (sym (get_or-map (λ step. step.place) table at d d.place (omega arith))
          ∙ ap (λ (l : List Path). get_or l at d.place) (sym e)) ∙ h.is_of d.place;
      none_later = λ k d low high.
          ap (λ (p : Path). is_prefix p path) (sym (get_or-map (λ step. step.place) table k d d.place high)
          ∙ ap (λ (l : List Path). get_or l k d.place) (sym e)) ∙ h.none_later k d.place low (omega arith);
    }

-- ---- mounts
-- a mount with other flags stands where it stood
pub mount_places_stay : (mounts : Mounts) (at : ℕ) (mount next : Mount) → mount ≡ get_or mounts at mount
    → next.step.place ≡ mount.step.place → places_of (steps_of (set mounts at next)) ≡ places_of (steps_of mounts)
mount_places_stay [] at mount next e f = refl
mount_places_stay (first ∷ mounts) zero mount next e f = ap (λ (p : Path). p ∷ places_of (steps_of mounts))
    (f ∙ ap (λ (m : Mount). m.step.place) e)
mount_places_stay (first ∷ mounts) (suc at) mount next e f =
    ap (λ (l : List Path). first.step.place ∷ l) (mount_places_stay mounts at mount next e f)

-- mounts of which one has other flags are a table
pub mounts_stay : (mounts : Mounts) (at : ℕ) (mount next : Mount) → IsTable (steps_of mounts) → mount ≡ get_or mounts at mount
    → next.step.place ≡ mount.step.place → IsTable (steps_of (set mounts at next))
mounts_stay mounts at mount next h e f = record {
  root = root mounts at h.root e;
  few = let same = length-set mounts at next in let long = length-map mounts (λ (m : Mount). m.step) in let longer = length-map (set mounts at next) (λ (m : Mount). m.step) in omega (arith, same, long, longer, h.few);
}
  where
    root : (mounts : Mounts) (at : ℕ) → StartsAtRoot (steps_of mounts) → mount ≡ get_or mounts at mount
        → StartsAtRoot (steps_of (set mounts at next))
    root [] at h e = absurd h
    root (first ∷ mounts) zero h e = f ∙ ap (λ (m : Mount). m.step.place) e ∙ h
    root (first ∷ mounts) (suc at) h e = h
