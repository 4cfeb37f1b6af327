-- The calls that uncover a path, one entry more at a time.
use Rattle.std.proofs.Common.{◌≡◌, ℕ, Bool, true, false, List, [], ◌∷◌, ◌++◌, Some, refl, ap, ◌∙◌, sym, append_assoc, append-nil}
use Rattle.std.specs.Prelude.{slice_get, drop, map, ◌+◌, length, ◌≤◌}
use Rattle.ceilings.specs.abs_path.Paths.{Path}
use Rattle.ceilings.specs.kern_mounts.Entry.{leads_to}
use Rattle.ceilings.specs.kern_mounts.Split.{Table}
use Rattle.ceilings.specs.kern_mounts.declared.step.MountStep.{MountStep}
use Rattle.ceilings.specs.kernel_model.declared.kernel_calls.call.Call.{Call}
use Rattle.ceilings.specs.kernel_laws.Questions.{if_so}
use Rattle.ceilings.specs.kernel_ways.Uncovering.{covering, umount_call, umount_calls}
use Rattle.ceilings.specs.kernel_ways.Ways.{CallAt}
use Rattle.ceilings.proofs.OfReachPaths.Looping.{from_here, none_from}

map_append : {X Y : Type 0} (f : X → Y) (xs ys : List X) → map f (xs ++ ys) ≡ map f xs ++ map f ys
map_append f [] ys = refl
map_append f (x ∷ xs) ys = ap (λ zs. f x ∷ zs) (map_append f xs ys)

module _ (nr : CallAt) (path : Path) (table : Table) where
  abbrev pub calls_from : ℕ → List Call
  calls_from at = umount_calls nr (covering path (drop at table))

  one_more : (at : ℕ) (entry : MountStep) → slice_get table at ≡ Some entry → (b : Bool) → leads_to path entry ≡ b
      → calls_from at ≡ calls_from (at + 1) ++ umount_calls nr (if_so b entry.place)
  one_more at entry own b leads =
      ap (λ (t : Table). umount_calls nr (covering path t)) (from_here table at entry own)
      ∙ map_append (umount_call nr) (covering path (drop (at + 1) table)) (if_so (leads_to path entry) entry.place)
      ∙ ap (λ b. calls_from (at + 1) ++ umount_calls nr (if_so b entry.place)) leads

  -- an entry that covers the path adds a call
  pub covers_here : (at : ℕ) (entry : MountStep) → slice_get table at ≡ Some entry → leads_to path entry ≡ true
      → (front calls : List Call) → calls ≡ front ++ calls_from (at + 1) → calls ++ umount_call nr entry.place ∷ [] ≡ front ++ calls_from at
  covers_here at entry own leads front calls is =
      ap (λ (cs : List Call). cs ++ umount_call nr entry.place ∷ []) is
      ∙ append_assoc front (calls_from (at + 1)) (umount_call nr entry.place ∷ [])
      ∙ ap (λ (cs : List Call). front ++ cs) (sym (one_more at entry own true leads))

  -- another adds none
  pub passes_here : (at : ℕ) (entry : MountStep) → slice_get table at ≡ Some entry → leads_to path entry ≡ false
      → (front calls : List Call) → calls ≡ front ++ calls_from (at + 1) → calls ≡ front ++ calls_from at
  passes_here at entry own leads front calls is = is ∙ ap (λ (cs : List Call). front ++ cs)
      (sym (one_more at entry own false leads ∙ append-nil (calls_from (at + 1))))

  -- behind the last there is none
  pub none_left : (at : ℕ) → length table ≤ at → (front : List Call) → front ≡ front ++ calls_from at
  none_left at h front = sym (append-nil front) ∙ ap (λ (t : Table). front ++ umount_calls nr (covering path t))
      (sym (none_from table at h))
