-- What lies below a folder is shown by an entry of a table, which a loop over the numbers of its entries finds.
use Rattle.std.proofs.Common.{◌≡◌, ◌∙◌, ℕ, Bool, true, false, List, Some, None, refl, cond, ap, sym, drop}
use Rattle.std.specs.Prelude.{slice_get, ◌+◌, ◌&&◌, ◌||◌}
use Rattle.ceilings.specs.abs_path.Paths.{Path, tail_of, parts_of, is_normal}
use Rattle.ceilings.specs.abs_path.Prefix.{is_prefix, rest_of, rest_text}
use Rattle.ceilings.specs.kern_mounts.Split.{Table}
use Rattle.ceilings.specs.kern_mounts.declared.step.MountStep.{MountStep}
use Rattle.ceilings.proofs.OfAbsPath.Reading.{parts_behind}
use Rattle.ceilings.specs.kernel_laws.Blind.{shows_below, exposes}
use Rattle.ceilings.proofs.OfReachPaths.Looping.{from_here}

-- a source that is the folder or leads to it
pub at_folder : (source folder : Path) (rest : List ℕ) (clear : Path → Bool) → Some rest ≡ rest_text source folder → is_normal folder ≡ true
    → clear (parts_of rest) ≡ (is_prefix source folder && clear (rest_of source folder))
at_folder source folder rest clear is normal = ap clear (parts_behind source folder rest normal (sym is))
    ∙ ap (λ b. b && clear (rest_of source folder)) (sym (leads (is_prefix source folder) is))
  where
    leads : (b : Bool) → Some rest ≡ cond b (Some (tail_of (rest_of source folder))) None → b ≡ true
    leads true e = refl
    leads false e = cc

module _ (uncover : Bool) (folder : Path) (table : Table) (at : ℕ) (entry : MountStep) (is : slice_get table at ≡ Some entry) where
  from_entry : exposes uncover folder (drop at table)
      ≡ (shows_below uncover folder entry (drop (at + 1) table) entry.what || exposes uncover folder (drop (at + 1) table))
  from_entry = ap (exposes uncover folder) (from_here table at entry is)

  pub shown_here : shows_below uncover folder entry (drop (at + 1) table) entry.what ≡ true → true ≡ exposes uncover folder (drop at table)
  shown_here e = sym (from_entry ∙ ap (λ b. b || exposes uncover folder (drop (at + 1) table)) e)

  pub not_shown_here : shows_below uncover folder entry (drop (at + 1) table) entry.what ≡ false
      → exposes uncover folder (drop (at + 1) table) ≡ exposes uncover folder (drop at table)
  not_shown_here e = sym (from_entry ∙ ap (λ b. b || exposes uncover folder (drop (at + 1) table)) e)
