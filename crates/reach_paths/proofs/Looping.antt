-- A loop over the entries of a table, by their numbers.
use Rattle.std.proofs.Common.{◌≡◌, ◌≤◌, ◌∙◌, ℕ, zero, suc, Bool, true, false, List, [], ◌∷◌, ◌++◌, Some, None, refl, cond, ap, sym, ◌+◌}
use Rattle.std.proofs.Common.{length, drop, arith}
use Rattle.std.specs.Prelude.{slice_get, not, ◌||◌, ◌&&◌}
use Rattle.std.specs.List.{list_any}
use Rattle.std.proofs.lemmas.Bool.{and_from}
use Rattle.kernel_laws.specs.abs_path.Paths.{Path, tail_of, parts_of, is_normal}
use Rattle.kernel_laws.specs.abs_path.Prefix.{is_prefix, rest_of, rest_text}
use Rattle.kernel_laws.specs.kern_mounts.Entry.{leads_to}
use Rattle.kernel_laws.specs.kern_mounts.declared.step.What.TheVariants.{Host}
use Rattle.kernel_laws.proofs.OfAbsPath.Reading.{parts_behind}
use Rattle.kernel_laws.specs.kern_mounts.declared.step.MountStep.{MountStep}
use Rattle.kernel_laws.specs.kern_mounts.Split.{Table}
use Rattle.kernel_laws.specs.kern_mounts.declared.step.Flags.{Flags}
use Rattle.kernel_laws.specs.Reach.{shows_row, serves_with, first_with}

pub from_here : (table : Table) (at : ℕ) (entry : MountStep) → slice_get table at ≡ Some entry → drop at table ≡ entry ∷ drop (at + 1) table
from_here [] at entry e = cc
from_here (first ∷ table) zero entry e = let same : first ≡ entry = cc in ap (λ (m : MountStep). m ∷ table) same
from_here (first ∷ table) (suc at) entry e = from_here table at entry e ∙ ap (λ n. entry ∷ drop n (first ∷ table)) (let n : suc (at + 1) ≡ suc at + 1 = omega arith in n)

pub none_from : (table : Table) (at : ℕ) → length table ≤ at → drop at table ≡ []
none_from [] zero h = refl
none_from [] (suc at) h = refl
none_from (first ∷ table) zero h = absurd (omega arith)
none_from (first ∷ table) (suc at) h = none_from table at (omega arith)

-- ---- some entry from here on
module _ (p : MountStep → Bool) (table : Table) (at : ℕ) where
  pub any_here : (entry : MountStep) → slice_get table at ≡ Some entry → p entry ≡ true → true ≡ list_any p (drop at table)
  any_here entry e is = sym (ap (list_any p) (from_here table at entry e) ∙ ap (λ b. b || list_any p (drop (at + 1) table)) is)

  pub any_not_here : (entry : MountStep) → slice_get table at ≡ Some entry → p entry ≡ false
      → list_any p (drop (at + 1) table) ≡ list_any p (drop at table)
  any_not_here entry e is = sym (ap (list_any p) (from_here table at entry e) ∙ ap (λ b. b || list_any p (drop (at + 1) table)) is)

-- ---- the first entry that serves from here on
module _ (uncover : Bool) (row : Path) (test : Flags → Bool) (table : Table) (at : ℕ) where
  step : (entry : MountStep) → slice_get table at ≡ Some entry → (b : Bool) → serves_with uncover row test entry (drop (at + 1) table) ≡ b
      → first_with uncover row test (drop at table) at ≡ cond b (Some at) (first_with uncover row test (drop (at + 1) table) (at + 1))
  step entry e b is =
      ap (λ t. first_with uncover row test t at) (from_here table at entry e)
      ∙ ap (λ s. cond s (Some at) (first_with uncover row test (drop (at + 1) table) (at + 1))) is

  pub serves_here : (entry : MountStep) → slice_get table at ≡ Some entry → test entry.flags ≡ true
      → shows_row uncover entry (drop (at + 1) table) row entry.what ≡ true
      → Some at ≡ first_with uncover row test (drop at table) at
  serves_here entry e f s =
      sym (step entry e true (and_from (test entry.flags) (shows_row uncover entry (drop (at + 1) table) row entry.what) f s))

  pub forbids_here : (entry : MountStep) → slice_get table at ≡ Some entry → test entry.flags ≡ false
      → first_with uncover row test (drop (at + 1) table) (at + 1) ≡ first_with uncover row test (drop at table) at
  forbids_here entry e f = sym (step entry e false (ap (λ b. b && shows_row uncover entry (drop (at + 1) table) row entry.what) f))

  pub hides_here : (entry : MountStep) → slice_get table at ≡ Some entry → test entry.flags ≡ true
      → shows_row uncover entry (drop (at + 1) table) row entry.what ≡ false
      → first_with uncover row test (drop (at + 1) table) (at + 1) ≡ first_with uncover row test (drop at table) at
  hides_here entry e f s = sym (step entry e false (ap (λ b. b && shows_row uncover entry (drop (at + 1) table) row entry.what) f ∙ s))

-- ---- what an entry of the host shows
prefix_of : (source row : Path) (rest : List ℕ) → Some rest ≡ rest_text source row → is_prefix source row ≡ true
prefix_of source row rest e = by (is_prefix source row) e
  where
    by : (b : Bool) → Some rest ≡ cond b (Some (tail_of (rest_of source row))) None → b ≡ true
    by true e = refl
    by false e = cc

pub shows_behind : (row : Path) (table : Table) (at : ℕ) (own entry : MountStep) (source : Path) (rest : List ℕ) (covered : Bool)
    → slice_get table at ≡ Some own → slice_get table at ≡ Some entry → own.what ≡ Host source
    → Some rest ≡ rest_text source row → is_normal row ≡ true
    → covered ≡ list_any (leads_to (own.place ++ parts_of rest)) (drop (at + 1) table)
    → not covered ≡ shows_row false entry (drop (at + 1) table) row entry.what
shows_behind row table at own entry source rest covered e f host is normal c =
    let same : own ≡ entry = cc in
    let parts : parts_of rest ≡ rest_of source row = parts_behind source row rest normal (sym is) in
    let later = drop (at + 1) table in
    ap not (c ∙ ap (λ (r : Path). list_any (leads_to (own.place ++ r)) later) parts)
    ∙ ap (λ b. b && not (list_any (leads_to (own.place ++ rest_of source row)) later)) (sym (prefix_of source row rest is))
    ∙ ap (shows_row false own later row) (sym host)
    ∙ ap (λ (m : MountStep). shows_row false m later row m.what) same
