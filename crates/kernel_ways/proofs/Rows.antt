-- The rows of a site, by their places in the table.
use Rattle.std.proofs.Common.{◌≡◌, ℕ, zero, suc, Bool, true, false, List, [], ◌∷◌, Option, Some, refl, cond, ap, ◌∙◌, sym, subst}
use Rattle.std.specs.Prelude.{slice_get, map, IsSome}
use Rattle.std.specs.List.{AllByRecursion}
use Rattle.launcher.specs.abs_path.Paths.{Path}
use Rattle.launcher.specs.abs_path.Prefix.{is_same}
use Rattle.launcher.specs.abs_path.ByteOrder.{is_before, AreAscending}
use Rattle.launcher.proofs.OfAbsPath.ByteOrder.{not_before_itself}
use Rattle.launcher.proofs.OfAbsPath.Prefixes.{same_path, same_itself}
use Rattle.launcher.specs.cap_sets.Sets.{none}
use Rattle.launcher.specs.site_table.declared.row.Row.{Row}
use Rattle.launcher.specs.site_table.Table.{Site, IsSite, row_at}
use Rattle.launcher.specs.kern_mounts.Finds.{row, finds}
use Rattle.launcher.specs.kern_mounts.Split.{Table}
use Rattle.launcher.proofs.OfKernelLaws.Reach.{shows}
use Rattle.reach_paths.proofs.RowsOfSites.{found_path, found_row}

later_at : (path : Path) (rows : List Row) → AllByRecursion (λ later. is_before path later ≡ true) (map (λ row. row.path) rows)
    → (at : ℕ) (own : Row) → slice_get rows at ≡ Some own → is_before path own.path ≡ true
later_at path [] h at own e = cc
later_at path (first ∷ rows) h zero own e = let same : first ≡ own = cc in ap (λ (r : Row). is_before path r.path) (sym same) ∙ h.0
later_at path (first ∷ rows) h (suc at) own e = later_at path rows h.1 at own e

found_at_own : (rows : List Row) → AreAscending (map (λ row. row.path) rows) → (at : ℕ) (own : Row) → slice_get rows at ≡ Some own
    → row_at rows own.path ≡ Some own
found_at_own [] a at own e = cc
found_at_own (first ∷ rows) a zero own e =
    let same : first ≡ own = cc in
    let here' : is_same first.path own.path ≡ true = ap (λ (r : Row). is_same r.path own.path) same ∙ same_itself own.path in
    ap (λ b. cond b (Some first) (row_at rows own.path)) here' ∙ ap (λ (r : Row). Some r) same
found_at_own (first ∷ rows) a (suc at) own e = by (is_same first.path own.path) refl (found_at_own rows a.1 at own e)
    (later_at first.path rows a.0 at own e)
  where
    by : (b : Bool) → is_same first.path own.path ≡ b → row_at rows own.path ≡ Some own → is_before first.path own.path ≡ true
        → cond b (Some first) (row_at rows own.path) ≡ Some own
    by true s more before =
        let same : first.path ≡ own.path = same_path first.path own.path s in
        let itself : is_before own.path own.path ≡ true = ap (λ (p : Path). is_before p own.path) (sym same) ∙ before in
        let never = not_before_itself own.path in
        cc
    by false s more before = more

-- the row is found at its own path
abbrev pub IsKnown : Site → Row → Type 0
IsKnown site target = row_at site.rows target.path ≡ Some target

pub known_at : (site : Site) → IsSite site → (at : ℕ) (target : Row) → slice_get site.rows at ≡ Some target → IsKnown site target
known_at site is at target e = found_at_own site.rows is.ascending at target e

-- what a path finds is known
pub known_found : (site : Site) (table : Table) (path : Path) (target : Row) → finds (row_at site.rows) table path ≡ row target
    → IsKnown site target
known_found site table path target e =
    let s = shows site.rows table path target e in
    let same = found_path site.rows _ target s.at_place in
    ap (row_at site.rows) same ∙ s.at_place

-- a set-user-id file has no capabilities
pub owner_alone : (site : Site) (target : Row) → IsSite site → IsKnown site target → (owner : ℕ) → target.setuid ≡ Some owner
    → target.caps ≡ none
owner_alone site target is known owner e =
    let own = found_row site target.path target is known in
    let P : Option ℕ → Type 0 = λ o. IsSome o in
    own.owner_or_caps (subst P (sym e) refl)

-- a file without capabilities has no effective bit
pub no_bit : (site : Site) (target : Row) → IsSite site → IsKnown site target → target.caps ≡ none → target.effective ≡ false
no_bit site target is known e =
    let own = found_row site target.path target is known in
    by target.effective (λ (b : target.effective ≡ true). own.effective_caps b)
  where
    by : (b : Bool) → (b ≡ true → target.caps ≡ none → ⊥) → b ≡ false
    by false h = refl
    by true h = absurd (h refl e)
