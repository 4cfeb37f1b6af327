-- Rows with nothing wrong: each by itself, in a folder that is listed, and told from the others by a number that its path has.
use Rattle.std.proofs.Common.{◌≡◌, ℕ, ◌+◌, ◌*◌, ◌<◌, ◌||◌, not, Bool, true, false, cond, Option, Some, None, List, [], ◌∷◌, ◌++◌, length}
use Rattle.std.proofs.Common.{take, codes, option_map, inl, inr, refl, sym, ap, ◌∙◌, subst, arith, append_assoc, length-append}
use Rattle.std.specs.Prelude.{find}
use Rattle.std.specs.List.{list_any, filter_map, cons_option, enumerate_from, AllByRecursion}
use Rattle.std.specs.Option.{option_map_or}
use Rattle.std.specs.Str.{bytes_eq}
use Rattle.std.proofs.Math.Seq.{take-append_seam}
use Rattle.std.proofs.lemmas.Bool.{cases_Bool}
use Rattle.launcher.specs.abs_path.Paths.{Path}
use Rattle.launcher.specs.abs_path.Prefix.{is_same}
use Rattle.launcher.proofs.OfAbsPath.Prefixes.{same_path}
use Rattle.toml.specs.Data.{Data}
use Rattle.launcher.specs.site_table.declared.error.RowCause.{RowCause}
use Rattle.launcher.specs.site_table.declared.error.SiteError.{SiteError}
use Rattle.launcher.specs.site_table.declared.error.SiteError.TheVariants.{Row as BadRow}
use Rattle.launcher.specs.site_table.declared.error.RowCause.TheVariants.{Duplicate, NoParent}
use Rattle.launcher.specs.site_table.Rows.{path_of, own_causes, place_causes, cause_of, first_of, has_parent, is_duplicate, is_row_at}
use Rattle.launcher.specs.site_table.Reading.{row_faults}
use Rattle.sample_inputs.proofs.Names.{number_in}

-- the number of a path among those of the site's rows
abbrev pub place_in : Path → ℕ
place_in [] = 0
place_in (a ∷ []) = cond (bytes_eq a (codes "usr")) 0 (3 + 65 * number_in a)
place_in (a ∷ b ∷ []) = cond (bytes_eq a (codes "usr")) 1 (4 + 65 * number_in a + number_in b)
place_in (a ∷ b ∷ c ∷ path) = 2

-- no cause applies
abbrev pub no_cause : List (Bool × RowCause) → Type 0
no_cause causes = find (λ cause. cause.0) causes ≡ None

-- a row at a place, with nothing wrong
pub record IsGood (all : List Data) (at : ℕ) (row : Data) : Type 0 where
  pub path : Path
  pub read : path_of row ≡ Some path
  pub own : no_cause (own_causes row)
  pub place : place_in path ≡ at
  pub folder : has_parent all row ≡ true

-- rows from a place on
abbrev pub AreGood : List Data → ℕ → List Data → Type 0
AreGood all at [] = Unit {0}
AreGood all at (row ∷ rows) = IsGood all at row × AreGood all (at + 1) rows

pub good_behind : (all : List Data) (at : ℕ) (rows others : List Data) → AreGood all at rows → AreGood all (at + length rows) others
    → AreGood all at (rows ++ others)
good_behind all at [] others h k = subst (λ (n : ℕ). AreGood all n others) (omega arith) k
good_behind all at (row ∷ rows) others h k =
    (h.0, good_behind all (at + 1) rows others h.1 (subst (λ (n : ℕ). AreGood all n others) (omega arith) k))

-- a row that stands before a place
pub record IsBefore (at : ℕ) (row : Data) : Type 0 where
  pub path : Path
  pub read : path_of row ≡ Some path
  pub place : place_in path < at

one_more : (at : ℕ) (rows : List Data) (row : Data) → AllByRecursion (IsBefore at) rows → IsBefore (at + 1) row
    → AllByRecursion (IsBefore (at + 1)) (rows ++ row ∷ [])
one_more at [] row h last = (last, tt)
one_more at (first ∷ rows) row h last =
    (record { path = h.0.path; read = h.0.read; place = omega (arith, h.0.place) }, one_more at rows row h.1 last)

other_path : (at : ℕ) (row : Data) (path : Path) → IsBefore at row → place_in path ≡ at → is_row_at path row ≡ false
other_path at row path before place =
    ap (λ own. option_map_or (λ own. is_same own path) own false) before.read
    ∙ elim (cases_Bool (is_same before.path path)) [
      | inl same ↦ absurd (omega (arith, ap place_in (same_path before.path path same), before.place, place))
      | inr other ↦ other
    ]

none_has_it : (at : ℕ) (rows : List Data) (path : Path) → AllByRecursion (IsBefore at) rows → place_in path ≡ at
    → list_any (is_row_at path) rows ≡ false
none_has_it at [] path h place = refl
none_has_it at (row ∷ rows) path h place =
    ap (λ here. here || list_any (is_row_at path) rows) (other_path at row path h.0 place) ∙ none_has_it at rows path h.1 place

no_duplicate : (all before : List Data) (at : ℕ) (row : Data) → AllByRecursion (IsBefore at) before → IsGood all at row
    → is_duplicate before row ≡ false
no_duplicate all before at row h good =
    ap (λ path. option_map_or (λ path. list_any (is_row_at path) before) path false) good.read
    ∙ none_has_it at before good.path h good.place

behind_none : (causes others : List (Bool × RowCause)) → no_cause causes
    → find (λ cause. cause.0) (causes ++ others) ≡ find (λ cause. cause.0) others
behind_none [] others h = refl
behind_none (cause ∷ causes) others h =
    elim cause.0 as (λ (b : Bool). cond b (Some cause) (find (λ cause. cause.0) causes) ≡ None
    → cond b (Some cause) (find (λ cause. cause.0) (causes ++ others)) ≡ find (λ cause. cause.0) others) [
      | true ↦ λ h. cc
      | false ↦ λ h. behind_none causes others h
    ] h

-- the causes of a place, by whether each applies
abbrev placed : Bool → Bool → Option RowCause
placed duplicate parent = first_of ((duplicate, Duplicate) ∷ (not parent, NoParent) ∷ [])

no_fault : (all before : List Data) (at : ℕ) (row : Data) → AllByRecursion (IsBefore at) before → IsGood all at row
    → cause_of all before row ≡ None
no_fault all before at row h good =
    ap (option_map (λ cause. cause.1)) (behind_none (own_causes row) (place_causes all before row) good.own)
    ∙ ap (λ duplicate. placed duplicate (has_parent all row)) (no_duplicate all before at row h good)
    ∙ ap (placed false) good.folder

abbrev fault_at : List Data → ℕ × Data → Option SiteError
fault_at all one = option_map (BadRow (one.0 + 1)) (cause_of all (take one.0 all) one.1)

none_from : (all before rows : List Data) (at : ℕ) → at ≡ length before → all ≡ before ++ rows → AllByRecursion (IsBefore at) before
    → AreGood all at rows → filter_map (fault_at all) (enumerate_from at rows) ≡ []
none_from all before [] at counted parts h good = refl
none_from all before (row ∷ rows) at counted parts h good =
    let front : take at all ≡ before = ap (λ n. take n all) counted ∙ ap (take (length before)) parts ∙ take-append_seam before (row ∷ rows) in
    let fine : fault_at all (at, row) ≡ None = ap (λ before. option_map (BadRow (at + 1)) (cause_of all before row)) front ∙ ap (option_map (BadRow (at + 1))) (no_fault all before at row h good.0) in
    ap (λ fault. cons_option fault (filter_map (fault_at all) (enumerate_from (at + 1) rows))) fine
    ∙ none_from all (before ++ row ∷ []) rows (at + 1) (omega (arith, length-append before (row ∷ [])))
    (parts ∙ sym (append_assoc before (row ∷ []) rows))
    (one_more at before row h (record { path = good.0.path; read = good.0.read; place = omega (arith, good.0.place) })) good.1

-- such rows have no faults
pub no_faults : (rows : List Data) → AreGood rows 0 rows → row_faults rows ≡ []
no_faults rows good = none_from rows [] rows 0 refl refl tt good
