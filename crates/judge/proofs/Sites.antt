-- Sites that agree but below a folder have the same rows elsewhere.
use Rattle.std.proofs.Common.{◌≡◌, ◌∙◌, Bool, true, false, cond, List, [], ◌∷◌, Option, Some, refl, ap, sym}
use Rattle.std.specs.Prelude.{not, option_map}
use Rattle.ceilings.specs.abs_path.Paths.{Path}
use Rattle.ceilings.specs.abs_path.Prefix.{is_same, is_below}
use Rattle.ceilings.proofs.OfAbsPath.Prefixes.{same_path}
use Rattle.ceilings.specs.mount_plan.Host.{host_of}
use Rattle.ceilings.specs.mount_plan.Resting.{AgreeButBelow}
use Rattle.ceilings.specs.site_table.Kinds.{is_dir}
use Rattle.ceilings.specs.site_table.declared.row.Row.{Row}
use Rattle.ceilings.specs.site_table.Table.{Site, row_at}
use Rattle.judge.specs.Sites.{rows_outside, AgreeOutside}

pub clash : (b : Bool) → b ≡ true → b ≡ false → ⊥
clash b one other = cc

-- ---- rows
found_outside : (folder path : Path) → is_below path folder ≡ false → (rows : List Row)
    → row_at (rows_outside folder rows) path ≡ row_at rows path
found_outside folder path out [] = refl
found_outside folder path out (row ∷ rows) = by (is_same row.path path) refl (is_below row.path folder) refl
    (found_outside folder path out rows)
  where
    by : (b : Bool) → is_same row.path path ≡ b → (c : Bool) → is_below row.path folder ≡ c
        → row_at (rows_outside folder rows) path ≡ row_at rows path
        → row_at (rows_outside folder (row ∷ rows)) path ≡ row_at (row ∷ rows) path
    by b same false below more =
        ap (λ c. row_at (cond (not c) (row ∷ rows_outside folder rows) (rows_outside folder rows)) path) below
        ∙ ap (λ (o : Option Row). cond (is_same row.path path) (Some row) o) more
    by false same true below more =
        ap (λ c. row_at (cond (not c) (row ∷ rows_outside folder rows) (rows_outside folder rows)) path) below ∙ more
        ∙ ap (λ b. cond b (Some row) (row_at rows path)) (sym same)
    by true same true below more =
        let is : row.path ≡ path = same_path row.path path same in
        absurd (clash (is_below path folder) (ap (λ (p : Path). is_below p folder) (sym is) ∙ below) out)

pub same_row : (folder path : Path) (site other : Site) → AgreeOutside folder site other → is_below path folder ≡ false
    → row_at other.rows path ≡ row_at site.rows path
same_row folder path site other agree out = sym (found_outside folder path out other.rows)
    ∙ ap (λ (rows : List Row). row_at rows path) agree.rows ∙ found_outside folder path out site.rows

pub same_hosts : (folder : Path) (site other : Site) → AgreeOutside folder site other → AgreeButBelow folder (host_of site) (host_of other)
same_hosts folder site other agree path out = ap (λ (o : Option Row). option_map is_dir (option_map (λ (row : Row). row.kind) o))
    (same_row folder path site other agree out)
