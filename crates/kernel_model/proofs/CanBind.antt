-- A source that is found can be bound: the rows of a site stand at short paths.
use Rattle.std.proofs.Common.{◌≡◌, ℕ, ◌≤◌, ◌++◌, ◌∷◌, [], Bool, true, false, cond, List, length, Option, Some, None, Result, Ok, Err, refl}
use Rattle.std.proofs.Common.{sym, subst, arith, IfOk}
use Rattle.std.specs.Prelude.{not, nat_lt}
use Rattle.std.specs.List.{AllByRecursion}
use Rattle.std.proofs.lemmas.Bool.Decides.{nat_tests}
use Rattle.site_table.specs.abs_path.Paths.{Path, text_of}
use Rattle.site_table.specs.abs_path.Prefix.{is_same, rest_of}
use Rattle.site_table.proofs.OfAbsPath.Prefixes.{same_path}
use Rattle.site_table.specs.declared.row.Row.{Row}
use Rattle.site_table.specs.Table.{Site, IsSite, IsRowOf, row_at}
use Rattle.kern_mounts.specs.declared.step.MountStep.{MountStep}
use Rattle.kern_mounts.specs.declared.step.What.{What}
use Rattle.kern_mounts.specs.declared.step.What.TheVariants.{Host, Empty, Hidden}
use Rattle.kern_mounts.specs.Bind.{is_long, can_show, can_show_at, can_bind}
use Rattle.kern_mounts.specs.Entry.{entry_of}
use Rattle.kern_mounts.specs.Finds.{row_or_nothing, found_by, found_at, finds}
use Rattle.kern_mounts.specs.Split.{Table}
use Rattle.kernel_model.specs.kern_files.MountCall.{kind_found}

-- the row of a path is one of the rows, and has the path
row_is : (P : Row → Type 0) (path : Path) (rows : List Row) (found : Row) → AllByRecursion P rows → row_at rows path ≡ Some found
    → P found × (is_same found.path path ≡ true)
row_is P path [] found h e = absurd (cc)
row_is P path (first ∷ rows) found h e = by (is_same first.path path) refl e (row_is P path rows found h.1)
  where
    by : (b : Bool) → is_same first.path path ≡ b → cond b (Some first) (row_at rows path) ≡ Some found
        → (row_at rows path ≡ Some found → P found × (is_same found.path path ≡ true)) → P found × (is_same found.path path ≡ true)
    by true same e more = let is : first ≡ found = cc in (subst P is h.0, subst (λ (row : Row). is_same row.path path ≡ true) is same)
    by false same e more = more e

not_long : (n : ℕ) → n ≤ 250 → not (nat_lt 512 n) ≡ true
not_long n h = grind (arith, nat_tests)

row_is_short : (site : Site) (path : Path) (found : Row) → IsSite site → row_at site.rows path ≡ Some found → not (is_long path) ≡ true
row_is_short site path found holds e =
    let own = row_is (IsRowOf site.rows) path site.rows found holds.each_row e in
    subst (λ (p : Path). not (is_long p) ≡ true) (same_path found.path path own.1) (not_long (length (text_of found.path)) own.0.short)

found_can_bind : (site : Site) (table : Table) (source : Path) (directory : Bool) → IsSite site
    → kind_found (finds (row_at site.rows) table source) ≡ Ok directory → can_bind table source ≡ true
found_can_bind site table source directory holds e = by (entry_of table source) e
  where
    short : (path : Path) (o : Option Row) → row_at site.rows path ≡ o → kind_found (row_or_nothing o) ≡ Ok directory
        → not (is_long path) ≡ true
    short path None found e = absurd (cc)
    short path (Some row) found e = row_is_short site path row holds found

    shows : (what : What) (place : Path) → kind_found (found_by (row_at site.rows) what place source) ≡ Ok directory
        → can_show what place source ≡ true
    shows (Host host) place e = short (host ++ rest_of place source) (row_at site.rows (host ++ rest_of place source)) refl e
    shows Empty place e = refl
    shows (Hidden hidden) place e = absurd (cc)

    by : (o : Option MountStep) → kind_found (found_at (row_at site.rows) source o) ≡ Ok directory → can_show_at source o ≡ true
    by None e = absurd (cc)
    by (Some step) e = shows step.what step.place e

pub can_bind_if_found : (site : Site) (table : Table) (source : Path) (answer : Result Bool ℕ) → IsSite site
    → answer ≡ kind_found (finds (row_at site.rows) table source) → IfOk answer (λ directory. can_bind table source ≡ true)
can_bind_if_found site table source (Ok directory) holds e = found_can_bind site table source directory holds (sym e)
can_bind_if_found site table source (Err errno) holds e = tt
