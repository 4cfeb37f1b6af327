-- A path that is no folder of a site has no row of a site below it: sites that agree outside it are equal.
use Rattle.std.proofs.Common.{◌≡◌, ◌∙◌, ◌≤◌, ◌⊎◌, Bool, true, false, cond, List, [], ◌∷◌, ◌++◌, inl, inr, refl, ap, sym, length, arith}
use Rattle.std.specs.Prelude.{not}
use Rattle.std.specs.List.{AllByRecursion}
use Rattle.std.proofs.lemmas.Bool.{and_from, and_parts}
use Rattle.ceilings.specs.abs_path.Paths.{Path, is_normal, is_part, tail_of, text_of}
use Rattle.ceilings.specs.abs_path.Prefix.{is_below, is_prefix, is_same, rest_of}
use Rattle.ceilings.proofs.OfKernMounts.Paths.{behind}
use Rattle.ceilings.specs.kernel_laws.Blind.{IsFolder}
use Rattle.ceilings.proofs.OfKernelLaws.Exposed.{tail_append}
use Rattle.ceilings.specs.site_table.Table.{Site, IsRowOf, IsSite, site_with}
use Rattle.ceilings.specs.site_table.declared.accounts.Group.{Group}
use Rattle.ceilings.specs.site_table.declared.accounts.User.{User}
use Rattle.ceilings.specs.site_table.declared.row.Row.{Row}
use Rattle.judge.specs.Sites.{AgreeOutside, rows_outside}

-- ---- what leads to a normal and short path is so itself
normal_front : (front rest : Path) → is_normal (front ++ rest) ≡ true → is_normal front ≡ true
normal_front [] rest whole = refl
normal_front (part ∷ front) rest whole =
    let both = and_parts (is_part part) (is_normal (front ++ rest)) whole in and_from _ _ both.0 (normal_front front rest both.1)

some_text : (path : Path) → 1 ≤ length (text_of path)
some_text [] = omega arith
some_text (part ∷ parts) = omega arith

shorter_front : (front rest : Path) → length (text_of front) ≤ length (text_of (front ++ rest))
shorter_front [] rest = let some = some_text rest in omega (arith, some)
shorter_front (part ∷ front) rest = let size = tail_append (part ∷ front) rest in omega (arith, size)

-- a path with a row below it is a folder
above_row : (folder : Path) (all : List Row) (row : Row) → IsRowOf all row → is_below row.path folder ≡ true → IsFolder folder
above_row folder all row of below =
    let leads = (and_parts (is_prefix folder row.path) (not (is_same folder row.path)) below).0 in
    let parts : row.path ≡ folder ++ rest_of folder row.path = behind folder row.path leads in
    let size : length (text_of row.path) ≡ length (text_of (folder ++ rest_of folder row.path)) =
    ap (λ (p : Path). length (text_of p)) parts in
    let front = shorter_front folder (rest_of folder row.path) in
    let short = of.short in
    record {
      normal = normal_front folder (rest_of folder row.path) (ap is_normal (sym parts) ∙ of.normal);
      short = omega (arith, size, front, short);
    }

-- ---- sites
folder_or_all : (folder : Path) (all rows : List Row) → AllByRecursion (IsRowOf all) rows
    → IsFolder folder ⊎ (rows_outside folder rows ≡ rows)
folder_or_all folder all [] each = inr refl
folder_or_all folder all (row ∷ rows) each = by (is_below row.path folder) refl (folder_or_all folder all rows each.1)
  where
    by : (b : Bool) → is_below row.path folder ≡ b → IsFolder folder ⊎ (rows_outside folder rows ≡ rows)
        → IsFolder folder ⊎ (rows_outside folder (row ∷ rows) ≡ row ∷ rows)
    by true below more = inl (above_row folder all row each.0 below)
    by false below (inl is) = inl is
    by false below (inr same) = inr
        (ap (λ c. cond (not c) (row ∷ rows_outside folder rows) (rows_outside folder rows)) below ∙ ap (λ (rs : List Row). row ∷ rs) same)

same_site : (folder : Path) (site other : Site) → AgreeOutside folder site other → other.rows ≡ site.rows → other ≡ site
same_site folder site other agree rows =
    ap (λ uid. site_with uid other.user_namespaces other.systemd other.io_uring other.rows other.users other.groups) agree.dynamic_uid
    ∙ ap (λ spaces. site_with site.dynamic_uid spaces other.systemd other.io_uring other.rows other.users other.groups) agree.spaces
    ∙ ap (λ systemd. site_with site.dynamic_uid site.user_namespaces systemd other.io_uring other.rows other.users other.groups)
    agree.systemd
    ∙ ap (λ io_uring. site_with site.dynamic_uid site.user_namespaces site.systemd io_uring other.rows other.users other.groups)
    agree.io_uring
    ∙ ap (λ (rs : List Row). site_with site.dynamic_uid site.user_namespaces site.systemd site.io_uring rs other.users other.groups) rows
    ∙ ap (λ (users : List User). site_with site.dynamic_uid site.user_namespaces site.systemd site.io_uring site.rows users other.groups)
    agree.users
    ∙ ap (λ (groups : List Group). site_with site.dynamic_uid site.user_namespaces site.systemd site.io_uring site.rows site.users groups)
    agree.groups

pub folder_or_same : (folder : Path) (site other : Site) → IsSite site → IsSite other → AgreeOutside folder site other
    → IsFolder folder ⊎ (other ≡ site)
folder_or_same folder site other is_site is_other agree =
    by (folder_or_all folder site.rows site.rows is_site.each_row) (folder_or_all folder other.rows other.rows is_other.each_row)
  where
    by : IsFolder folder ⊎ (rows_outside folder site.rows ≡ site.rows) → IsFolder folder ⊎ (rows_outside folder other.rows ≡ other.rows)
        → IsFolder folder ⊎ (other ≡ site)
    by (inl is) there = inl is
    by (inr here) (inl is) = inl is
    by (inr here) (inr there) = inr (same_site folder site other agree (sym there ∙ agree.rows ∙ here))
