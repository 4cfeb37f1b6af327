-- Properties of the paths at which a site has a row.
use Rattle.std.proofs.Common.{◌≡◌, ◌≤◌, Bool, true, [], ◌∷◌, length, Option, Some, None, option_map, refl, ap, subst, arith}
use Rattle.path_settings.specs.abs_path.Paths.{Path, tail_of, text_of, proc}
use Rattle.path_settings.specs.abs_path.Prefix.{is_same}
use Rattle.path_settings.proofs.OfAbsPath.Prefixes.{same_path}
use Rattle.site_table.specs.declared.row.Row.{Row}
use Rattle.site_table.specs.Kinds.{is_dir}
use Rattle.site_table.specs.Table.{Site, IsSite, IsRowOf, row_at}
use Rattle.path_settings.specs.view_map.Kept.{Host}
use Rattle.path_settings.proofs.ViewMapLists.{find_is, find_passes}
use Rattle.mount_plan.specs.Host.{host_of}

-- the paths at which the host has an object are short
abbrev pub AreShortRows : Host → Type 0
AreShortRows row_at = (path : Path) (is_dir : Bool) → row_at path ≡ Some is_dir → length (tail_of path) ≤ 512

pub tail_in_text : (path : Path) → length (tail_of path) ≤ length (text_of path)
tail_in_text [] = omega arith
tail_in_text (part ∷ path) = omega arith

pub short_rows : (site : Site) → IsSite site → AreShortRows (host_of site)
short_rows site holds path is_dir' e = by (row_at site.rows path) refl e
  where
    by : (o : Option Row) → row_at site.rows path ≡ o → option_map is_dir (option_map (λ row. row.kind) o) ≡ Some is_dir'
        → length (tail_of path) ≤ 512
    by None found e = absurd (cc)
    by (Some row) found e =
        let own = find_is (IsRowOf site.rows) (λ row. is_same row.path path) site.rows row holds.each_row found in
        let same = same_path row.path path (find_passes (λ row. is_same row.path path) site.rows row found) in
        subst (λ (p : Path). length (tail_of p) ≤ 512) same (omega (arith, own.short, tail_in_text row.path))

pub proc_row : (site : Site) → IsSite site → host_of site proc ≡ Some true
proc_row site holds = ap (option_map is_dir) holds.proc
