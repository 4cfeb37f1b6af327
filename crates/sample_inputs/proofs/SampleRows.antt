-- The site that is read has the rows of the sample.
use Rattle.std.proofs.Common.{◌≡◌, ℕ, zero, suc, ◌+◌, ◌<◌, ◌≤◌, cond, Option, Some, None, Ok, unwrap_or, List, [], ◌∷◌, codes, inl, inr}
use Rattle.std.proofs.Common.{refl, sym, ap, ◌∙◌, subst, arith}
use Rattle.std.specs.Prelude.{flat_map}
use Rattle.std.specs.List.{Contains}
use Rattle.std.proofs.lemmas.Bool.{cases_eq}
use Rattle.std.proofs.lemmas.List.Elements.{Contains-append_left, Contains-append_right}
use Rattle.std.specs.Str.{IsUtf8}
use Rattle.std.proofs.lemmas.Str.{is_utf8-from_IsUtf8}
use Rattle.toml.specs.Parse.{parse_document}
use Rattle.launcher.specs.abs_path.Paths.{Path}
use Rattle.toml.specs.Data.{Data, table}
use Rattle.launcher.specs.site_table.Exact.{AreExactly}
use Rattle.launcher.specs.site_table.Order.{plain_dir}
use Rattle.launcher.specs.site_table.Paths.{root}
use Rattle.launcher.specs.site_table.Reading.{rows_in, site_in, site_of, site_of_tree, tree_of}
use Rattle.launcher.specs.site_table.Rows.{path_of, row_of}
use Rattle.launcher.specs.site_table.Table.{Site}
use Rattle.launcher.proofs.OfSiteTable.Exact.{exact_rows}
use Rattle.sample_inputs.specs.Facts.{HasSampleRows, program, folder}
use Rattle.sample_inputs.specs.Site.{numbers_from, folder_path, dir_row, exe_row, folder_rows, site_rows, site_tree}
use Rattle.sample_inputs.proofs.PathTexts.{folder_reads}
use Rattle.sample_inputs.proofs.SiteRead.{same_elements, site_reads}

folder_among : (n k first count : ℕ) → first ≤ k → k < first + count
    → Contains (flat_map (folder_rows n) (numbers_from first count)) (dir_row (folder_path k))
folder_among n k first zero above below = absurd (omega arith)
folder_among n k first (suc count) above below =
    elim (cases_eq first k) [
      | inl same ↦ Contains-append_left (folder_rows n first) (flat_map (folder_rows n) (numbers_from (first + 1) count))
          (dir_row (folder_path k))
          (subst (λ (at : ℕ). Contains (folder_rows n at) (dir_row (folder_path k))) (sym same) (0, omega arith, refl))
      | inr other ↦ Contains-append_right (folder_rows n first) (flat_map (folder_rows n) (numbers_from (first + 1) count))
          (dir_row (folder_path k))
          (folder_among n k (first + 1) count (omega arith) (omega arith))
    ]

folder_listed : (n k : ℕ) → k < 16 → Contains (site_rows n) (dir_row (folder_path k))
unfolding site_rows
folder_listed n k low =
    Contains-append_right (dir_row (codes "/usr") ∷ dir_row (codes "/usr/bin") ∷ exe_row (codes "/usr/bin/app") ∷ [])
    (flat_map (folder_rows n) (numbers_from 0 16)) (dir_row (folder_path k))
    (folder_among n k 0 16 (omega arith) (omega arith))

program_listed : (n : ℕ) → Contains (site_rows n) (exe_row (codes "/usr/bin/app"))
unfolding site_rows
program_listed n =
    Contains-append_left (dir_row (codes "/usr") ∷ dir_row (codes "/usr/bin") ∷ exe_row (codes "/usr/bin/app") ∷ [])
    (flat_map (folder_rows n) (numbers_from 0 16)) (exe_row (codes "/usr/bin/app"))
    (2, omega arith, refl)

in_site : (n : ℕ) (row : Data) → Contains (site_rows n) row → Contains (rows_in (table (site_tree n))) row
in_site n row h = subst (λ (rows : List Data). Contains rows row) (sym (same_elements (site_rows n))) h

dir_said : (text : List ℕ) (path : Path) → path_of (dir_row text) ≡ Some path → row_of (dir_row text) ≡ plain_dir path
dir_said text path read = ap (λ (path : Option Path). plain_dir (unwrap_or path root)) read

-- UTF-8 that is parsed as the tree is read as it, and the tree is read as a site
pub text_reads : (n : ℕ) (bytes : List ℕ) → IsUtf8 bytes → parse_document bytes ≡ Some (site_tree n) → tree_of bytes ≡ Some (site_tree n)
text_reads n bytes utf8 parsed = ap (λ utf8. cond utf8 (parse_document bytes) None) (is_utf8-from_IsUtf8 bytes utf8) ∙ parsed

pub tree_reads : (n : ℕ) (bytes : List ℕ) → tree_of bytes ≡ Some (site_tree n) → site_of bytes ≡ Ok (site_in (table (site_tree n)))
tree_reads n bytes tree = ap site_of_tree tree ∙ site_reads n

pub sample_rows : (n : ℕ) (text : List ℕ) (site : Site) → tree_of text ≡ Some (site_tree n) → site_of text ≡ Ok site → HasSampleRows site
sample_rows n text site tree read =
    let exact : AreExactly (rows_in (table (site_tree n))) site.rows = exact_rows text (site_tree n) site tree read in
    let wanted : site_of text ≡ Ok (site_in (table (site_tree n))) = tree_reads n text tree in
    let said : site ≡ site_in (table (site_tree n)) = cc in
    record {
      dynamic_uid = ap (λ (site : Site). site.dynamic_uid) said;
      systemd = ap (λ (site : Site). site.systemd) said;
      folders = λ k low. exact.as_listed (dir_row (folder_path k)) (folder k)
          (in_site n (dir_row (folder_path k)) (folder_listed n k low)) (folder_reads k low)
          ∙ ap Some (dir_said (folder_path k) (folder k) (folder_reads k low));
      program = exact.as_listed (exe_row (codes "/usr/bin/app")) program
          (in_site n (exe_row (codes "/usr/bin/app")) (program_listed n)) refl;
      users = ap (λ site. site.users) said;
      groups = ap (λ site. site.groups) said;
    }
