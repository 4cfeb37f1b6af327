-- The paths of a site's rows: what their texts are read as.
use Rattle.std.proofs.Common.{◌≡◌, ℕ, ◌<◌, ◌≤◌, ◌&&◌, Bool, true, cond, nat_le, Option, Some, None, [], ◌∷◌, ◌++◌, length, is_none, refl}
use Rattle.std.proofs.Common.{sym, ap, ◌∙◌, arith, le-leb, append-nil, append_assoc, length-append}
use Rattle.std.specs.Fmt.{decimal}
use Rattle.launcher.specs.abs_path.Paths.{Path, text_of, parts_of, is_normal, is_part}
use Rattle.launcher.specs.abs_path.declared.error.PathError.{PathError}
use Rattle.launcher.proofs.OfAbsPath.Reading.{text_parts, text_no_fault}
use Rattle.launcher.specs.site_table.Paths.{short_path}
use Rattle.sample_inputs.specs.Site.{folder_name, object_name, folder_path, object_path}
use Rattle.sample_inputs.proofs.Names.{folder_named, object_named}

-- a short path by the fault of its text and the parts of it
abbrev short_by : Option PathError → Path → Option Path
short_by fault path = cond (is_none fault && nat_le (length (text_of path)) 250) (Some path) None

reads : (path : Path) → is_normal path ≡ true → length (text_of path) ≤ 250 → short_path (text_of path) ≡ Some path
reads path normal short =
    ap (λ fault. short_by fault (parts_of (text_of path))) (text_no_fault path normal (omega arith))
    ∙ ap (short_by None) (text_parts path normal)
    ∙ ap (λ fits. cond fits (Some path) None) (le-leb (length (text_of path)) 250 short)

two_true : (a b : Bool) → a ≡ true → b ≡ true → (a && b) ≡ true
two_true a b h k = cc

-- the text of an object's path, as it is printed
pub object_text : (k j : ℕ) → 47 ∷ 100 ∷ (decimal k ++ (47 ∷ 102 ∷ decimal j)) ≡ object_path k j
object_text k j = ap (λ text. 47 ∷ 100 ∷ text) (sym (append_assoc (decimal k) (47 ∷ []) (102 ∷ decimal j)))

-- the path of a folder, and of an object in it
pub folder_reads : (k : ℕ) → k < 16 → short_path (folder_path k) ≡ Some (folder_name k ∷ [])
folder_reads k low =
    let named = folder_named k low in
    let written : text_of (folder_name k ∷ []) ≡ folder_path k = ap (λ text. 47 ∷ 100 ∷ text) (append-nil (decimal k)) in
    let short : length (text_of (folder_name k ∷ [])) ≤ 250 = omega (arith, ap length written, named.short) in
    ap short_path (sym written) ∙ reads (folder_name k ∷ []) (two_true (is_part (folder_name k)) true named.part refl) short

pub object_reads : (k j : ℕ) → k < 16 → j < 64 → short_path (object_path k j) ≡ Some (folder_name k ∷ object_name j ∷ [])
object_reads k j low small =
    let folder = folder_named k low in
    let object = object_named j small in
    let written : text_of (folder_name k ∷ object_name j ∷ []) ≡ object_path k j =
    ap (λ text. 47 ∷ 100 ∷ (decimal k ++ (47 ∷ 102 ∷ text))) (append-nil (decimal j))
    ∙ object_text k j in
    let short : length (text_of (folder_name k ∷ object_name j ∷ [])) ≤ 250 =
    omega (arith, length-append (47 ∷ folder_name k) ((47 ∷ object_name j) ++ []), length-append (47 ∷ object_name j) [], folder.short, object.short) in
    ap short_path (sym written)
    ∙ reads (folder_name k ∷ object_name j ∷ [])
    (two_true (is_part (folder_name k)) _ folder.part (two_true (is_part (object_name j)) true object.part refl)) short
