-- Paths are compared by their texts.
use Rattle.std.proofs.Common.{◌≡◌, true, refl, sym, ap, ◌∙◌, subst}
use Rattle.std.specs.Prelude.{◌||◌, codes}
use Rattle.std.specs.Str.{bytes_eq}
use Rattle.abs_path.specs.Paths.{Path, tail_of, is_normal, proc}
use Rattle.abs_path.specs.Prefix.{is_same}
use Rattle.abs_path.proofs.Prefixes.{same_part, part_itself, same_path, same_itself}
use Rattle.abs_path.proofs.Texts.{same_tail}
use Rattle.site_table.proofs.SeenTexts.{same_test, bytes_eq-swap}
use Rattle.site_table.specs.Paths.{root}
use Rattle.site_table.specs.Rows.{is_always_dir}
use Rattle.site_table.specs.RowSteps.{is_always_dir_text}

-- normal paths are equal if their texts are
pub same_texts : (path own : Path) → is_normal path ≡ true → is_normal own ≡ true → bytes_eq (tail_of path) (tail_of own) ≡ is_same own path
same_texts path own h g = same_test (bytes_eq (tail_of path) (tail_of own)) (is_same own path)
    (λ e. subst (λ (p : Path). is_same own p ≡ true) (same_tail own path g h (sym (same_part (tail_of path) (tail_of own) e)))
    (same_itself own))
    (λ e. part_itself (tail_of path) (tail_of own) (ap tail_of (sym (same_path own path e))))

pub same_texts_of : (path own : Path) → is_normal path ≡ true → is_normal own ≡ true
    → bytes_eq (tail_of path) (tail_of own) ≡ is_same path own
same_texts_of path own h g = bytes_eq-swap (tail_of path) (tail_of own) ∙ same_texts own path g h

-- `/` and `/proc` by their texts
pub always_by_text : (path : Path) → is_normal path ≡ true → is_always_dir_text (tail_of path) ≡ is_always_dir path
always_by_text path normal =
    ap (λ b. b || bytes_eq (tail_of path) (codes "/proc")) (same_texts_of path root normal refl)
    ∙ ap (λ b. is_same path root || b) (same_texts_of path proc normal refl)
