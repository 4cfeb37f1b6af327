-- Rows may follow their folders.
use Rattle.std.proofs.Common.{◌≡◌, ℕ, ◌+◌, Bool, true, false, cond, List, [], ◌∷◌, take, drop, Option, Some, None, refl, sym, ap, ◌∙◌}
use Rattle.std.proofs.Common.{subst}
use Rattle.std.specs.Prelude.{◌||◌, ◌&&◌, not, option_map}
use Rattle.std.specs.List.{AllByRecursion}
use Rattle.std.specs.Option.{option_map_or}
use Rattle.std.specs.Str.{bytes_eq}
use Rattle.std.proofs.lemmas.Bool.{false≢true}
use Rattle.std.proofs.lemmas.List.{take-append-drop}
use Rattle.std.proofs.lemmas.List.Folds.{list_any-append}
use Rattle.toml.specs.Data.{Data}
use Rattle.abs_path.specs.Paths.{Path, tail_of}
use Rattle.site_table.specs.declared.row.Row.{Row}
use Rattle.site_table.specs.declared.error.RowCause.TheVariants.{Duplicate, NoParent}
use Rattle.site_table.specs.Kinds.{is_dir}
use Rattle.site_table.specs.Paths.{parent_of}
use Rattle.site_table.specs.Rows.{path_of, kind_of, own_causes, first_of, row_of}
use Rattle.site_table.specs.RowSteps.{stands_in, stands_behind, is_always_dir_text, is_folder_at, has_folder, has_dir_row, PlacesBehind}
use Rattle.site_table.specs.Order.{has_row}
use Rattle.site_table.specs.Texts.{has_text}
use Rattle.site_table.proofs.Faults.{StandsAt}
use Rattle.site_table.proofs.Placing.{all_placed}
use Rattle.site_table.proofs.RowsRead.{KnowsFolders, RowsPlaced, has_path, row_more}
use Rattle.site_table.proofs.Said.{is_right, kind_is}

-- the texts of the paths of the listed directories
abbrev listed_texts : List Data → List (List ℕ)
listed_texts [] = []
listed_texts (row ∷ rows) = cond (option_map_or is_dir (kind_of row) false)
    (option_map_or (λ path. tail_of path ∷ listed_texts rows) (path_of row) (listed_texts rows)) (listed_texts rows)

has_listed : (rows : List Data) (text : List ℕ) → has_text (listed_texts rows) text ≡ has_folder rows text
has_listed [] text = refl
has_listed (row ∷ rows) text = by (option_map_or is_dir (kind_of row) false) (path_of row) (has_listed rows text)
  where
    by : (dir : Bool) (own : Option Path) → has_text (listed_texts rows) text ≡ has_folder rows text
        → has_text (cond dir (option_map_or (λ path. tail_of path ∷ listed_texts rows) own (listed_texts rows)) (listed_texts rows)) text
        ≡ ((dir && option_map_or (λ path. bytes_eq text (tail_of path)) own false) || has_folder rows text)
    by true None e = e
    by true (Some path) e = ap (λ b. bytes_eq text (tail_of path) || b) e
    by false own e = e

knows_listed : (rows : List Data) → KnowsFolders rows (listed_texts rows)
knows_listed rows = record { knows = has_listed rows }

-- if the row is a directory, a directory of its path is listed
abbrev pub IsListed : List Data → Row → Type 0
IsListed rows row = (text : List ℕ) → (is_dir row.kind && bytes_eq text (tail_of row.path)) ≡ true → has_folder rows text ≡ true

-- the first i rows are in order, none has a fault, and their directories are listed
pub record RowsBehind (rows : List Data) (i : ℕ) (ordered : List Row) : Type 0 where
  pub placed : RowsPlaced rows i ordered
  pub dirs : AllByRecursion (IsListed rows) ordered

either : (b c d : Bool) → (b ≡ true → d ≡ true) → (c ≡ true → d ≡ true) → (b || c) ≡ true → d ≡ true
either true c d f g h = f refl
either false c d f g h = g h

dir_listed : (rows : List Data) (ordered : List Row) (text : List ℕ) → AllByRecursion (IsListed rows) ordered
    → has_dir_row ordered text ≡ true → has_folder rows text ≡ true
dir_listed rows [] text all h = absurd (false≢true h)
dir_listed rows (row ∷ ordered) text all h = either (is_dir row.kind && bytes_eq text (tail_of row.path)) (has_dir_row ordered text)
    (has_folder rows text) (all.0 text) (dir_listed rows ordered text all.1) h

or_middle : (b c d : Bool) → c ≡ true → (b || (c || d)) ≡ true
or_middle true c d h = refl
or_middle false true d h = refl
or_middle false false d h = absurd (false≢true h)

-- a row of the list is listed
is_listed : (rows : List Data) (i : ℕ) (row : Data) → StandsAt rows i row → first_of (own_causes row) ≡ None → IsListed rows (row_of row)
is_listed rows i row at own = λ text dir.
    let kind = (kind_is row (is_right row own)).0 in
    let here : is_folder_at text row ≡ true =
    ap (λ found. option_map_or is_dir found false && option_map_or (λ path. bytes_eq text (tail_of path)) (path_of row) false) kind
    ∙ ap (λ found. is_dir (row_of row).kind && option_map_or (λ path. bytes_eq text (tail_of path)) found false) (has_path row own) ∙ dir in
    ap (λ all. has_folder all text) (sym (take-append-drop i rows)) ∙ list_any-append (is_folder_at text) (take i rows) (drop i rows)
    ∙ ap (λ rest. has_folder (take i rows) text || has_folder rest text) at.after
    ∙ or_middle (has_folder (take i rows) text) (is_folder_at text row) (has_folder (drop (i + 1) rows) text) here

or_into : (a b c : Bool) → (b ≡ true → c ≡ true) → (a || b) ≡ true → (a || c) ≡ true
or_into true b c f h = refl
or_into false b c f h = f h

-- a folder among the rows is a listed one
stands_listed : (rows : List Data) (ordered : List Row) (path : Path) → AllByRecursion (IsListed rows) ordered
    → stands_behind ordered path ≡ true → stands_in (listed_texts rows) path ≡ true
stands_listed rows ordered path all h = by (option_map tail_of (parent_of path)) h
  where
    by : (parent : Option (List ℕ)) → option_map_or (λ text. is_always_dir_text text || has_dir_row ordered text) parent true ≡ true
        → option_map_or (λ text. is_always_dir_text text || has_text (listed_texts rows) text) parent true ≡ true
    by None h = refl
    by (Some text) h = or_into (is_always_dir_text text) (has_dir_row ordered text) (has_text (listed_texts rows) text)
        (λ found. has_listed rows text ∙ dir_listed rows ordered text all found) h

none_applies : (double stands : Bool) → double ≡ false → stands ≡ true → first_of ((double, Duplicate) ∷ (not stands, NoParent) ∷ []) ≡ None
none_applies true stands h g = absurd (false≢true (sym h))
none_applies false true h g = refl
none_applies false false h g = absurd (false≢true g)

pub behind_none : (rows : List Data) (ordered : List Row) → ordered ≡ [] → RowsPlaced rows 0 ordered → RowsBehind rows 0 ordered
behind_none rows ordered none placed = record { placed = placed; dirs = subst (AllByRecursion (IsListed rows)) (sym none) tt }

-- one more row
pub behind_more : (rows : List Data) (i : ℕ) (ordered : List Row) (row : Data) (placed : List Row) → RowsBehind rows i ordered
    → StandsAt rows i row → PlacesBehind ordered row placed → RowsBehind rows (i + 1) placed
behind_more rows i ordered row placed so_far at places = record {
  placed = row_more rows (listed_texts rows) i ordered row (row_of row) placed (knows_listed rows) so_far.placed at (places.0, refl)
      (none_applies (has_row ordered (row_of row).path) (stands_in (listed_texts rows) (row_of row).path) places.2 (stands_listed rows ordered (row_of row).path so_far.dirs places.3), places.1);
  dirs = subst (AllByRecursion (IsListed rows)) (sym places.1)
      (all_placed (IsListed rows) (row_of row) ordered (is_listed rows i row at places.0) so_far.dirs);
}
