-- Rows have been read and placed.
use Rattle.std.proofs.Common.{◌≡◌, ℕ, ◌+◌, ◌≤◌, Bool, true, false, List, [], ◌∷◌, ◌++◌, length, take, drop, map, Option, Some, None, Result}
use Rattle.std.proofs.Common.{Ok, Err, refl, sym, ap, ◌∙◌, subst}
use Rattle.std.specs.Prelude.{◌||◌, ◌&&◌, not, is_none, option_map, option_and_then, unwrap_or}
use Rattle.std.specs.List.{list_any, AllByRecursion}
use Rattle.std.specs.Option.{option_map_or}
use Rattle.std.specs.Str.{bytes_eq}
use Rattle.std.proofs.lemmas.Bool.{false≢true}
use Rattle.std.proofs.lemmas.List.{take_all}
use Rattle.std.proofs.lemmas.List.Folds.{list_any-append}
use Rattle.std.proofs.lemmas.List.Sums.{fold-append}
use Rattle.toml.specs.Data.{Data}
use Rattle.abs_path.specs.Paths.{Path, tail_of, is_normal}
use Rattle.abs_path.specs.Prefix.{is_same}
use Rattle.site_table.specs.declared.row.Row.{Row}
use Rattle.site_table.specs.declared.error.RowCause.{RowCause}
use Rattle.site_table.specs.declared.error.RowCause.TheVariants.{Key, Path as BadPath, Duplicate, NoParent}
use Rattle.site_table.specs.declared.error.SiteError.{SiteError}
use Rattle.site_table.specs.declared.error.SiteError.TheVariants.{NotToml, Top, TooMany, Row as BadRow, User as BadUser, Group as BadGroup}
use Rattle.site_table.specs.declared.error.SiteError.TheVariants.{Memory}
use Rattle.site_table.specs.Kinds.{is_dir}
use Rattle.toml_shapes.specs.Keys.{has_keys}
use Rattle.site_table.specs.Keys.{row_keys}
use Rattle.site_table.specs.Paths.{parent_of, root}
use Rattle.site_table.specs.Rows.{path_of, kind_of, is_row_at, is_duplicate, is_dir_at, is_folder, is_always_dir, has_parent, own_causes}
use Rattle.site_table.specs.Rows.{place_causes, first_of, cause_of, row_of}
use Rattle.site_table.specs.RowSteps.{IsRefused, SaysRow, Places, stands_in, causes_among, is_always_dir_text, is_folder_at, has_folder}
use Rattle.site_table.specs.RowSteps.{TakesFolder}
use Rattle.site_table.specs.Order.{has_row, row_placed, rows_in_order}
use Rattle.site_table.specs.Table.{AreNormal}
use Rattle.site_table.specs.Texts.{has_text}
use Rattle.site_table.specs.Reading.{row_faults, unless_fault, IsUnlessMemory}
use Rattle.site_table.proofs.Faults.{Fault, faults_from, StandsAt, faultless_more, fault_found, faultless}
use Rattle.site_table.proofs.Answering.{no_faults, all_faultless}
use Rattle.site_table.proofs.Causes.{first_of-append, first_of-found, first_of-none}
use Rattle.site_table.proofs.Ordered.{same_texts, always_by_text}
use Rattle.site_table.proofs.PathsRead.{path_is, parent_normal}
use Rattle.site_table.proofs.Placing.{all_placed, has_placed}

abbrev pub row_fault : List Data → Fault
row_fault rows number before row = option_map (BadRow number) (cause_of rows before row)

-- the texts of the paths of all listed directories
pub record KnowsFolders (rows : List Data) (folders : List (List ℕ)) : Type 0 where
  pub knows : (text : List ℕ) → has_text folders text ≡ has_folder rows text

-- the first i rows are in order, and none has a fault
pub record RowsPlaced (rows : List Data) (i : ℕ) (ordered : List Row) : Type 0 where
  pub faultless : faults_from (row_fault rows) rows i ≡ row_faults rows
  pub said : ordered ≡ rows_in_order (map row_of (take i rows))
  pub normal : AreNormal ordered
  pub holds : (path : Path) → has_row ordered path ≡ list_any (is_row_at path) (take i rows)

-- a row without a fault of its own has its path
pub has_path : (row : Data) → first_of (own_causes row) ≡ None → path_of row ≡ Some (row_of row).path
has_path row h = by (path_of row)
    (first_of-none (is_none (path_of row)) BadPath (drop 2 (own_causes row))
    (first_of-none (not (has_keys row_keys row)) Key (drop 1 (own_causes row)) h).1).0
  where
    by : (path : Option Path) → is_none path ≡ false → path ≡ Some (unwrap_or path root)
    by None e = absurd (false≢true (sym e))
    by (Some path) e = refl

-- the listed directory of a path, by the text of the path
folder_by_text : (row : Data) (path : Path) → is_normal path ≡ true → is_folder_at (tail_of path) row ≡ is_dir_at path row
folder_by_text row path normal = by (path_of row) refl (option_map_or is_dir (kind_of row) false)
  where
    by : (own : Option Path) → path_of row ≡ own → (dir : Bool)
        → (dir && option_map_or (λ p. bytes_eq (tail_of path) (tail_of p)) own false)
        ≡ (option_map_or (λ p. is_same p path) own false && dir)
    by None e true = refl
    by None e false = refl
    by (Some own) e true = same_texts path own normal (path_is row own e).0 ∙ and_true (is_same own path)
      where
        and_true : (b : Bool) → b ≡ (b && true)
        and_true true = refl
        and_true false = refl
    by (Some own) e false = and_false (is_same own path)
      where
        and_false : (b : Bool) → false ≡ (b && false)
        and_false true = refl
        and_false false = refl

folders_by_text : (rows : List Data) (path : Path) → is_normal path ≡ true → has_folder rows (tail_of path) ≡ list_any (is_dir_at path) rows
folders_by_text [] path normal = refl
folders_by_text (row ∷ rows) path normal =
    ap (λ b. b || has_folder rows (tail_of path)) (folder_by_text row path normal)
    ∙ ap (λ b. is_dir_at path row || b) (folders_by_text rows path normal)

stands_by_text : (rows : List Data) (folders : List (List ℕ)) (path : Path) → is_normal path ≡ true → KnowsFolders rows folders
    → stands_in folders path ≡ option_map_or (is_folder rows) (parent_of path) true
stands_by_text rows folders path normal knows = by (parent_of path) refl
  where
    by : (parent : Option Path) → parent_of path ≡ parent
        → option_map_or (λ text. is_always_dir_text text || has_text folders text) (option_map tail_of parent) true
        ≡ option_map_or (is_folder rows) parent true
    by None e = refl
    by (Some parent) e =
        let clean = parent_normal path parent normal e in
        ap (λ b. b || has_text folders (tail_of parent)) (always_by_text parent clean)
        ∙ ap (λ b. is_always_dir parent || b) (knows.knows (tail_of parent) ∙ folders_by_text rows parent clean)

-- the faults of a row's place agree with the definition
places_are : (rows : List Data) (folders : List (List ℕ)) (i : ℕ) (ordered : List Row) (row : Data) (path : Path)
    → KnowsFolders rows folders → RowsPlaced rows i ordered → path_of row ≡ Some path
    → causes_among folders ordered path ≡ place_causes rows (take i rows) row
places_are rows folders i ordered row path knows so_far here =
    let normal = (path_is row path here).0 in
    let double : has_row ordered path ≡ is_duplicate (take i rows) row =
    so_far.holds path ∙ ap (λ found. option_map_or (λ p. list_any (is_row_at p) (take i rows)) found false) (sym here) in
    let stands : stands_in folders path ≡ has_parent rows row =
    stands_by_text rows folders path normal knows ∙ ap (λ found. option_map_or (is_folder rows) (option_and_then parent_of found) true) (sym here) in
    ap (λ b. (b, Duplicate) ∷ (not (stands_in folders path), NoParent) ∷ []) double
    ∙ ap (λ b. (is_duplicate (take i rows) row, Duplicate) ∷ (not b, NoParent) ∷ []) stands

or_last : (b c d : Bool) → b ≡ c → (d || b) ≡ (c || (d || false))
or_last true true d e = by d
  where
    by : (d : Bool) → (d || true) ≡ (true || (d || false))
    by true = refl
    by false = refl
or_last true false d e = absurd (false≢true (sym e))
or_last false true d e = absurd (false≢true e)
or_last false false d e = by d
  where
    by : (d : Bool) → (d || false) ≡ (false || (d || false))
    by true = refl
    by false = refl

map-append : {X Y : Type 0} (f : X → Y) (xs ys : List X) → map f (xs ++ ys) ≡ map f xs ++ map f ys
map-append f [] ys = refl
map-append f (x ∷ xs) ys = ap (λ rest. f x ∷ rest) (map-append f xs ys)

pub rows_none : (rows : List Data) (ordered : List Row) → ordered ≡ [] → RowsPlaced rows 0 ordered
rows_none rows ordered none = record {
  faultless = refl;
  said = none;
  normal = subst AreNormal (sym none) tt;
  holds = λ path. ap (λ xs. has_row xs path) none;
}

module _ (rows : List Data) (folders : List (List ℕ)) (i : ℕ) (ordered : List Row) (row : Data) (said : Row) where
  pub row_more : (placed : List Row) → KnowsFolders rows folders → RowsPlaced rows i ordered → StandsAt rows i row
      → (first_of (own_causes row) ≡ None) × (said ≡ row_of row)
      → (first_of (causes_among folders ordered said.path) ≡ None) × (placed ≡ row_placed said ordered)
      → RowsPlaced rows (i + 1) placed
  row_more placed knows so_far at own place =
      let here : path_of row ≡ Some said.path = has_path row own.0 ∙ ap (λ (r : Row). Some r.path) (sym own.1) in
      let normal = (path_is row said.path here).0 in
      let none : cause_of rows (take i rows) row ≡ None =
      first_of-append (own_causes row) (place_causes rows (take i rows) row) own.0 ∙ ap first_of (sym (places_are rows folders i ordered row said.path knows so_far here)) ∙ place.0 in
      record {
        faultless = faultless_more (row_fault rows) rows i row at (ap (option_map (BadRow (i + 1))) none) so_far.faultless;
        said = place.1 ∙ ap (row_placed said) so_far.said ∙ ap (λ r. row_placed r (rows_in_order (map row_of (take i rows)))) own.1
            ∙ sym (fold-append (λ sorted row. row_placed row sorted) [] (map row_of (take i rows)) (row_of row ∷ []))
            ∙ ap rows_in_order (sym (map-append row_of (take i rows) (row ∷ [])) ∙ ap (map row_of) (sym at.before));
        normal = subst AreNormal (sym place.1) (all_placed (λ r. is_normal r.path ≡ true) said ordered normal so_far.normal);
        holds = λ path. ap (λ xs. has_row xs path) place.1 ∙ has_placed said ordered path normal so_far.normal
            ∙ ap (λ b. b || has_row ordered path) (ap (λ found. option_map_or (λ own. is_same own path) found false) (sym here))
            ∙ or_last (has_row ordered path) (list_any (is_row_at path) (take i rows)) (is_row_at path row) (so_far.holds path)
            ∙ sym (list_any-append (is_row_at path) (take i rows) (row ∷ [])) ∙ ap (list_any (is_row_at path)) (sym at.before);
      }

  -- a fault is found after rows without faults
  found : {V : Type 0} (answer : V) (cause : RowCause) → RowsPlaced rows i ordered → StandsAt rows i row
      → cause_of rows (take i rows) row ≡ Some cause
      → unless_fault (row_faults rows) answer ≡ Err (BadRow (i + 1) cause)
  found answer cause so_far at e = fault_found (row_fault rows) rows i row (BadRow (i + 1) cause) answer at
      (ap (option_map (BadRow (i + 1))) e) so_far.faultless

  refused : {T V : Type 0} (see : T → V) (wanted : Result V SiteError) (cause : Option RowCause) (error : SiteError)
      → IsRefused (i + 1) cause error
      → ((why : RowCause) → cause ≡ Some why → wanted ≡ Err (BadRow (i + 1) why)) → IsUnlessMemory see (Err error) wanted
  refused see wanted cause Memory h g = tt
  refused see wanted cause NotToml h g = absurd h
  refused see wanted cause Top h g = absurd h
  refused see wanted cause TooMany h g = absurd h
  refused see wanted cause (BadRow told why) h g = g why h.1 ∙ ap (λ n. Err (BadRow n why)) (sym h.0)
  refused see wanted cause (BadUser told) h g = absurd h
  refused see wanted cause (BadGroup told) h g = absurd h

  pub row_stops : {T V : Type 0} (see : T → V) (answer : V) (error : SiteError) → RowsPlaced rows i ordered → StandsAt rows i row
      → SaysRow (i + 1) row (Err error)
      → IsUnlessMemory see (Err error) (unless_fault (row_faults rows) answer)
  row_stops see answer error so_far at h =
      refused see (unless_fault (row_faults rows) answer) (first_of (own_causes row)) error h
      (λ why e. found answer why so_far at (first_of-found (own_causes row) (place_causes rows (take i rows) row) why e))

  pub place_stops : {T V : Type 0} (see : T → V) (answer : V) (error : SiteError) (placed : List Row) → KnowsFolders rows folders
      → RowsPlaced rows i ordered → StandsAt rows i row
      → (first_of (own_causes row) ≡ None) × (said ≡ row_of row) → Places (i + 1) folders ordered said placed (Err error)
      → IsUnlessMemory see (Err error) (unless_fault (row_faults rows) answer)
  place_stops see answer error placed knows so_far at own h =
      let here : path_of row ≡ Some said.path = has_path row own.0 ∙ ap (λ (r : Row). Some r.path) (sym own.1) in
      refused see (unless_fault (row_faults rows) answer) (first_of (causes_among folders ordered said.path)) error h
      (λ why e. found answer why so_far at
      (first_of-append (own_causes row) (place_causes rows (take i rows) row) own.0
      ∙ ap first_of (sym (places_are rows folders i ordered row said.path knows so_far here)) ∙ e))

pub rows_all : (rows : List Data) (i : ℕ) (ordered : List Row) → RowsPlaced rows i ordered → length rows ≤ i
    → unless_fault (row_faults rows) (rows_in_order (map row_of rows)) ≡ Ok ordered
rows_all rows i ordered so_far end =
    faultless (row_fault rows) rows i (rows_in_order (map row_of rows)) end so_far.faultless
    ∙ ap Ok (ap (λ xs. rows_in_order (map row_of xs)) (sym (take_all i rows end)) ∙ sym so_far.said)

-- the listed directories of the first rows, and of one more
pub folders_more : (rows : List Data) (i : ℕ) (row : Data) (old new : List (List ℕ)) → StandsAt rows i row
    → ((text : List ℕ) → has_text old text ≡ has_folder (take i rows) text) → TakesFolder old row new
    → (text : List ℕ) → has_text new text ≡ has_folder (take (i + 1) rows) text
folders_more rows i row old new at so_far takes text =
    takes text ∙ or_end (has_text old text) (has_folder (take i rows) text) (is_folder_at text row) (so_far text)
    ∙ sym (list_any-append (is_folder_at text) (take i rows) (row ∷ [])) ∙ ap (list_any (is_folder_at text)) (sym at.before)
  where
    or_end : (b c d : Bool) → b ≡ c → (b || d) ≡ (c || (d || false))
    or_end true c d e = ap (λ c. c || (d || false)) e
    or_end false c true e = ap (λ c. c || (true || false)) e
    or_end false c false e = ap (λ c. c || (false || false)) e

-- ---- rows without fault

pub own_faultless : (rows before : List Data) (row : Data) → cause_of rows before row ≡ None → first_of (own_causes row) ≡ None
own_faultless rows before row h = by (first_of (own_causes row)) refl
  where
    by : (cause : Option RowCause) → first_of (own_causes row) ≡ cause → cause ≡ None
    by None e = refl
    by (Some cause) e = let found = first_of-found (own_causes row) (place_causes rows before row) cause e in absurd (cc)

pub cause_from_fault : (rows before : List Data) (number : ℕ) (row : Data) → row_fault rows number before row ≡ None
    → cause_of rows before row ≡ None
cause_from_fault rows before number row h = by (cause_of rows before row) h
  where
    by : (cause : Option RowCause) → option_map (BadRow number) cause ≡ None → cause ≡ None
    by None e = refl
    by (Some cause) e = absurd (cc)

map_all : (P : Row → Type 0) (rows : List Data) → AllByRecursion (λ row. P (row_of row)) rows → AllByRecursion P (map row_of rows)
map_all P [] h = tt
map_all P (row ∷ rows) h = (h.0, map_all P rows h.1)

-- a property of each row without a fault of its own holds of each row of the list
pub all_listed : (P : Row → Type 0) (rows : List Data) → ((row : Data) → first_of (own_causes row) ≡ None → P (row_of row))
    → row_faults rows ≡ [] → AllByRecursion P (map row_of rows)
all_listed P rows each none =
    map_all P rows (all_faultless (row_fault rows) (λ row. P (row_of row)) [] rows
    (λ number before row h. each row (own_faultless rows before row (cause_from_fault rows before number row h)))
    (no_faults (row_fault rows) rows none))

pub listed_normal : (rows : List Data) → row_faults rows ≡ [] → AreNormal (map row_of rows)
listed_normal rows none = all_listed (λ row. is_normal row.path ≡ true) rows
    (λ row own. (path_is row (row_of row).path (has_path row own)).0) none
