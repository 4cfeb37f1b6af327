-- A search finds rows among rows in byte order.
use Rattle.std.proofs.Common.{◌≡◌, ◌+◌, ◌≤◌, Bool, true, false, cond, List, [], ◌∷◌, ◌++◌, map, length, Option, Some, None, refl, sym, ap}
use Rattle.std.proofs.Common.{◌∙◌, subst, arith}
use Rattle.std.specs.Prelude.{not, filter, fold, option_map}
use Rattle.std.specs.List.{AllByRecursion}
use Rattle.std.proofs.lemmas.List.{length-append}
use Rattle.std.proofs.lemmas.Bool.{or_parts, or_from, false≢true}
use Rattle.abs_path.specs.Paths.{Path, is_normal, proc}
use Rattle.abs_path.specs.Prefix.{is_same}
use Rattle.abs_path.specs.ByteOrder.{is_before, placed, AreAscending}
use Rattle.abs_path.proofs.Prefixes.{same_path, same_itself}
use Rattle.abs_path.proofs.Placed.{in_byte_order_ascending}
use Rattle.site_table.specs.declared.row.Row.{Row}
use Rattle.site_table.specs.declared.kinds.RowKind.TheVariants.{Dir}
use Rattle.site_table.specs.Order.{has_row, row_placed, rows_in_order, plain_dir, with_fixed}
use Rattle.site_table.specs.Paths.{root}
use Rattle.site_table.specs.RowSteps.{dir_placed, fixed_placed}
use Rattle.site_table.specs.Table.{row_at, kind_at, AreNormal}
use Rattle.site_table.proofs.Placing.{one_path, all_placed, has_placed, has_in_order, normal_in_order}
use Rattle.site_table.proofs.SeenTexts.{same_test}

abbrev paths_of : List Row → List Path
paths_of rows = map (λ row. row.path) rows

pub is_same-swap : (one other : Path) → is_same one other ≡ is_same other one
is_same-swap one other = same_test (is_same one other) (is_same other one)
    (λ e. subst (λ (p : Path). is_same other p ≡ true) (sym (same_path one other e)) (same_itself other))
    (λ e. subst (λ (p : Path). is_same one p ≡ true) (sym (same_path other one e)) (same_itself one))

-- ---- byte order

pub paths-placed : (row : Row) (rows : List Row) → paths_of (row_placed row rows) ≡ placed row.path (paths_of rows)
paths-placed row [] = refl
paths-placed row (first ∷ rows) = by (is_before row.path first.path) (is_before first.path row.path) (paths-placed row rows)
  where
    by : (b c : Bool) → paths_of (row_placed row rows) ≡ placed row.path (paths_of rows)
        → paths_of (cond b (row ∷ first ∷ rows) (cond c (first ∷ row_placed row rows) (first ∷ rows)))
        ≡ cond b (row.path ∷ first.path ∷ paths_of rows)
        (cond c (first.path ∷ placed row.path (paths_of rows)) (first.path ∷ paths_of rows))
    by true c e = refl
    by false true e = ap (λ paths. first.path ∷ paths) e
    by false false e = refl

paths-folded : (sorted rows : List Row) → paths_of (fold (λ sorted row. row_placed row sorted) sorted rows)
    ≡ fold (λ sorted path. placed path sorted) (paths_of sorted) (paths_of rows)
paths-folded sorted [] = refl
paths-folded sorted (row ∷ rows) =
    paths-folded (row_placed row sorted) rows ∙ ap (λ paths. fold (λ sorted path. placed path sorted) paths (paths_of rows))
    (paths-placed row sorted)

pub rows_ascend : (rows : List Row) → AreAscending (paths_of (rows_in_order rows))
rows_ascend rows = subst AreAscending (sym (paths-folded [] rows)) (in_byte_order_ascending (paths_of rows))

-- ---- each row, and the number of rows

all_folded : (P : Row → Type 0) (sorted rows : List Row) → AllByRecursion P sorted → AllByRecursion P rows
    → AllByRecursion P (fold (λ sorted row. row_placed row sorted) sorted rows)
all_folded P sorted [] so_far all = so_far
all_folded P sorted (row ∷ rows) so_far all = all_folded P (row_placed row sorted) rows (all_placed P row sorted all.0 so_far) all.1

all_append : (P : Row → Type 0) (xs ys : List Row) → AllByRecursion P xs → AllByRecursion P ys → AllByRecursion P (xs ++ ys)
all_append P [] ys all more = more
all_append P (x ∷ xs) ys all more = (all.0, all_append P xs ys all.1 more)

-- a property of each listed row and of `/` and `/proc` holds of each row of the table
pub all_in_order : (P : Row → Type 0) (listed : List Row) → AllByRecursion P listed → P (plain_dir root) → P (plain_dir proc)
    → AllByRecursion P (rows_in_order (with_fixed listed))
all_in_order P listed all top below = all_folded P [] (with_fixed listed) tt
    (all_append P listed _ all (by (has_row listed root) (has_row listed proc)))
  where
    by : (b c : Bool) → AllByRecursion P
        (cond (not b) (plain_dir root ∷ cond (not c) (plain_dir proc ∷ []) []) (cond (not c) (plain_dir proc ∷ []) []))
    by true true = tt
    by true false = (below, tt)
    by false true = (top, tt)
    by false false = (top, (below, tt))

length-placed : (row : Row) (rows : List Row) → length (row_placed row rows) ≤ length rows + 1
length-placed row [] = omega arith
length-placed row (first ∷ rows) = by (is_before row.path first.path) (is_before first.path row.path) (length-placed row rows)
  where
    by : (b c : Bool) → length (row_placed row rows) ≤ length rows + 1
        → length (cond b (row ∷ first ∷ rows) (cond c (first ∷ row_placed row rows) (first ∷ rows))) ≤ length (first ∷ rows) + 1
    by true c e = omega arith
    by false true e = omega arith
    by false false e = omega arith

length-folded : (sorted rows : List Row) → length (fold (λ sorted row. row_placed row sorted) sorted rows) ≤ length sorted + length rows
length-folded sorted [] = omega arith
length-folded sorted (row ∷ rows) = omega (arith, length-folded (row_placed row sorted) rows, length-placed row sorted)

-- the table has at most two rows more than the list
pub length_in_order : (listed : List Row) → length (rows_in_order (with_fixed listed)) ≤ length listed + 2
length_in_order listed =
    let all = length-folded [] (with_fixed listed) in
    let both = length-append listed (filter (λ row. not (has_row listed row.path)) (plain_dir root ∷ plain_dir proc ∷ [])) in
    let few = by (has_row listed root) (has_row listed proc) in
    omega arith
  where
    by : (b c : Bool) → length
        (cond (not b) (plain_dir root ∷ cond (not c) (plain_dir proc ∷ []) []) (cond (not c) (plain_dir proc ∷ []) [])) ≤ 2
    by true true = omega arith
    by true false = omega arith
    by false true = omega arith
    by false false = omega arith

-- ---- the row of a path

-- no two rows have the same path
abbrev pub AreApart : List Row → Type 0
AreApart [] = Unit {0}
AreApart (row ∷ rows) = (has_row rows row.path ≡ false) × AreApart rows

swapped : (b c : Bool) (x y : Row) (rest : Option Row) → (b ≡ true → c ≡ true → ⊥)
    → cond b (Some x) (cond c (Some y) rest) ≡ cond c (Some y) (cond b (Some x) rest)
swapped true true x y rest h = absurd (h refl refl)
swapped true false x y rest h = refl
swapped false true x y rest h = refl
swapped false false x y rest h = refl

both_same : (one other path : Path) → is_same one other ≡ false → is_same one path ≡ true → is_same other path ≡ true → ⊥
both_same one other path apart h g =
    false≢true (sym apart ∙ subst (λ (p : Path). is_same one p ≡ true) (sym (same_path other path g)) h)

-- a row of a new path is found by its path
pub row_at-placed : (row : Row) (rows : List Row) (path : Path) → is_normal row.path ≡ true → AreNormal rows → has_row rows row.path ≡ false
    → row_at (row_placed row rows) path ≡ cond (is_same row.path path) (Some row) (row_at rows path)
row_at-placed row [] path here all absent = refl
row_at-placed row (first ∷ rows) path here all absent =
    let apart = or_parts (is_same first.path row.path) (has_row rows row.path) absent in
    by (is_before row.path first.path) (is_before first.path row.path) refl refl apart.0 (row_at-placed row rows path here all.1 apart.1)
  where
    by : (b c : Bool) → is_before row.path first.path ≡ b → is_before first.path row.path ≡ c → is_same first.path row.path ≡ false
        → row_at (row_placed row rows) path ≡ cond (is_same row.path path) (Some row) (row_at rows path)
        → row_at (cond b (row ∷ first ∷ rows) (cond c (first ∷ row_placed row rows) (first ∷ rows))) path
        ≡ cond (is_same row.path path) (Some row) (cond (is_same first.path path) (Some first) (row_at rows path))
    by true c e f apart more = refl
    by false true e f apart more =
        ap (λ found. cond (is_same first.path path) (Some first) found) more
        ∙ swapped (is_same first.path path) (is_same row.path path) first row (row_at rows path) (both_same first.path row.path path apart)
    by false false e f apart more =
        absurd (false≢true (sym apart ∙ subst (λ (p : Path). is_same first.path p ≡ true) (one_path row first here all.0 e f)
        (same_itself first.path)))

abbrev orelse : Option Row → Option Row → Option Row
orelse (Some row) other = Some row
orelse None other = other

pub none_at : (rows : List Row) (path : Path) → has_row rows path ≡ false → row_at rows path ≡ None
none_at [] path h = refl
none_at (row ∷ rows) path h =
    let both = or_parts (is_same row.path path) (has_row rows path) h in
    ap (λ b. cond b (Some row) (row_at rows path)) both.0 ∙ none_at rows path both.1

none_of : (path : Path) (rows : List Row) → has_row rows path ≡ false → AllByRecursion (λ row. is_same path row.path ≡ false) rows
none_of path [] h = tt
none_of path (row ∷ rows) h =
    let both = or_parts (is_same row.path path) (has_row rows path) h in (is_same-swap path row.path ∙ both.0, none_of path rows both.1)

-- the paths of later rows are new among the rows so far and one more
still_new : (row : Row) (sorted rows : List Row) → is_normal row.path ≡ true → AreNormal sorted
    → AllByRecursion (λ later. has_row sorted later.path ≡ false) rows → AllByRecursion (λ later. is_same row.path later.path ≡ false) rows
    → AllByRecursion (λ later. has_row (row_placed row sorted) later.path ≡ false) rows
still_new row sorted [] here all new apart = tt
still_new row sorted (later ∷ rows) here all new apart =
    (has_placed row sorted later.path here all ∙ or_from _ _ apart.0 new.0, still_new row sorted rows here all new.1 apart.1)

row_at-folded : (sorted rows : List Row) (path : Path) → AreNormal sorted → AreNormal rows → AreApart rows
    → AllByRecursion (λ row. has_row sorted row.path ≡ false) rows
    → row_at (fold (λ sorted row. row_placed row sorted) sorted rows) path ≡ orelse (row_at sorted path) (row_at rows path)
row_at-folded sorted [] path so_far all apart new = or_none (row_at sorted path)
  where
    or_none : (found : Option Row) → found ≡ orelse found None
    or_none None = refl
    or_none (Some row) = refl
row_at-folded sorted (row ∷ rows) path so_far all apart new =
    row_at-folded (row_placed row sorted) rows path (all_placed (λ r. is_normal r.path ≡ true) row sorted all.0 so_far) all.1 apart.1
    (still_new row sorted rows all.0 so_far new.1 (none_of row.path rows apart.0))
    ∙ ap (λ found. orelse found (row_at rows path)) (row_at-placed row sorted path all.0 so_far new.0)
    ∙ by (is_same row.path path) refl
  where
    by : (b : Bool) → is_same row.path path ≡ b
        → orelse (cond b (Some row) (row_at sorted path)) (row_at rows path)
        ≡ orelse (row_at sorted path) (cond b (Some row) (row_at rows path))
    by true e = ap (λ found. orelse found (Some row))
        (sym (none_at sorted path (ap (has_row sorted) (sym (same_path row.path path e)) ∙ new.0)))
    by false e = refl

all_new : (rows : List Row) → AllByRecursion (λ row. has_row [] row.path ≡ false) rows
all_new [] = tt
all_new (row ∷ rows) = (refl, all_new rows)

pub row_at-in_order : (rows : List Row) (path : Path) → AreNormal rows → AreApart rows → row_at (rows_in_order rows) path ≡ row_at rows path
row_at-in_order rows path all apart = row_at-folded [] rows path tt all apart (all_new rows)

-- ---- directories

abbrev pub IsDirAt : List Row → Path → Type 0
IsDirAt rows path = kind_at rows path ≡ Some Dir

kind_of-cond : (b : Bool) (row : Row) (rest : Option Row) → row.kind ≡ Dir → option_map (λ r. r.kind) rest ≡ Some Dir
    → option_map (λ r. r.kind) (cond b (Some row) rest) ≡ Some Dir
kind_of-cond true row rest here there = ap Some here
kind_of-cond false row rest here there = there

-- a directory stays a directory when another is placed
pub dir_kept : (rows : List Row) (more path : Path) → is_normal more ≡ true → AreNormal rows → IsDirAt rows path
    → IsDirAt (dir_placed more rows) path
dir_kept rows more path clean all dir = by (has_row rows more) refl
  where
    by : (b : Bool) → has_row rows more ≡ b → kind_at (cond b rows (row_placed (plain_dir more) rows)) path ≡ Some Dir
    by true e = dir
    by false e = ap (option_map (λ r. r.kind)) (row_at-placed (plain_dir more) rows path clean all e)
        ∙ kind_of-cond (is_same more path) (plain_dir more) (row_at rows path) refl dir

-- a placed directory is at its path, if an earlier row of the path was a directory
pub dir_here : (rows : List Row) (path : Path) → is_normal path ≡ true → AreNormal rows → (has_row rows path ≡ true → IsDirAt rows path)
    → IsDirAt (dir_placed path rows) path
dir_here rows path clean all dir = by (has_row rows path) refl
  where
    by : (b : Bool) → has_row rows path ≡ b → kind_at (cond b rows (row_placed (plain_dir path) rows)) path ≡ Some Dir
    by true e = dir e
    by false e =
        ap (option_map (λ r. r.kind)) (row_at-placed (plain_dir path) rows path clean all e)
        ∙ ap (λ b. option_map (λ r. r.kind) (cond b (Some (plain_dir path)) (row_at rows path))) (same_itself path)

pub normal_dir : (rows : List Row) (path : Path) → is_normal path ≡ true → AreNormal rows → AreNormal (dir_placed path rows)
normal_dir rows path clean all = by (has_row rows path)
  where
    by : (b : Bool) → AreNormal (cond b rows (row_placed (plain_dir path) rows))
    by true = all
    by false = all_placed (λ r. is_normal r.path ≡ true) (plain_dir path) rows clean all

has_dir_placed : (rows : List Row) → AreNormal rows → has_row (dir_placed root rows) proc ≡ has_row rows proc
has_dir_placed rows all = by (has_row rows root)
  where
    by : (b : Bool) → has_row (cond b rows (row_placed (plain_dir root) rows)) proc ≡ has_row rows proc
    by true = refl
    by false = has_placed (plain_dir root) rows proc refl all

module _ (listed : List Row) (all : AreNormal listed) (apart : AreApart listed) where
  in_order : (path : Path) → IsDirAt listed path → IsDirAt (rows_in_order listed) path
  in_order path h = ap (option_map (λ r. r.kind)) (row_at-in_order listed path all apart) ∙ h

  sorted_normal : AreNormal (rows_in_order listed)
  sorted_normal = normal_in_order listed all

  -- a listed directory is a directory of the table
  pub dir_of_table : (path : Path) → IsDirAt listed path → IsDirAt (fixed_placed (rows_in_order listed)) path
  dir_of_table path h =
      dir_kept (dir_placed root (rows_in_order listed)) proc path refl (normal_dir (rows_in_order listed) root refl sorted_normal)
      (dir_kept (rows_in_order listed) root path refl sorted_normal (in_order path h))

  pub root_of_table : (has_row listed root ≡ true → IsDirAt listed root) → IsDirAt (fixed_placed (rows_in_order listed)) root
  root_of_table h =
      dir_kept (dir_placed root (rows_in_order listed)) proc root refl (normal_dir (rows_in_order listed) root refl sorted_normal)
      (dir_here (rows_in_order listed) root refl sorted_normal (λ e. in_order root (h (sym (has_in_order listed root all) ∙ e))))

  pub proc_of_table : (has_row listed proc ≡ true → IsDirAt listed proc) → IsDirAt (fixed_placed (rows_in_order listed)) proc
  proc_of_table h =
      dir_here (dir_placed root (rows_in_order listed)) proc refl (normal_dir (rows_in_order listed) root refl sorted_normal)
      (λ e. dir_kept (rows_in_order listed) root proc refl sorted_normal
      (in_order proc (h (sym (has_in_order listed proc all) ∙ sym (has_dir_placed (rows_in_order listed) sorted_normal) ∙ e))))
