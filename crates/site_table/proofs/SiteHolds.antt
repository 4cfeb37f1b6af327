-- A site without a fault has these properties.
use Rattle.std.proofs.Common.{◌≡◌, ◌≢◌, ℕ, ◌+◌, ◌≤◌, Bool, true, false, cond, List, [], ◌∷◌, ◌++◌, map, length, Option, Some, None, refl}
use Rattle.std.proofs.Common.{sym, ap, ◌∙◌, subst, arith}
use Rattle.std.specs.Prelude.{◌||◌, ◌&&◌, not, codes, ℤ, pos, negsuc, unwrap_or, nat_lt, nat_le, option_map, option_and_then, IfSome}
use Rattle.std.specs.List.{AllByRecursion, filter_map, cons_option, list_any}
use Rattle.std.specs.Option.{option_map_or}
use Rattle.std.specs.Str.{bytes_eq}
use Rattle.std.proofs.lemmas.Bool.{and_parts, or_parts, false≢true, not-false, leb-true, le-leb, ltb-false}
use Rattle.std.proofs.lemmas.List.{length-map}
use Rattle.std.proofs.lemmas.List.Folds.{list_any-append}
use Rattle.toml.specs.Data.{Data, as_integer}
use Rattle.toml_shapes.specs.Tree.{number_at}
use Rattle.abs_path.specs.Paths.{Path, text_of, is_normal, proc}
use Rattle.abs_path.specs.Prefix.{is_same}
use Rattle.cap_sets.specs.Sets.{all}
use Rattle.cap_sets.proofs.Members.{has_all, none_within}
use Rattle.site_table.specs.Rows.{cap_names}
use Rattle.site_table.proofs.CapSets.{caps_known}
use Rattle.abs_path.proofs.Prefixes.{same_path, part_itself}
use Rattle.site_table.specs.declared.row.Row.{Row}
use Rattle.site_table.specs.declared.kinds.RowKind.{RowKind}
use Rattle.site_table.specs.declared.kinds.RowKind.TheVariants.{Dir, File, Exe, Dev}
use Rattle.site_table.specs.declared.accounts.User.{User}
use Rattle.site_table.specs.declared.accounts.Group.{Group}
use Rattle.site_table.specs.declared.error.SiteError.{SiteError}
use Rattle.site_table.specs.declared.error.SiteError.TheVariants.{TooMany, User as BadUser, Group as BadGroup}
use Rattle.site_table.specs.declared.error.RowCause.TheVariants.{Duplicate, NoParent}
use Rattle.site_table.specs.declared.owners.OwnerKind.TheVariants.{User as UserKind, Group as GroupKind}
use Rattle.site_table.specs.Ids.{id_at, as_id, greatest_id, count_by, most_spaces}
use Rattle.site_table.specs.Kinds.{is_dir}
use Rattle.site_table.specs.Order.{has_row, plain_dir, rows_in_order, with_fixed}
use Rattle.site_table.specs.Owners.{name_of, has_doubled_name, is_wrong, user_of, group_of}
use Rattle.site_table.specs.Paths.{parent_of, root}
use Rattle.site_table.specs.Reading.{rows_in, users_in, groups_in, row_faults, user_faults, group_faults, owner_faults, is_too_large}
use Rattle.site_table.specs.Reading.{size_faults, top_faults, faults_of, site_in}
use Rattle.site_table.specs.RowSteps.{fixed_placed}
use Rattle.site_table.specs.Rows.{path_of, kind_of, is_row_at, is_duplicate, is_dir_at, is_folder, is_always_dir, has_parent, own_causes}
use Rattle.site_table.specs.Rows.{place_causes, first_of, cause_of, row_of}
use Rattle.site_table.specs.Table.{row_at, kind_at, IsIdIfSome, IsRowOf, AreNormal, IsUser, IsGroup, AreDistinct, IsSite}
use Rattle.toml_shapes.specs.Tree.{elements_at}
use Rattle.site_table.proofs.Answering.{NoFaults, no_faults, all_faultless}
use Rattle.site_table.proofs.Causes.{first_of-append, first_of-none}
use Rattle.site_table.proofs.OwnersRead.{owner_fault}
use Rattle.site_table.proofs.PathsRead.{path_is}
use Rattle.site_table.proofs.Placed.{AreApart, IsDirAt, is_same-swap, rows_ascend, all_in_order, length_in_order, dir_of_table}
use Rattle.site_table.proofs.Placed.{root_of_table, proc_of_table}
use Rattle.site_table.proofs.Placing.{fixed_is}
use Rattle.site_table.proofs.RowsRead.{row_fault, has_path, own_faultless, cause_from_fault, all_listed, listed_normal}
use Rattle.site_table.proofs.Said.{IsRight, is_right, id_small, unwrapped_small, small_if_some, kind_is, always_is_dir, exe_alone}
use Rattle.site_table.proofs.Said.{owner_or_caps, effective_caps}

-- ---- elements without a fault, given the elements before them

-- an element does not pass a test that no element of its list passes
abbrev IsAmong : Data → List Data → Type 0
IsAmong one all = (test : Data → Bool) → list_any test all ≡ false → test one ≡ false

among_last : (before : List Data) (one : Data) → IsAmong one (before ++ one ∷ [])
among_last before one test h =
    (or_parts (test one) false
    ((or_parts (list_any test before) (list_any test (one ∷ [])) (sym (list_any-append test before (one ∷ [])) ∙ h)).1)).0

among_more : (before : List Data) (one other : Data) → IsAmong one before → IsAmong one (before ++ other ∷ [])
among_more before one other here test h =
    here test (or_parts (list_any test before) (list_any test (other ∷ [])) (sym (list_any-append test before (other ∷ [])) ∙ h)).0

-- ---- rows

duplicate_from : (rows before : List Data) (row : Data) → cause_of rows before row ≡ None → is_duplicate before row ≡ false
duplicate_from rows before row h =
    (first_of-none (is_duplicate before row) Duplicate ((not (has_parent rows row), NoParent) ∷ [])
    (sym (first_of-append (own_causes row) (place_causes rows before row) (own_faultless rows before row h)) ∙ h)).0

parent_from : (rows before : List Data) (row : Data) → cause_of rows before row ≡ None → has_parent rows row ≡ true
parent_from rows before row h =
    not-false (has_parent rows row)
    (first_of-none (not (has_parent rows row)) NoParent []
    (first_of-none (is_duplicate before row) Duplicate ((not (has_parent rows row), NoParent) ∷ [])
    (sym (first_of-append (own_causes row) (place_causes rows before row) (own_faultless rows before row h)) ∙ h)).1).0

-- a later row has another path
new_path : (rows before later : List Data) (row : Data) → path_of row ≡ Some (row_of row).path → IsAmong row before
    → NoFaults (row_fault rows) before later → has_row (map row_of later) (row_of row).path ≡ false
new_path rows before [] row here among h = refl
new_path rows before (other ∷ later) row here among h =
    let cause = cause_from_fault rows before (length before + 1) other h.0 in
    let there = has_path other (own_faultless rows before other cause) in
    let apart : list_any (is_row_at (row_of other).path) before ≡ false =
    ap (λ found. option_map_or (λ path. list_any (is_row_at path) before) found false) (sym there) ∙ duplicate_from rows before other cause in
    let differ : is_same (row_of row).path (row_of other).path ≡ false =
    ap (λ found. option_map_or (λ own. is_same own (row_of other).path) found false) (sym here) ∙ among (is_row_at (row_of other).path) apart in
    ap (λ b. b || has_row (map row_of later) (row_of row).path) (is_same-swap (row_of other).path (row_of row).path ∙ differ)
    ∙ new_path rows (before ++ other ∷ []) later row here (among_more before row other among) h.1

pub apart_from : (rows before rest : List Data) → NoFaults (row_fault rows) before rest → AreApart (map row_of rest)
apart_from rows before [] h = tt
apart_from rows before (row ∷ rest) h = (
  new_path rows (before ++ row ∷ []) rest row
      (has_path row (own_faultless rows before row (cause_from_fault rows before (length before + 1) row h.0))) (among_last before row) h.1,
  apart_from rows (before ++ row ∷ []) rest h.1,
)

-- a listed directory of the definition is a directory among the listed rows
dir_listed : (rows before rest : List Data) (path : Path) → NoFaults (row_fault rows) before rest → AreApart (map row_of rest)
    → list_any (is_dir_at path) rest ≡ true → IsDirAt (map row_of rest) path
dir_listed rows before [] path h apart some = absurd (false≢true some)
dir_listed rows before (row ∷ rest) path h apart some =
    by (is_same (row_of row).path path) refl (λ later. dir_listed rows (before ++ row ∷ []) rest path h.1 apart.1 later)
  where
    own : first_of (own_causes row) ≡ None
    own = own_faultless rows before row (cause_from_fault rows before (length before + 1) row h.0)

    is_here : is_row_at path row ≡ is_same (row_of row).path path
    is_here = ap (λ found. option_map_or (λ own. is_same own path) found false) (has_path row own)

    dir_kind : (kind : RowKind) → is_dir kind ≡ true → kind ≡ Dir
    dir_kind Dir e = refl
    dir_kind File e = absurd (false≢true e)
    dir_kind Exe e = absurd (false≢true e)
    dir_kind Dev e = absurd (false≢true e)

    none_later : (rest : List Data) → has_row (map row_of rest) path ≡ false
        → AllByRecursion (λ row. path_of row ≡ Some (row_of row).path) rest → list_any (is_dir_at path) rest ≡ false
    none_later [] e all = refl
    none_later (other ∷ rest) e all =
        let both = or_parts (is_same (row_of other).path path) (has_row (map row_of rest) path) e in
        ap (λ b. (b && option_map_or is_dir (kind_of other) false) || list_any (is_dir_at path) rest)
        (ap (λ found. option_map_or (λ own. is_same own path) found false) all.0 ∙ both.0)
        ∙ none_later rest both.1 all.1

    by : (b : Bool) → is_same (row_of row).path path ≡ b → (list_any (is_dir_at path) rest ≡ true → IsDirAt (map row_of rest) path)
        → option_map (λ r. r.kind) (cond b (Some (row_of row)) (row_at (map row_of rest) path)) ≡ Some Dir
    by true e more =
        let later : list_any (is_dir_at path) rest ≡ false =
        none_later rest (ap (has_row (map row_of rest)) (sym (same_path (row_of row).path path e)) ∙ apart.0)
        (all_faultless (row_fault rows) (λ row. path_of row ≡ Some (row_of row).path) (before ++ row ∷ []) rest
        (λ number before row none. has_path row (own_faultless rows before row (cause_from_fault rows before number row none))) h.1) in
        let dir : (is_row_at path row && option_map_or is_dir (kind_of row) false) ≡ true = or_first (is_dir_at path row) (list_any (is_dir_at path) rest) later some in
        let kind : is_dir (row_of row).kind ≡ true =
        ap (λ found. option_map_or is_dir found false) (sym (kind_is row (is_right row own)).0) ∙ (and_parts (is_row_at path row) (option_map_or is_dir (kind_of row) false) dir).1 in
        ap Some (dir_kind (row_of row).kind kind)
      where
        or_first : (b c : Bool) → c ≡ false → (b || c) ≡ true → b ≡ true
        or_first true c e h = refl
        or_first false c e h = absurd (false≢true (sym e ∙ h))
    by false e more =
        more (ap (λ b. (b && option_map_or is_dir (kind_of row) false) || list_any (is_dir_at path) rest) (sym (is_here ∙ e)) ∙ some)

-- `/` and `/proc` are directories if they are listed
always_listed : (listed : List Row) (path : Path) → is_always_dir path ≡ true
    → AllByRecursion (λ row. is_always_dir row.path ≡ true → row.kind ≡ Dir) listed → has_row listed path ≡ true → IsDirAt listed path
always_listed [] path always all some = absurd (false≢true some)
always_listed (row ∷ listed) path always all some = by (is_same row.path path) refl (λ h. always_listed listed path always all.1 h) some
  where
    by : (b : Bool) → is_same row.path path ≡ b → (has_row listed path ≡ true → IsDirAt listed path) → (b || has_row listed path) ≡ true
        → option_map (λ r. r.kind) (cond b (Some row) (row_at listed path)) ≡ Some Dir
    by true e more h = ap Some (all.0 (ap is_always_dir (same_path row.path path e) ∙ always))
    by false e more h = more h

module _ (rows : List Data) (right : row_faults rows ≡ []) where
  abbrev pub listed : List Row
  listed = map row_of rows

  spread : NoFaults (row_fault rows) [] rows
  spread = no_faults (row_fault rows) rows right

  normal : AreNormal listed
  normal = listed_normal rows right

  apart : AreApart listed
  apart = apart_from rows [] rows spread

  always : AllByRecursion (λ row. is_always_dir row.path ≡ true → row.kind ≡ Dir) listed
  always = all_listed (λ row. is_always_dir row.path ≡ true → row.kind ≡ Dir) rows
      (λ row own. always_is_dir row (is_right row own) (has_path row own)) right

  rows_are : fixed_placed (rows_in_order listed) ≡ rows_in_order (with_fixed listed)
  rows_are = fixed_is listed normal

  pub root_is_dir : IsDirAt (rows_in_order (with_fixed listed)) root
  root_is_dir = subst (λ (rs : List Row). IsDirAt rs root) rows_are
      (root_of_table listed normal apart (always_listed listed root refl always))

  pub proc_is_dir : IsDirAt (rows_in_order (with_fixed listed)) proc
  proc_is_dir = subst (λ (rs : List Row). IsDirAt rs proc) rows_are
      (proc_of_table listed normal apart (always_listed listed proc refl always))

  folder_is_dir : (path : Path) → is_folder rows path ≡ true → IsDirAt (rows_in_order (with_fixed listed)) path
  folder_is_dir path h = by (is_same path root) (is_same path proc) refl refl h
    where
      by : (b c : Bool) → is_same path root ≡ b → is_same path proc ≡ c → ((b || c) || list_any (is_dir_at path) rows) ≡ true
          → IsDirAt (rows_in_order (with_fixed listed)) path
      by true c e f h = subst (λ (p : Path). IsDirAt (rows_in_order (with_fixed listed)) p) (sym (same_path path root e)) root_is_dir
      by false true e f h = subst (λ (p : Path). IsDirAt (rows_in_order (with_fixed listed)) p) (sym (same_path path proc f)) proc_is_dir
      by false false e f h = subst (λ (rs : List Row). IsDirAt rs path) rows_are
          (dir_of_table listed normal apart path (dir_listed rows [] rows path spread apart h))

  listed_row : (before : List Data) (row : Data) → cause_of rows before row ≡ None
      → IsRowOf (rows_in_order (with_fixed listed)) (row_of row)
  listed_row before row cause = record {
    normal = (path_is row (row_of row).path here).0;
    short = leb-true _ 250 (path_is row (row_of row).path here).1;
    parent = by (parent_of (row_of row).path)
        (ap (λ found. option_map_or (is_folder rows) (option_and_then parent_of found) true) (sym here)
        ∙ parent_from rows before row cause);
    setuid = id_small (codes "setuid") row;
    setgid = id_small (codes "setgid") row;
    exe_alone = exe_alone row good;
    owner_or_caps = owner_or_caps row good;
    effective_caps = effective_caps row good;
    known_caps = record { each = λ number h. has_all number ∙ le-leb number 40 (caps_known (cap_names row) number h) };
  }
    where
      own : first_of (own_causes row) ≡ None
      own = own_faultless rows before row cause

      good : IsRight row
      good = is_right row own

      here : path_of row ≡ Some (row_of row).path
      here = has_path row own

      by : (parent : Option Path) → option_map_or (is_folder rows) parent true ≡ true
          → IfSome parent (λ path. kind_at (rows_in_order (with_fixed listed)) path ≡ Some Dir)
      by None h = tt
      by (Some path) h = folder_is_dir path h

  plain_row : (path : Path) → is_normal path ≡ true → nat_le (length (text_of path)) 250 ≡ true
      → IfSome (parent_of path) (λ parent. kind_at (rows_in_order (with_fixed listed)) parent ≡ Some Dir)
      → IsRowOf (rows_in_order (with_fixed listed)) (plain_dir path)
  plain_row path clean short parent = record {
    normal = clean;
    short = leb-true _ 250 short;
    parent = parent;
    setuid = tt;
    setgid = tt;
    exe_alone = λ other. (refl, refl, refl, refl);
    owner_or_caps = λ some. refl;
    effective_caps = λ on. absurd (false≢true on);
    known_caps = none_within all;
  }

  pub each_row : AllByRecursion (IsRowOf (rows_in_order (with_fixed listed))) (rows_in_order (with_fixed listed))
  each_row =
      all_in_order (IsRowOf (rows_in_order (with_fixed listed))) listed
      (map_rows rows (all_faultless (row_fault rows) (λ row. IsRowOf (rows_in_order (with_fixed listed)) (row_of row)) [] rows
      (λ number before row h. listed_row before row (cause_from_fault rows before number row h)) spread))
      (plain_row root refl refl tt) (plain_row proc refl refl root_is_dir)
    where
      map_rows : (xs : List Data) → AllByRecursion (λ row. IsRowOf (rows_in_order (with_fixed listed)) (row_of row)) xs
          → AllByRecursion (IsRowOf (rows_in_order (with_fixed listed))) (map row_of xs)
      map_rows [] h = tt
      map_rows (x ∷ xs) h = (h.0, map_rows xs h.1)

-- ---- users and groups

module _ (is_wrong : Data → Bool) (refusal : ℕ → SiteError) where
  owner_right : (number : ℕ) (before : List Data) (owner : Data) → owner_fault is_wrong refusal number before owner ≡ None
      → (is_wrong owner ≡ false) × (has_doubled_name before owner ≡ false)
  owner_right number before owner h = by (is_wrong owner || has_doubled_name before owner) refl h
    where
      by : (b : Bool) → (is_wrong owner || has_doubled_name before owner) ≡ b → cond b (Some (refusal number)) None ≡ None
          → (is_wrong owner ≡ false) × (has_doubled_name before owner ≡ false)
      by true e h = absurd (cc)
      by false e h = or_parts (is_wrong owner) (has_doubled_name before owner) e

  other_names : (before later : List Data) (owner : Data) → IsAmong owner before → NoFaults (owner_fault is_wrong refusal) before later
      → AllByRecursion (λ other. name_of owner ≢ other) (map name_of later)
  other_names before [] owner among h = tt
  other_names before (other ∷ later) owner among h = (
    λ e. false≢true (sym (among (λ one. bytes_eq (name_of other) (name_of one)) (owner_right (length before + 1) before other h.0).1)
        ∙ part_itself (name_of other) (name_of owner) (sym e)),
    other_names (before ++ other ∷ []) later owner (among_more before owner other among) h.1,
  )

  names_from : (before rest : List Data) → NoFaults (owner_fault is_wrong refusal) before rest → AreDistinct (map name_of rest)
  names_from before [] h = tt
  names_from before (owner ∷ rest) h =
      (other_names (before ++ owner ∷ []) rest owner (among_last before owner) h.1, names_from (before ++ owner ∷ []) rest h.1)

  pub distinct_names : (owners : List Data) → owner_faults is_wrong refusal owners ≡ [] → AreDistinct (map name_of owners)
  distinct_names owners e = names_from [] owners (no_faults (owner_fault is_wrong refusal) owners e)

  pub all_owners : {T : Type 0} (said_of : Data → T) (P : T → Type 0) (owners : List Data)
      → ((owner : Data) → is_wrong owner ≡ false → P (said_of owner)) → owner_faults is_wrong refusal owners ≡ []
      → AllByRecursion P (map said_of owners)
  all_owners said_of P owners each e =
      map_owners owners (all_faultless (owner_fault is_wrong refusal) (λ owner. P (said_of owner)) [] owners
      (λ number before owner h. each owner (owner_right number before owner h).0) (no_faults (owner_fault is_wrong refusal) owners e))
    where
      map_owners : (xs : List Data) → AllByRecursion (λ owner. P (said_of owner)) xs → AllByRecursion P (map said_of xs)
      map_owners [] h = tt
      map_owners (x ∷ xs) h = (h.0, map_owners xs h.1)

named : (name : List ℕ) → bytes_eq name [] ≡ false → name ≢ []
named name h = λ e. false≢true (sym h ∙ part_itself name [] e)

small_ids : (values : List Data) → AllByRecursion (λ id. id ≤ greatest_id) (filter_map as_id values)
small_ids [] = tt
small_ids (value ∷ values) = by (as_id value) (small_if_some (as_integer value)) (small_ids values)
  where
    by : (found : Option ℕ) → IsIdIfSome found → AllByRecursion (λ id. id ≤ greatest_id) (filter_map as_id values)
        → AllByRecursion (λ id. id ≤ greatest_id) (cons_option found (filter_map as_id values))
    by None h more = more
    by (Some id) h more = (h, more)

is_user : (user : Data) → (is_wrong UserKind) user ≡ false → IsUser (user_of user)
is_user user h = record {
  name = named (name_of user) (or_parts _ (bytes_eq (name_of user) []) h).1;
  uid = unwrapped_small (id_at (codes "uid") user) (id_small (codes "uid") user);
  gid = unwrapped_small (id_at (codes "gid") user) (id_small (codes "gid") user);
  groups = small_ids (elements_at (codes "groups") user);
}

is_group : (group : Data) → (is_wrong GroupKind) group ≡ false → IsGroup (group_of group)
is_group group h = record {
  name = named (name_of group) (or_parts _ (bytes_eq (name_of group) []) h).1;
  gid = unwrapped_small (id_at (codes "gid") group) (id_small (codes "gid") group);
}

map-map : {T : Type 0} (said_of : Data → T) (name : T → List ℕ) (owners : List Data)
    → ((owner : Data) → name (said_of owner) ≡ name_of owner) → map name (map said_of owners) ≡ map name_of owners
map-map said_of name [] h = refl
map-map said_of name (owner ∷ owners) h = ap (λ x. x ∷ map name (map said_of owners)) (h owner)
    ∙ ap (λ xs. name_of owner ∷ xs) (map-map said_of name owners h)

-- ---- the whole

none_of_both : {X : Type 0} (xs ys : List X) → xs ++ ys ≡ [] → (xs ≡ []) × (ys ≡ [])
none_of_both [] ys e = (refl, e)
none_of_both (x ∷ xs) ys e = absurd (cc)

not_too_large : (site : Data) → size_faults site ≡ [] → is_too_large site ≡ false
not_too_large site h = by (is_too_large site) h
  where
    by : (b : Bool) → cond b (TooMany ∷ []) [] ≡ [] → b ≡ false
    by true h = absurd (cc)
    by false h = refl

-- a site without a fault has no row with a fault
pub rows_faultless : (site : Data) → faults_of site ≡ [] → row_faults (rows_in site) ≡ []
rows_faultless site h =
    let groups = none_of_both (((top_faults site ++ size_faults site) ++ row_faults (rows_in site)) ++ user_faults (users_in site)) (group_faults (groups_in site)) h in
    let users = none_of_both ((top_faults site ++ size_faults site) ++ row_faults (rows_in site)) (user_faults (users_in site)) groups.0 in
    (none_of_both (top_faults site ++ size_faults site) (row_faults (rows_in site)) users.0).1

few_spaces : (number : Option ℤ) → unwrap_or (count_by number) 0 ≤ most_spaces
few_spaces None = omega arith
few_spaces (Some (pos number)) = by (nat_le number most_spaces) refl
  where
    by : (b : Bool) → nat_le number most_spaces ≡ b → unwrap_or (cond b (Some number) None) 0 ≤ most_spaces
    by true e = leb-true number most_spaces e
    by false e = omega arith
few_spaces (Some (negsuc number)) = omega arith

pub site_holds : (site : Data) → faults_of site ≡ [] → IsSite (site_in site)
site_holds site h =
    let groups = none_of_both (((top_faults site ++ size_faults site) ++ row_faults (rows_in site)) ++ user_faults (users_in site)) (group_faults (groups_in site)) h in
    let users = none_of_both ((top_faults site ++ size_faults site) ++ row_faults (rows_in site)) (user_faults (users_in site)) groups.0 in
    let rows = none_of_both (top_faults site ++ size_faults site) (row_faults (rows_in site)) users.0 in
    let sizes = not_too_large site (none_of_both (top_faults site) (size_faults site) rows.0).1 in
    let most_groups = or_parts (nat_lt 2048 (length (rows_in site)) || nat_lt 512 (length (users_in site))) (nat_lt 512 (length (groups_in site))) sizes in
    let most_users = or_parts (nat_lt 2048 (length (rows_in site))) (nat_lt 512 (length (users_in site))) most_groups.0 in
    let few : length (rows_in site) ≤ 2048 = ltb-false 2048 (length (rows_in site)) most_users.0 in
    record {
      dynamic_uid = unwrapped_small (id_at (codes "dynamic_uid") site) (id_small (codes "dynamic_uid") site);
      few_spaces = few_spaces (number_at (codes "user_namespaces") site);
      ascending = rows_ascend (with_fixed (map row_of (rows_in site)));
      root = root_is_dir (rows_in site) rows.1;
      proc = proc_is_dir (rows_in site) rows.1;
      each_row = each_row (rows_in site) rows.1;
      each_user = all_owners (is_wrong UserKind) BadUser user_of IsUser (users_in site) is_user users.1;
      each_group = all_owners (is_wrong GroupKind) BadGroup group_of IsGroup (groups_in site) is_group groups.1;
      user_names = subst AreDistinct (sym (map-map user_of (λ (user : User). user.name) (users_in site) (λ user. refl)))
          (distinct_names (is_wrong UserKind) BadUser (users_in site) users.1);
      group_names = subst AreDistinct (sym (map-map group_of (λ (group : Group). group.name) (groups_in site) (λ group. refl)))
          (distinct_names (is_wrong GroupKind) BadGroup (groups_in site) groups.1);
      few_rows = omega (arith, length_in_order (map row_of (rows_in site)), length-map (rows_in site) row_of);
      few_users = omega (arith, ltb-false 512 (length (users_in site)) most_users.1, length-map (users_in site) user_of);
      few_groups = omega (arith, ltb-false 512 (length (groups_in site)) most_groups.1, length-map (groups_in site) group_of);
    }
