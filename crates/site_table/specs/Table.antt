-- A site has these parts and properties, and look-ups find rows, users and groups in it.
use Rattle.std.specs.Prelude.{◌≡◌, ◌≢◌, ◌≤◌, ℕ, Bool, true, false, List, [], ◌∷◌, map, length, find, position, Option, Some, None, option_map}
use Rattle.std.specs.Prelude.{IfSome, IsSome, ◌==◌}
use Rattle.std.specs.List.{AllByRecursion}
use Rattle.std.specs.Str.{bytes_eq}
use Rattle.abs_path.specs.Paths.{Path, tail_of, text_of, is_normal, proc}
use Rattle.abs_path.specs.Prefix.{is_same}
use Rattle.abs_path.specs.ByteOrder.{AreAscending}
use Rattle.cap_sets.specs.Sets.{none, all, IsWithin}
use Rattle.site_table.specs.declared.kinds.RowKind.{RowKind}
use Rattle.site_table.specs.declared.kinds.RowKind.TheVariants.{Dir, Exe}
use Rattle.site_table.specs.declared.row.Row.{Row}
use Rattle.site_table.specs.declared.accounts.User.{User}
use Rattle.site_table.specs.declared.accounts.Group.{Group}
use Rattle.site_table.specs.Ids.{greatest_id, most_spaces}
use Rattle.site_table.specs.Paths.{parent_of, root}
use Rattle.unit_names.specs.declared.version.Version.{Version}

pub record Site : Type 0 where
  pub dynamic_uid : ℕ
  pub user_namespaces : ℕ
  pub systemd : Option Version
  -- processes can set up rings, io_uring(7)
  pub io_uring : Bool
  pub rows : List Row
  pub users : List User
  pub groups : List Group

abbrev pub site_with : ℕ → ℕ → Option Version → Bool → List Row → List User → List Group → Site
site_with uid spaces systemd io_uring rows users groups = record {
  dynamic_uid = uid;
  user_namespaces = spaces;
  systemd = systemd;
  io_uring = io_uring;
  rows = rows;
  users = users;
  groups = groups;
}

-- the row of a path
abbrev pub row_at : List Row → Path → Option Row
row_at rows path = find (λ row. is_same row.path path) rows

-- the place of the row of a path
abbrev pub place_of : List Row → Path → Option ℕ
place_of rows path = position (λ row. is_same row.path path) rows

-- the place of the row whose path has this text; the root has an empty text
abbrev pub place_of_text : List Row → List ℕ → Option ℕ
place_of_text rows text = position (λ row. bytes_eq (tail_of row.path) text) rows

-- the kind of the row of a path
abbrev pub kind_at : List Row → Path → Option RowKind
kind_at rows path = option_map (λ row. row.kind) (row_at rows path)

-- the user of a name
abbrev pub user_named : List User → List ℕ → Option User
user_named users name = find (λ user. bytes_eq user.name name) users

-- the first user with this uid
abbrev pub user_with : List User → ℕ → Option User
user_with users uid = find (λ user. user.uid == uid) users

-- the group of a name
abbrev pub group_named : List Group → List ℕ → Option Group
group_named groups name = find (λ group. bytes_eq group.name name) groups

-- an id, if there is one, is in range
abbrev pub IsIdIfSome : Option ℕ → Type 0
IsIdIfSome id = IfSome id (λ number. number ≤ greatest_id)

-- each row of a table has these properties
pub record IsRowOf (rows : List Row) (row : Row) : Type 0 where
  pub normal : is_normal row.path ≡ true
  pub short : length (text_of row.path) ≤ 250
  pub parent : IfSome (parent_of row.path) (λ path. kind_at rows path ≡ Some Dir)
  pub setuid : IsIdIfSome row.setuid
  pub setgid : IsIdIfSome row.setgid
  pub exe_alone : row.kind ≢ Exe → (row.setuid ≡ None) × (row.setgid ≡ None) × (row.caps ≡ none) × (row.effective ≡ false)
  pub owner_or_caps : IsSome row.setuid → row.caps ≡ none
  pub effective_caps : row.effective ≡ true → row.caps ≢ none
  pub known_caps : IsWithin row.caps all

-- the path of each row is normal
abbrev pub AreNormal : List Row → Type 0
AreNormal rows = AllByRecursion (λ row. is_normal row.path ≡ true) rows

-- each user has these properties
pub record IsUser (user : User) : Type 0 where
  pub name : user.name ≢ []
  pub uid : user.uid ≤ greatest_id
  pub gid : user.gid ≤ greatest_id
  pub groups : AllByRecursion (λ gid. gid ≤ greatest_id) user.groups

-- each group has these properties
pub record IsGroup (group : Group) : Type 0 where
  pub name : group.name ≢ []
  pub gid : group.gid ≤ greatest_id

-- no two names are equal
abbrev pub AreDistinct : List (List ℕ) → Type 0
AreDistinct [] = Unit {0}
AreDistinct (name ∷ names) = AllByRecursion (λ other. name ≢ other) names × AreDistinct names

-- each site has these properties
pub record IsSite (site : Site) : Type 0 where
  pub dynamic_uid : site.dynamic_uid ≤ greatest_id
  pub few_spaces : site.user_namespaces ≤ most_spaces
  pub ascending : AreAscending (map (λ row. row.path) site.rows)
  pub root : kind_at site.rows root ≡ Some Dir
  pub proc : kind_at site.rows proc ≡ Some Dir
  pub each_row : AllByRecursion (IsRowOf site.rows) site.rows
  pub each_user : AllByRecursion IsUser site.users
  pub each_group : AllByRecursion IsGroup site.groups
  pub user_names : AreDistinct (map (λ user. user.name) site.users)
  pub group_names : AreDistinct (map (λ group. group.name) site.groups)
  pub few_rows : length site.rows ≤ 2050
  pub few_users : length site.users ≤ 512
  pub few_groups : length site.groups ≤ 512
