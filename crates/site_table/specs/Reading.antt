-- The bytes of a file describe a site, or are refused.
use Rattle.std.specs.Prelude.{◌≡◌, ⊤, ℕ, ◌+◌, nat_lt, ◌||◌, ◌&&◌, Bool, cond, codes, is_some, List, [], ◌∷◌, ◌++◌, map, length, take}
use Rattle.std.specs.Prelude.{Option, Some, None, option_map, unwrap_or, Result, Ok, Err}
use Rattle.std.specs.List.{filter_map, enumerate_from}
use Rattle.std.specs.Str.{is_utf8}
use Rattle.toml.specs.Data.{Data, Members, table}
use Rattle.toml.specs.Parse.{parse_document}
use Rattle.site_table.specs.declared.error.SiteError.{SiteError}
use Rattle.site_table.specs.declared.error.SiteError.TheVariants.{NotToml, Top, TooMany, Row as BadRow, User as BadUser, Group as BadGroup}
use Rattle.site_table.specs.declared.error.SiteError.TheVariants.{Memory}
use Rattle.site_table.specs.declared.owners.OwnerKind.TheVariants.{User as UserKind, Group as GroupKind}
use Rattle.toml_shapes.specs.Tree.{elements_at}
use Rattle.toml_shapes.specs.Keys.{has_keys}
use Rattle.site_table.specs.Keys.{top_keys}
use Rattle.site_table.specs.Ids.{id_at, spaces_at}
use Rattle.site_table.specs.Rows.{cause_of, row_of}
use Rattle.site_table.specs.Owners.{has_doubled_name, is_wrong, user_of, group_of}
use Rattle.site_table.specs.Order.{with_fixed, rows_in_order}
use Rattle.site_table.specs.Table.{Site}
use Rattle.site_table.specs.Versions.{systemd_at}
use Rattle.site_table.specs.Rings.{rings_at}
use Rattle.unit_names.specs.declared.version.Version.{Version}

-- the listed rows, users and groups
abbrev pub rows_in : Data → List Data
rows_in site = elements_at (codes "row") site

abbrev pub users_in : Data → List Data
users_in site = elements_at (codes "user") site

abbrev pub groups_in : Data → List Data
groups_in site = elements_at (codes "group") site

-- the faults of a list, in order: each element is judged with its number, from 1, and the elements before it
abbrev pub faults_among : (ℕ → List Data → Data → Option SiteError) → List Data → List SiteError
faults_among fault_at all = filter_map (λ one. fault_at (one.0 + 1) (take one.0 all) one.1) (enumerate_from 0 all)

abbrev pub row_faults : List Data → List SiteError
row_faults rows = faults_among (λ number before row. option_map (BadRow number) (cause_of rows before row)) rows

-- an owner is a user or a group: it has a fault of its own, or an earlier owner has its name
abbrev pub owner_faults : (Data → Bool) → (ℕ → SiteError) → List Data → List SiteError
owner_faults is_wrong refusal owners =
    faults_among (λ number before owner. cond (is_wrong owner || has_doubled_name before owner) (Some (refusal number)) None) owners

abbrev pub user_faults : List Data → List SiteError
user_faults users = owner_faults (is_wrong UserKind) BadUser users

abbrev pub group_faults : List Data → List SiteError
group_faults groups = owner_faults (is_wrong GroupKind) BadGroup groups

-- the faults at the top: the keys, the dynamic uid, the number of user namespaces, or the version of systemd
abbrev pub top_faults : Data → List SiteError
top_faults site = cond (((has_keys top_keys site && is_some (id_at (codes "dynamic_uid") site)) && is_some (spaces_at site))
    && is_some (systemd_at site)) [] (Top ∷ [])

-- the site has more rows, users or groups than a site may have
abbrev pub is_too_large : Data → Bool
is_too_large site = nat_lt 2048 (length (rows_in site)) || nat_lt 512 (length (users_in site)) || nat_lt 512 (length (groups_in site))

abbrev pub size_faults : Data → List SiteError
size_faults site = cond (is_too_large site) (TooMany ∷ []) []

-- all faults of a site, in the order of the reports
abbrev pub faults_of : Data → List SiteError
faults_of site = top_faults site ++ size_faults site ++ row_faults (rows_in site) ++ user_faults (users_in site) ++ group_faults
    (groups_in site)

-- the site that a tree describes, if it has no fault
abbrev pub site_in : Data → Site
site_in site = record {
  dynamic_uid = unwrap_or (id_at (codes "dynamic_uid") site) 0;
  user_namespaces = unwrap_or (spaces_at site) 0;
  systemd = unwrap_or (systemd_at site) None;
  io_uring = rings_at site;
  rows = rows_in_order (with_fixed (map row_of (rows_in site)));
  users = map user_of (users_in site);
  groups = map group_of (groups_in site);
}

-- the first fault, or the answer without a fault
abbrev pub unless_fault : {T : Type 0} → List SiteError → T → Result T SiteError
unless_fault [] answer = Ok answer
unless_fault (fault ∷ faults) answer = Err fault

-- the dynamic uid, the number of user namespaces and the version, if the top has no fault
abbrev pub SaysTop : Data → Option (ℕ × ℕ × Option Version) → Type 0
SaysTop site (Some said) = (top_faults site ≡ []) × (id_at (codes "dynamic_uid") site ≡ Some said.0) × (spaces_at site ≡ Some said.1)
    × (systemd_at site ≡ Some said.2)
SaysTop site None = top_faults site ≡ Top ∷ []

-- the tree that `toml` reads from UTF-8
abbrev pub tree_of : List ℕ → Option Members
tree_of bytes = cond (is_utf8 bytes) (parse_document bytes) None

abbrev pub site_of_tree : Option Members → Result Site SiteError
site_of_tree None = Err NotToml
site_of_tree (Some members) = unless_fault (faults_of (table members)) (site_in (table members))

-- the site that the bytes of a file describe, or their first fault
abbrev pub site_of : List ℕ → Result Site SiteError
site_of bytes = site_of_tree (tree_of bytes)

-- the answer is this one, as definitions see it, unless memory ran out
abbrev pub IsUnlessMemory : {T V : Type 0} → (T → V) → Result T SiteError → Result V SiteError → Type 0
IsUnlessMemory see (Ok answer) wanted = wanted ≡ Ok (see answer)
IsUnlessMemory see (Err Memory) wanted = ⊤
IsUnlessMemory see (Err NotToml) wanted = wanted ≡ Err NotToml
IsUnlessMemory see (Err Top) wanted = wanted ≡ Err Top
IsUnlessMemory see (Err TooMany) wanted = wanted ≡ Err TooMany
IsUnlessMemory see (Err (BadRow number cause)) wanted = wanted ≡ Err (BadRow number cause)
IsUnlessMemory see (Err (BadUser number)) wanted = wanted ≡ Err (BadUser number)
IsUnlessMemory see (Err (BadGroup number)) wanted = wanted ≡ Err (BadGroup number)
