-- The file describes users and groups (passwd(5), group(5)), which may have faults.
use Rattle.std.specs.Prelude.{ℕ, Bool, not, ◌||◌, codes, List, [], unwrap_or}
use Rattle.std.specs.List.{list_any}
use Rattle.std.specs.Str.{bytes_eq}
use Rattle.toml.specs.Data.{Data}
use Rattle.site_table.specs.declared.accounts.User.{User as Account}
use Rattle.site_table.specs.declared.accounts.Group.{Group as GroupAccount}
use Rattle.site_table.specs.declared.error.SiteError.{SiteError}
use Rattle.site_table.specs.declared.error.SiteError.TheVariants.{User as BadUser, Group as BadGroup}
use Rattle.site_table.specs.declared.owners.OwnerKind.{OwnerKind}
use Rattle.site_table.specs.declared.owners.OwnerKind.TheVariants.{User, Group}
use Rattle.toml_shapes.specs.Tree.{text_at}
use Rattle.toml_shapes.specs.Keys.{KnownKey, has_keys}
use Rattle.site_table.specs.Keys.{user_keys, group_keys}
use Rattle.site_table.specs.Ids.{id_at, is_out_of_range, ids_at, are_ids}

abbrev pub name_of : Data → List ℕ
name_of owner = unwrap_or (text_at (codes "name") owner) []

-- an earlier user or group has the name
abbrev pub has_doubled_name : List Data → Data → Bool
has_doubled_name before owner = list_any (λ other. bytes_eq (name_of owner) (name_of other)) before

-- the keys of a kind, and the refusal of an owner of that kind
abbrev pub keys_of : OwnerKind → List KnownKey
keys_of User = user_keys
keys_of Group = group_keys

abbrev pub refusal_of : OwnerKind → ℕ → SiteError
refusal_of User = BadUser
refusal_of Group = BadGroup

-- the owner has wrong keys, an id out of range or an empty name; a group has no key for a uid or for further groups
abbrev pub is_wrong : OwnerKind → Data → Bool
is_wrong kind owner =
    not (has_keys (keys_of kind) owner)
    || (is_out_of_range (codes "uid") owner || is_out_of_range (codes "gid") owner || not (are_ids (codes "groups") owner))
    || bytes_eq (name_of owner) []

-- the user that a part of the tree describes, if it has no fault
abbrev pub user_of : Data → Account
user_of user = record {
  name = name_of user;
  uid = unwrap_or (id_at (codes "uid") user) 0;
  gid = unwrap_or (id_at (codes "gid") user) 0;
  groups = ids_at (codes "groups") user;
}

abbrev pub group_of : Data → GroupAccount
group_of group = record { name = name_of group; gid = unwrap_or (id_at (codes "gid") group) 0 }
