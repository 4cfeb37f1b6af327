-- The calls that a word of a filter covers (systemd.exec(5), SystemCallFilter=).
use Rattle.std.specs.Prelude.{ℕ, Bool, false, Option, Some, None, List}
use Rattle.std.specs.Option.{option_map_or}
use Rattle.std.specs.Str.{bytes_eq}
use Rattle.call_table.specs.Names.{behind_at}
use Rattle.call_table.specs.Lookups.{place_named, group_named}
use Rattle.call_table.specs.Members.{has_member}
use Rattle.call_table.specs.Table.{Table, every_call}
use Rattle.call_table.specs.declared.listed.CallLine.{CallLine}
use Rattle.call_table.specs.declared.listed.GroupLine.{GroupLine}

-- a member of the group has the name; the members are the first calls of their names, in any ABI
abbrev pub has_member_named : List CallLine → List ℕ → GroupLine → Bool
has_member_named calls name group = option_map_or (λ place. has_member place group) (place_named name calls) false

abbrev pub covers_by : Table → List ℕ → List ℕ → Option (List ℕ) → Bool
covers_by table word name None = bytes_eq word name
covers_by table word name (Some group) = option_map_or (has_member_named (every_call table) name) (group_named group table.groups) false

-- `@NAME` covers the names of the members of that group, and nothing if the table has no such group; any other word covers
-- itself
unfoldable pub covers : Table → List ℕ → List ℕ → Bool
covers table word name = covers_by table word name (behind_at word)
