-- The words of a group name calls.
use Rattle.std.specs.Prelude.{◌≡◌, ℕ, ◌==◌, Bool, true, false, Option, Some, None, List, map, filter}
use Rattle.std.specs.List.{list_any, list_all, enumerate_from}
use Rattle.std.specs.Option.{option_map_or}
use Rattle.std.specs.Str.{bytes_eq}
use Rattle.call_table.specs.Names.{behind_at}
use Rattle.call_table.specs.Lookups.{has_name, place_named, group_named}
use Rattle.call_table.specs.declared.listed.CallLine.{CallLine}
use Rattle.call_table.specs.declared.listed.GroupLine.{GroupLine}

-- the position is among the members of the group
abbrev pub has_member : ℕ → GroupLine → Bool
has_member position group = list_any (λ member. member == position) group.members

-- the call at this position is the first of its name
abbrev pub is_first : List CallLine → List ℕ → ℕ → Bool
is_first calls name position = option_map_or (λ place. place == position) (place_named name calls) false

abbrev pub stands_for_by : List CallLine → List GroupLine → List ℕ → ℕ × CallLine → Option (List ℕ) → Bool
stands_for_by calls groups word call None = is_first calls word call.0
stands_for_by calls groups word call (Some name) = option_map_or (has_member call.0) (group_named name groups) false

-- `@NAME` names the members of the group of that name, and any other word names the first call of that name
abbrev pub stands_for : List CallLine → List GroupLine → List ℕ → ℕ × CallLine → Bool
stands_for calls groups word call = stands_for_by calls groups word call (behind_at word)

-- some word names the call
abbrev pub is_member : List CallLine → List GroupLine → List (List ℕ) → ℕ × CallLine → Bool
is_member calls groups words call = list_any (λ word. stands_for calls groups word call) words

-- the members are the positions of the calls that some word names, from 0, ascending, each once
abbrev pub members_of : List CallLine → List GroupLine → List (List ℕ) → List ℕ
members_of calls groups words = map (λ call. call.0) (filter (is_member calls groups words) (enumerate_from 0 calls))

abbrev pub has_group : List ℕ → GroupLine → Bool
has_group name group = bytes_eq name group.name

abbrev pub is_known_by : List CallLine → List GroupLine → List ℕ → Option (List ℕ) → Bool
is_known_by calls groups word None = list_any (has_name word) calls
is_known_by calls groups word (Some name) = list_any (has_group name) groups

-- the word names one of these calls, or after `@` one of these groups
abbrev pub is_known : List CallLine → List GroupLine → List ℕ → Bool
is_known calls groups word = is_known_by calls groups word (behind_at word)

-- the members of a group line, if each of its words is known
abbrev pub FindsMembers : List CallLine → List GroupLine → List (List ℕ) → Option (List ℕ) → Type 0
FindsMembers calls groups words None = list_all (is_known calls groups) words ≡ false
FindsMembers calls groups words (Some members) = (list_all (is_known calls groups) words ≡ true) × (members ≡ members_of calls groups words)
