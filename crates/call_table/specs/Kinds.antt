-- A line of calls.txt has a kind, by its words.
use Rattle.std.specs.Prelude.{ℕ, cond, List, [], ◌∷◌, codes, map, Option, Some, None}
use Rattle.std.specs.Option.{option_map}
use Rattle.std.specs.Str.{bytes_eq}
use Rattle.call_table.specs.Names.{is_name, behind_at}
use Rattle.call_table.specs.declared.kinds.Kind.{Kind as Read}
use Rattle.call_table.specs.declared.kinds.Kind.TheVariants as read
use Rattle.call_table.specs.declared.kinds.Entry.{Entry as ReadEntry}

-- the words `NAME NUMBER [CAP]` of a call or a family
pub record Entry : Type 0 where
  pub name : List ℕ
  pub digits : List ℕ
  pub cap_word : Option (List ℕ)

-- the kinds of a line
pub data Kind : Type 0 where
  abi : (name digits : List ℕ) → Kind
  call : (entry : Entry) → Kind
  family : (entry : Entry) → Kind
  group : (name : List ℕ) (members : List (List ℕ)) → Kind
  malformed : Kind

-- `abi NAME ARCH`
abbrev pub abi_line : List (List ℕ) → Kind
abi_line (name ∷ digits ∷ []) = abi name digits
abi_line words = malformed

abbrev pub named_entry : List ℕ → List ℕ → Option (List ℕ) → Option Entry
named_entry name digits cap_word = cond (is_name name) (Some (record { name = name; digits = digits; cap_word = cap_word })) None

-- `NAME NUMBER`, or `NAME NUMBER CAP`
abbrev pub entry_of : List (List ℕ) → Option Entry
entry_of (name ∷ digits ∷ []) = named_entry name digits None
entry_of (name ∷ digits ∷ cap_word ∷ []) = named_entry name digits (Some cap_word)
entry_of words = None

abbrev pub call_line : Option Entry → Kind
call_line None = malformed
call_line (Some entry) = call entry

abbrev pub family_line : Option Entry → Kind
family_line None = malformed
family_line (Some entry) = family entry

abbrev pub named_group : List (List ℕ) → Option (List ℕ) → Kind
named_group members None = malformed
named_group members (Some name) = cond (is_name name) (group name members) malformed

-- `group @NAME MEMBER ..`, with at least one member
abbrev pub group_line : List (List ℕ) → Kind
group_line (word ∷ member ∷ members) = named_group (member ∷ members) (behind_at word)
group_line words = malformed

abbrev pub kind_by : List ℕ → List (List ℕ) → Kind
kind_by word words =
    cond (bytes_eq word (codes "call")) (call_line (entry_of words))
    (cond (bytes_eq word (codes "group")) (group_line words)
    (cond (bytes_eq word (codes "family")) (family_line (entry_of words))
    (cond (bytes_eq word (codes "abi")) (abi_line words) malformed)))

-- the first word gives the kind of the line
abbrev pub kind_of : List (List ℕ) → Kind
kind_of [] = malformed
kind_of (word ∷ words) = kind_by word words

-- contracts see the kind of the code in this way
abbrev pub seen_entry : ReadEntry → Entry
seen_entry entry = record { name = entry.name.now; digits = entry.digits.now; cap_word = option_map (λ word. word.now) entry.cap_word }

abbrev pub seen : Read → Kind
seen (read.Abi name digits) = abi name.now digits.now
seen (read.Call entry) = call (seen_entry entry)
seen (read.Family entry) = family (seen_entry entry)
seen (read.Group name members) = group name.now (map (λ word. word.now) members.now)
seen read.Malformed = malformed
