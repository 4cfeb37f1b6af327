-- The faults of a line after the first abi line, by the table of the lines before it.
use Rattle.std.specs.Prelude.{ℕ, ◌==◌, ◌&&◌, ◌||◌, not, nat_le, Bool, true, false, is_some, is_none, Option, Some, None, option_and_then}
use Rattle.std.specs.Prelude.{List, [], ◌∷◌, length, find, codes}
use Rattle.std.specs.List.{list_any, list_all}
use Rattle.std.specs.Option.{option_map, option_map_or}
use Rattle.std.specs.Str.{bytes_eq}
use Rattle.call_table.specs.Kinds.{Entry, Kind, abi, call, family, group, malformed}
use Rattle.call_table.specs.Numbers.{arch_of, number_of, cap_of}
use Rattle.call_table.specs.call_names.Known.{is_known as is_known_call}
use Rattle.call_table.specs.declared.call_names.kernel.Kernel.TheVariants.{Base}
use Rattle.call_table.specs.Lookups.{has_name, has_number, named}
use Rattle.call_table.specs.Members.{has_group, is_known}
use Rattle.call_table.specs.Table.{Abi, Table, every_call}
use Rattle.call_table.specs.declared.listed.CallLine.{CallLine}
use Rattle.call_table.specs.declared.listed.GroupLine.{GroupLine}
use Rattle.call_table.specs.declared.causes.CallsCause.{CallsCause}
use Rattle.call_table.specs.declared.causes.CallsCause.TheVariants.{Words, Number, Cap, Modelled, Duplicate, Member, TooMany}

abbrev pub most_calls : ℕ
most_calls = 512

abbrev pub most_families : ℕ
most_families = 128

abbrev pub most_groups : ℕ
most_groups = 128

-- the first fault in the list decides
abbrev pub first_of : List (Bool × CallsCause) → Option CallsCause
first_of faults = option_map (λ fault. fault.1) (find (λ fault. fault.0) faults)

-- the line writes a capability whose name is unknown
abbrev pub is_bad_cap : Option (List ℕ) → Bool
is_bad_cap None = false
is_bad_cap (Some word) = is_none (cap_of word)

abbrev pub is_same_cap : Option ℕ → Option ℕ → Bool
is_same_cap None None = true
is_same_cap None (Some other) = false
is_same_cap (Some number) None = false
is_same_cap (Some number) (Some other) = number == other

-- another ABI has a call of this name, and gives it another capability
abbrev pub has_other_cap : List CallLine → List ℕ → Option ℕ → Bool
has_other_cap others name cap' = option_map_or (λ line. not (is_same_cap line.cap cap')) (named name others) false

-- an earlier line has the name or the number
abbrev pub is_listed : List CallLine → Entry → Bool
is_listed lines entry = list_any (has_name entry.name) lines || option_map_or (λ number. list_any (has_number number) lines)
    (number_of entry.digits) false

-- the fault of a call or a family, given the earlier lines of the kind; a call needs the same capability in both ABIs
unfoldable pub entry_fault : List CallLine → List CallLine → ℕ → Bool → Entry → Option CallsCause
entry_fault others lines most without_cap entry =
    first_of
    ((is_none (number_of entry.digits), Number) ∷
    (is_bad_cap entry.cap_word || has_other_cap others entry.name (option_and_then cap_of entry.cap_word), Cap) ∷
    (without_cap && is_some entry.cap_word, Modelled) ∷ (is_listed lines entry, Duplicate) ∷ (nat_le most (length lines), TooMany) ∷ [])

-- the fault of a group, given some calls and other groups
unfoldable pub group_fault : List CallLine → List GroupLine → List ℕ → List (List ℕ) → Option CallsCause
group_fault calls groups name members =
    first_of
    ((list_any (has_group name) groups, Duplicate) ∷
    (not (list_all (is_known calls groups) members), Member) ∷ (nat_le most_groups (length groups), TooMany) ∷ [])

-- a call belongs to the last ABI before it
abbrev pub call_fault : Option Abi → List CallLine → Entry → Option CallsCause
call_fault None calls entry = entry_fault [] calls most_calls (is_known_call Base entry.name) entry
call_fault (Some second) calls entry = entry_fault calls second.calls most_calls (is_known_call Base entry.name) entry

-- the fault of a further abi line: there is at most one, only after `version 2`, and its name is not `native`
unfoldable pub abi_fault : Bool → Table → List ℕ → List ℕ → Option CallsCause
abi_fault two table name digits =
    first_of
    ((not two || (is_some table.second || bytes_eq name (codes "native")), Words) ∷
    (is_none (arch_of digits), Number) ∷
    (bytes_eq name table.name || option_map_or (λ arch. arch == table.arch) (arch_of digits) false, Duplicate) ∷ [])

-- the cause of a line, given the table of the lines before it; a call that the kernel models by its own rule, or lacks, has no capability
abbrev pub cause_of : Bool → Table → Kind → Option CallsCause
cause_of two table (abi name digits) = abi_fault two table name digits
cause_of two table (call entry) = call_fault table.second table.calls entry
cause_of two table (family entry) = entry_fault [] table.families most_families false entry
cause_of two table (group name members) = group_fault (every_call table) table.groups name members
cause_of two table malformed = Some Words
