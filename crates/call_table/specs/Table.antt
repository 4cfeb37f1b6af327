-- The table of system calls in calls.txt.
use Rattle.std.specs.Prelude.{ℕ, List, [], ◌∷◌, ◌++◌, Option, Some, None, slice_get}
use Rattle.std.specs.Option.{option_map_or, option_to_list}
use Rattle.call_table.specs.declared.listed.CallLine.{CallLine}
use Rattle.call_table.specs.declared.listed.GroupLine.{GroupLine}

-- a binary interface of the kernel (syscalls(2)): its name, its architecture (AUDIT_ARCH of linux/audit.h), and its
-- calls in the order of the file
pub record Abi : Type 0 where
  pub name : List ℕ
  pub arch : ℕ
  pub calls : List CallLine

-- the native ABI with its calls, the families and groups, and a second ABI if there is one; all lists have the order of the
-- file
pub record Table : Type 0 where
  pub name : List ℕ
  pub arch : ℕ
  pub calls : List CallLine
  pub families : List CallLine
  pub groups : List GroupLine
  pub second : Option Abi

abbrev pub native : Table → Abi
native table = record { name = table.name; arch = table.arch; calls = table.calls }

-- the ABIs in the order of the file, the native one first
abbrev pub abis : Table → List Abi
abis table = native table ∷ option_to_list table.second

abbrev pub second_calls : Option Abi → List CallLine
second_calls None = []
second_calls (Some second) = second.calls

-- all calls in the order of the file; the calls of the native ABI come first
abbrev pub every_call : Table → List CallLine
every_call table = table.calls ++ second_calls table.second

-- the ABI of a position from 0, its architecture and its calls
abbrev pub abi_at : Table → ℕ → Option Abi
abi_at table abi = slice_get (abis table) abi

abbrev pub arch_of : Table → ℕ → ℕ
arch_of table abi = option_map_or (λ found. found.arch) (abi_at table abi) 0

abbrev pub calls_in : Table → ℕ → List CallLine
calls_in table abi = option_map_or (λ found. found.calls) (abi_at table abi) []
