-- Every table has these properties.
use Rattle.std.specs.Prelude.{◌≡◌, ℕ, ◌==◌, ◌<◌, ◌≤◌, false, None, Some, List, length, slice_get, IfSome}
use Rattle.std.specs.Str.{bytes_eq}
use Rattle.std.specs.List.{All}
use Rattle.std.specs.List.Sorted.{IsStrictlyIncreasing}
use Rattle.call_table.specs.Lookups.{AreOnce, IsInRange, named, group_named}
use Rattle.call_table.specs.Faults.{most_calls, most_families, most_groups}
use Rattle.call_table.specs.Reading.{missing_call}
use Rattle.call_table.specs.ByNumber.{AscendsByNumber}
use Rattle.call_table.specs.Kernels.{AreBy}
use Rattle.call_table.specs.Table.{Abi, Table, second_calls, every_call}
use Rattle.call_table.specs.declared.call_names.kernel.Kernel.{Kernel}
use Rattle.call_table.specs.declared.listed.CallLine.{CallLine}
use Rattle.call_table.specs.declared.listed.GroupLine.{GroupLine}
use Rattle.call_table.specs.declared.by_number.Numbered.{Numbered}

-- the members are positions among so many calls, ascending, each once
pub record HasMembers (count : ℕ) (group : GroupLine) : Type 0 where
  pub below : All (λ position. position < count) group.members
  pub ascending : IsStrictlyIncreasing group.members

-- the name of a group finds that group, and the group has members among so many calls
pub record AreGroups (count : ℕ) (groups : List GroupLine) : Type 0 where
  pub by_name : (at : ℕ) (group : GroupLine) → slice_get groups at ≡ Some group → group_named group.name groups ≡ Some group
  pub members : All (HasMembers count) groups

-- names and numbers occur once, capabilities are known, and there are not too many lines
pub record AreLines (most : ℕ) (lines : List CallLine) : Type 0 where
  pub once : AreOnce lines
  pub in_range : All IsInRange lines
  pub few : length lines ≤ most

-- if both ABIs have a call, it needs the same capability in both
abbrev pub HasCapAmong : List CallLine → CallLine → Type 0
HasCapAmong others line = IfSome (named line.name others) (λ other. other.cap ≡ line.cap)

-- all lines belong to the ABI of this position
abbrev pub AreOf : ℕ → List CallLine → Type 0
AreOf place lines = All (λ line. line.abi ≡ place) lines

-- a second ABI follows the native one
pub record IsSecond (table : Table) (second : Abi) : Type 0 where
  pub calls : AreLines most_calls second.calls
  pub own : AreOf 1 second.calls
  pub other_name : bytes_eq second.name table.name ≡ false
  pub other_arch : second.arch == table.arch ≡ false
  pub same_caps : All (HasCapAmong table.calls) second.calls

-- the table was made from some lines
pub record IsTable (table : Table) : Type 0 where
  pub calls : AreLines most_calls table.calls
  pub native : AreOf 0 table.calls
  pub no_abi : AreOf 0 table.families
  pub families : AreLines most_families table.families
  pub groups : AreGroups (length (every_call table)) table.groups
  pub few_groups : length table.groups ≤ most_groups
  pub second : IfSome table.second (IsSecond table)

-- a table that was read also has the calls of every launch, and one kernel reads the names of all calls
pub record IsWhole (table : Table) : Type 0 where
  pub sound : IsTable table
  pub launches : missing_call table.calls ≡ None
  pub kernel : Kernel
  pub by_kernel : AreBy kernel (every_call table)

-- such a table is kept with the order of its calls by number
pub record IsKept (table : Table) (order second_order : List Numbered) : Type 0 where
  pub whole : IsWhole table
  pub by_number : AscendsByNumber table.calls order
  pub second_by_number : AscendsByNumber (second_calls table.second) second_order
