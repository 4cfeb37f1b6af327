-- The kernel that reads the names of the calls of a table.
use Rattle.std.specs.Prelude.{◌≡◌, List, map}
use Rattle.std.specs.List.{All}
use Rattle.std.specs.Option.{option_map}
use Rattle.call_table.specs.Table.{Abi, Table}
use Rattle.call_table.specs.declared.call_names.kernel.Kernel.{Kernel}
use Rattle.call_table.specs.declared.listed.CallLine.{CallLine}

-- the kernel reads the name of a call
abbrev pub read_by : Kernel → CallLine → CallLine
read_by kernel line =
    record { name = line.name; number = line.number; cap = line.cap; abi = line.abi; kernel = kernel }

abbrev pub calls_by : Kernel → List CallLine → List CallLine
calls_by kernel calls = map (read_by kernel) calls

abbrev pub second_by : Kernel → Abi → Abi
second_by kernel second = record { name = second.name; arch = second.arch; calls = calls_by kernel second.calls }

-- the kernel reads the names of all calls; families stay as they are
abbrev pub known_by : Kernel → Table → Table
known_by kernel table =
    record {
      name = table.name;
      arch = table.arch;
      calls = calls_by kernel table.calls;
      families = table.families;
      groups = table.groups;
      second = option_map (second_by kernel) table.second;
    }

-- this kernel reads the names of these calls
abbrev pub AreBy : Kernel → List CallLine → Type 0
AreBy kernel calls = All (λ call. call.kernel ≡ kernel) calls
