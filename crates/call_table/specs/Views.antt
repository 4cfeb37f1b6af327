-- Contracts see the values of the code in this way.
use Rattle.std.specs.Prelude.{List, [], Option, Some, None}
use Rattle.std.specs.Option.{option_map}
use denote.Ref.{Bor}
use Rattle.call_table.specs.Table.{Abi, Table}
use Rattle.call_table.specs.declared.listed.CallLine.{CallLine}
use Rattle.call_table.specs.declared.lists.SecondAbi.{SecondAbi}
use Rattle.call_table.specs.declared.lists.Lists.{Lists}

abbrev pub made_second : SecondAbi → Abi
made_second second = record { name = second.name; arch = second.arch; calls = second.calls }

-- the table of some lists
abbrev pub made : Lists → Table
made lists = record {
  name = lists.name;
  arch = lists.arch;
  calls = lists.calls;
  families = lists.families;
  groups = lists.groups;
  second = option_map made_second lists.second;
}

-- the calls of an ABI, if there is one
abbrev pub lines_seen : Option (Bor (List CallLine)) → List CallLine
lines_seen None = []
lines_seen (Some calls) = calls.now
