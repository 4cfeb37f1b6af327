-- Calls of a script that ask to push a program, seccomp(2).
use Rattle.std.specs.Prelude.{ℕ, ◌+◌, Bool, false, List, Option, codes, option_map, position}
use Rattle.std.specs.Option.{option_map_or}
use Rattle.std.specs.Str.{bytes_eq}
use Rattle.asked_service.specs.call_table.Lookups.{numbered}
use Rattle.asked_service.specs.call_table.Table.{Table, calls_in}
use Rattle.asked_service.specs.kernel_model.declared.kernel_calls.call.Call.{Call}

-- the call has the number of seccomp(2) in its ABI, whether a script writes the name or the number
abbrev pub is_seccomp : Table → Call → Bool
is_seccomp table call = option_map_or (λ line. bytes_eq line.name (codes "seccomp")) (numbered call.nr (calls_in table call.abi)) false

-- the first such call of a script, counted from 1
abbrev pub first_seccomp : Table → List Call → Option ℕ
first_seccomp table script = option_map (λ place. place + 1) (position (is_seccomp table) script)
