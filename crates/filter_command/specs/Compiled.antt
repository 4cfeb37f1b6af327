-- What compiled filters do (systemd.exec(5), seccomp(2)).
use Rattle.std.specs.Prelude.{◌≡◌, ◌≤◌, ℕ, ◌+◌, List, length, map}
use Rattle.std.specs.List.{All, sum_by}
use Rattle.launcher.specs.bpf_code.Meaning.{AnswersWithin, IsCallData}
use Rattle.launcher.specs.bpf_code.Reading.{Accepts, bytes_of}
use Rattle.launcher.specs.bpf_code.declared.machine.CallData.{CallData}
use Rattle.launcher.specs.call_rules.Action.{word_of}
use Rattle.launcher.specs.call_table.Table.{Table}
use Rattle.launcher.specs.filter_settings.filter_rules.Installed.{installed}
use Rattle.launcher.specs.filter_settings.filter_rules.Wanted.{wanted_action}
use Rattle.launcher.specs.filter_settings.declared.filter_rules.settings.FilterSettings.{FilterSettings}
use Rattle.launcher.specs.declared.filters.FilterProgram.{FilterProgram}

-- for all data of a call, the program gives the action that the settings require of the filter with its name for its ABI, after
-- at most 96 instructions
abbrev pub DoesAsWanted : FilterSettings → Table → FilterProgram → Type 0
DoesAsWanted settings table one = (input : CallData) → IsCallData input
    → AnswersWithin 96 one.program input (word_of (wanted_action one.name settings table one.abi input))

-- the room that programs take in a stack: each takes 4 beside its instructions (seccomp(2), ENOMEM)
abbrev pub room_of : List FilterProgram → ℕ
room_of programs = sum_by (λ one. length one.program + 4) programs

-- exactly the programs of the filters that are on, in the order in which they are installed; each does as wanted, its bytes are accepted as
-- the very program, and all fit into one stack
pub record AreFilters (settings : FilterSettings) (table : Table) (filters : List FilterProgram) : Type 0 where
  pub placed : map (λ one. (one.name, one.abi)) filters ≡ installed settings table
  pub do_as_wanted : All (DoesAsWanted settings table) filters
  pub accepted : All (λ one. Accepts (bytes_of one.program) one.program) filters
  pub fit_into_a_stack : room_of filters ≤ 32768
