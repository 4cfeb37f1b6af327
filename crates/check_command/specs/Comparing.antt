-- The result of comparing a program with a filter of a unit.
use Rattle.std.specs.Prelude.{◌≡◌, ◌≢◌, ℕ, List, Some, None, Result, Ok, Err}
use Rattle.filter_check.specs.bpf_code.declared.machine.CallData.{CallData}
use Rattle.filter_check.specs.bpf_code.declared.machine.Insn.{Insn}
use Rattle.filter_check.specs.call_rules.Action.{word_of}
use Rattle.unit_inputs.specs.call_table.Table.{Table}
use Rattle.filter_check.specs.Finding.{Finds}
use Rattle.filter_check.specs.declared.outcome.CheckError.{CheckError}
use Rattle.filter_check.specs.declared.outcome.CheckError.TheVariants.{Memory}
use Rattle.filter_check.specs.declared.outcome.Outcome.{Outcome}
use Rattle.unit_inputs.specs.filter_settings.filter_rules.Names.{Place}
use Rattle.unit_inputs.specs.filter_settings.filter_rules.Wanted.{wanted_action}
use Rattle.unit_inputs.specs.filter_settings.declared.filter_rules.settings.FilterSettings.{FilterSettings}
use Rattle.check_command.specs.Causes.{check_line, no_filter_line}
use Rattle.check_command.specs.Naming.{named_place}

-- the word that the settings want from a filter, for an ABI and the data of a call
abbrev pub wanted_word : FilterSettings → Table → Place → CallData → ℕ
wanted_word settings table place input = word_of (wanted_action place.0 settings table place.1 input)

-- A program is compared with wanted words over all call data. The result is the outcome, or the line that says why the program
-- is not compared.
pub data Compares (path : List ℕ) (code : List Insn) (wanted : CallData → ℕ) : Result Outcome (List ℕ) → Type 0 where
  not_compared : (error : CheckError) → error ≢ Memory → Finds code wanted (Err error)
      → Compares path code wanted (Err (check_line path error))
  is_compared : (outcome : Outcome) → Finds code wanted (Ok outcome) → Compares path code wanted (Ok outcome)

-- And so with the filter that a name means; where it is not on, the unit is refused for it.
pub data ComparesNamed (unit name path : List ℕ) (settings : FilterSettings) (table : Table) (code : List Insn) : Result Outcome (List ℕ) → Type 0 where
  not_on : named_place settings table name ≡ None → ComparesNamed unit name path settings table code (Err (no_filter_line unit name))
  is_on : (place : Place) (said : Result Outcome (List ℕ)) → named_place settings table name ≡ Some place
      → Compares path code (wanted_word settings table place) said → ComparesNamed unit name path settings table code said
