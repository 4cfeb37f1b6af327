-- What `check` is to answer over some files.
use Rattle.std.specs.Prelude.{◌≡◌, ℕ, List, Result, Err}
use Rattle.unit_inputs.specs.host_io.Files.{Files}
use Rattle.filter_check.specs.bpf_code.declared.machine.Insn.{Insn}
use Rattle.unit_inputs.specs.exec_settings.Dynamic.{unit_filters}
use Rattle.filter_check.specs.declared.outcome.Outcome.{Outcome}
use Rattle.unit_inputs.specs.Inputs.{Inputs}
use Rattle.check_command.specs.Comparing.{ComparesNamed}
use Rattle.check_command.specs.Prepared.{AreReady, RefusesBefore}

-- The result of `check`. It is the line of the first refusal, in this order: an input, the file, a setting, no active filter
-- with this name, and why the program is not compared. Otherwise it is the outcome of the comparison: the program decides every
-- call as the settings require of the filter, or the least call data on which it does not.
pub data Answers (files : Files) (unit name path : List ℕ) : Result Outcome (List ℕ) → Type 0 where
  refused_before : (line : List ℕ) → RefusesBefore files unit path line → Answers files unit name path (Err line)
  compared : (inputs : Inputs) (code : List Insn) (said : Result Outcome (List ℕ)) → AreReady files unit path inputs code
      → ComparesNamed unit name path (unit_filters inputs.unit inputs.calls) inputs.calls code said → Answers files unit name path said

-- the files and the words determine the result
abbrev pub OneAnswer : Type 0
OneAnswer = (files : Files) (unit name path : List ℕ) (one other : Result Outcome (List ℕ))
    → Answers files unit name path one → Answers files unit name path other → one ≡ other
