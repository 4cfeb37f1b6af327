-- A command reads its inputs by these calls, in this order. Each answer is judged before the next call.
use Rattle.std.specs.Prelude.{ℕ, List, [], ◌∷◌, ◌++◌}
use Rattle.exec_settings.specs.host_io.Agreeing.{ForFiles}
use Rattle.exec_settings.specs.host_io.Calls.{Ask, ShelfCall, Course, AsksExactly, unless_refused}
use Rattle.exec_settings.specs.host_io.Files.{Files}
use Rattle.exec_settings.specs.dropin_merge.Asking.{resolve_asks}
use Rattle.unit_inputs.specs.command_answers.Asking.{input_file, unless_told}
use Rattle.unit_inputs.specs.command_answers.ReadFiles.{table_path}
use Rattle.unit_inputs.specs.command_answers.CommandErrors.{first_refusal}
use Rattle.unit_inputs.specs.CallsRefusals.{calls_in}
use Rattle.unit_inputs.specs.Inputs.{input_refusals}
use Rattle.unit_inputs.specs.SiteRefusals.{site_path}
use Rattle.unit_inputs.specs.UnitRefusals.{unit_in}

-- the shelf got exactly the calls that the files call for, in this order, up to the end of the reading; this holds of all files
-- that agree with its answers
pub record AsksInOrder {S : Type 0} (asks : S → ShelfCall → S → Type 0) (agrees : Files → Type 0) (wanted : Files → List Ask) (before now : S) (how : Course) : Type 0 where
  pub by_the_files : ForFiles agrees (λ files. AsksExactly asks before now (wanted files) how)

-- the call for calls.txt, and the call for site.toml
abbrev pub table_asks : List Ask
table_asks = input_file table_path ∷ []

abbrev pub site_asks : List Ask
site_asks = input_file site_path ∷ []

-- the unit, then calls.txt, then site.toml; nothing is read after a refusal
abbrev pub input_asks : Files → List ℕ → List Ask
input_asks files unit = resolve_asks files unit ++ unless_refused (unit_in files unit)
    (table_asks ++ unless_refused (calls_in files) site_asks)

-- a file follows these inputs, if none of them is refused
abbrev pub asks_with_file : Files → List ℕ → List ℕ → List Ask
asks_with_file files unit path = input_asks files unit ++ unless_told (first_refusal (input_refusals files unit)) (input_file path ∷ [])
