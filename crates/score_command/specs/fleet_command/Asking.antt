-- The calls of `fleet`, in their order. Each answer is judged before the next call.
use Rattle.std.specs.Prelude.{ℕ, List, [], ◌∷◌, ◌++◌}
use Rattle.unit_inputs.specs.host_io.Calls.{Ask, unless_refused}
use Rattle.unit_inputs.specs.host_io.Files.{Files}
use Rattle.report_text.specs.exposure_score.StoredTests.{StoredTests}
use Rattle.unit_inputs.specs.command_answers.Asking.{input_file, unless_told}
use Rattle.unit_inputs.specs.command_answers.CommandErrors.{first_refusal}
use Rattle.score_command.specs.fleet_command.fleet_names.Asking.{names_asks}
use Rattle.score_command.specs.fleet_command.fleet_names.Units.{units_of}
use Rattle.score_command.specs.fleet_command.fleet_report.Asking.{rows_asks}
use Rattle.unit_inputs.specs.Asking.{site_asks, table_asks}
use Rattle.unit_inputs.specs.CallsRefusals.{calls_in}
use Rattle.unit_inputs.specs.SiteRefusals.{site_in}
use Rattle.score_command.specs.fleet_command.Refusals.{fleet_refusals, names_in}

-- the folders of units, then calls.txt, site.toml and the policy, each where nothing before it is refused
abbrev pub behind_site : Files → List ℕ → List Ask
behind_site files path = site_asks ++ unless_refused (site_in files) (input_file path ∷ [])

abbrev pub behind_names : Files → List ℕ → List Ask
behind_names files path = table_asks ++ unless_refused (calls_in files) (behind_site files path)

abbrev pub read_asks : Files → List ℕ → List Ask
read_asks files path = names_asks files ++ unless_refused (names_in files) (behind_names files path)

-- then every unit in byte order of names, whatever the outcome of each, if none of these is refused and the policy has weight
abbrev pub fleet_asks : Files → List ℕ → StoredTests → List Ask
fleet_asks files path stored = read_asks files path ++ unless_told (first_refusal (fleet_refusals files path stored))
    (rows_asks files (units_of files))
