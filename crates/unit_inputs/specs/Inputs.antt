-- The inputs of a command on a unit, and the lines of their refusals.
use Rattle.std.specs.Prelude.{ℕ, List, [], ◌∷◌, Option, Some, None, Result, Ok, Err}
use Rattle.exec_settings.specs.host_io.Files.{Files}
use Rattle.exec_settings.specs.call_table.Kernels.{known_by}
use Rattle.exec_settings.specs.call_table.Table.{Table}
use Rattle.exec_settings.specs.call_table.declared.call_names.kernel.Kernel.{Kernel}
use Rattle.exec_settings.specs.call_table.declared.call_names.kernel.Kernel.TheVariants.{Base, Linux}
use Rattle.exec_settings.specs.dropin_merge.Changed.{read_by}
use Rattle.exec_settings.specs.dropin_merge.declared.resolved.Resolved.{Resolved}
use Rattle.exec_settings.specs.site_table.Table.{Site}
use Rattle.exec_settings.specs.unit_names.declared.version.Version.{Version}
use Rattle.unit_inputs.specs.command_answers.CommandErrors.{refusal_in}
use Rattle.unit_inputs.specs.declared.inputs.UnitInputs.{UnitInputs}
use Rattle.unit_inputs.specs.CallsRefusals.{calls_in}
use Rattle.unit_inputs.specs.SiteRefusals.{site_in}
use Rattle.unit_inputs.specs.UnitRefusals.{unit_in}

-- the order of refusals: the unit, then calls.txt, then site.toml
abbrev pub input_refusals : Files → List ℕ → List (Option (List ℕ))
input_refusals files unit = refusal_in (unit_in files unit) ∷ refusal_in (calls_in files) ∷ refusal_in (site_in files) ∷ []

-- the inputs of a command on a unit
pub record Inputs : Type 0 where
  pub unit : Resolved
  pub calls : Table
  pub site : Site

abbrev pub inputs_view : UnitInputs → Inputs
inputs_view inputs = record { unit = inputs.unit.value; calls = inputs.calls.value; site = inputs.site.value }

-- the kernel of a site is Linux if the site has a version of systemd
abbrev pub kernel_of : Option Version → Kernel
kernel_of None = Base
kernel_of (Some version) = Linux

-- all three inputs, if none is refused; the rules of the site's systemd apply to the unit, and its kernel reads the names of calls
abbrev pub all_three : Result Resolved (List ℕ) → Result Table (List ℕ) → Result Site (List ℕ) → Option Inputs
all_three (Ok unit) (Ok calls) (Ok site) = Some (record { unit = read_by site.systemd unit; calls = known_by (kernel_of site.systemd) calls; site = site })
all_three (Err line) calls site = None
all_three (Ok unit) (Err line) site = None
all_three (Ok unit) (Ok calls) (Err line) = None

-- the inputs of a unit over these files
abbrev pub inputs_of : Files → List ℕ → Option Inputs
inputs_of files unit = all_three (unit_in files unit) (calls_in files) (site_in files)
