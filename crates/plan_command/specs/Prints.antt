-- What `plan` prints, by the files.
use Rattle.std.specs.Prelude.{◌≡◌, ◌++◌, ℕ, IsSome, List, Option, Some}
use Rattle.unit_inputs.specs.host_io.Files.{Files}
use Rattle.mount_plan.specs.kern_mounts.declared.step.MountStep.{MountStep}
use Rattle.mount_plan.specs.Host.{host_of}
use Rattle.unit_inputs.specs.exec_settings.Mounts.{unit_mentions}
use Rattle.unit_inputs.specs.command_answers.Laws.{FileLaws}
use Rattle.unit_inputs.specs.declared.command_answers.exit_status.ExitStatus.{ExitStatus}
use Rattle.unit_inputs.specs.declared.command_answers.exit_status.ExitStatus.TheVariants.{Done}
use Rattle.unit_inputs.specs.Inputs.{Inputs, inputs_of}
use Rattle.unit_inputs.specs.unit_names.Cutting.{name_of}
use Rattle.unit_inputs.specs.Settled.{refusals_by, unit_refusals}
use Rattle.plan_command.specs.declared.command.Mounts.{Mounts}
use Rattle.plan_command.specs.Lines.{text_of}
use Rattle.plan_command.specs.Planned.{IsPlan, path_refusals}

-- the unit's paths over the host of the site: the written mentions, then the implied ones
abbrev pub refused_paths : List ℕ → Inputs → List (Option (List ℕ))
refused_paths unit inputs = path_refusals unit (host_of inputs.site) (unit_mentions inputs.unit inputs.site)

-- the order of refusals: the inputs, the settings, and then the paths
abbrev pub plan_refusals : Files → List ℕ → List (Option (List ℕ))
plan_refusals files unit = unit_refusals files unit ++ refusals_by (refused_paths unit) (inputs_of files unit)

-- the text of the plan
pub record PrintsPlan (files : Files) (unit text : List ℕ) : Type 0 where
  pub inputs : Inputs
  pub inputs_are : inputs_of files unit ≡ Some inputs
  pub table : List MountStep
  pub is_plan : IsPlan (host_of inputs.site) (unit_mentions inputs.unit inputs.site) table
  pub is_its_text : text ≡ text_of table

abbrev pub plan_laws : List ℕ → FileLaws
plan_laws unit = record {
  refusals = λ files. plan_refusals files unit;
  prints = λ files status text. PrintsPlan files unit text;
  may_end = λ status. status ≡ Done;
  reads = IsSome (name_of unit);
}

-- what is ready
abbrev pub mounts_text : Mounts → List ℕ
mounts_text mounts = text_of mounts.table

abbrev pub status_of : Mounts → ExitStatus
status_of mounts = Done
