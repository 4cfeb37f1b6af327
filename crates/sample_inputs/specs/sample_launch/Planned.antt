-- The plan of a sample, and its program on the plan.
use Rattle.std.specs.Prelude.{◌≡◌, ℕ, List, [], Some, Ok, slice_get}
use Rattle.launcher.specs.dropin_merge.declared.resolved.Resolved.{Resolved}
use Rattle.launcher.specs.exec_settings.Mounts.{unit_mentions}
use Rattle.launcher.specs.kern_mounts.Entry.{entry_of}
use Rattle.launcher.specs.kern_mounts.Finds.{finds, row}
use Rattle.launcher.specs.kern_mounts.Table.{no_flags}
use Rattle.launcher.specs.kern_mounts.declared.step.MountStep.{MountStep}
use Rattle.launcher.specs.kern_mounts.declared.step.What.TheVariants.{Host}
use Rattle.launcher.specs.mount_plan.Host.{host_of}
use Rattle.launcher.specs.mount_plan.Planned.{planned}
use Rattle.launcher.specs.site_table.Table.{Site, row_at}
use Rattle.sample_inputs.specs.Facts.{HasSampleRows, SaysSample, plain_exe, program}

-- no path that the unit mentions is refused at a site that has the rows of a sample
abbrev pub PathsAreNotRefused : Type 0
PathsAreNotRefused = (n : ℕ) (unit : Resolved) (site : Site) → SaysSample n unit → HasSampleRows site
    → (table : List MountStep) × (planned (host_of site) (unit_mentions unit site) ≡ Ok table)

-- the host from its root on, which says nothing of how it may be used
abbrev pub whole_host : MountStep
whole_host = record { place = []; what = Host []; flags = no_flags }

-- the program belongs to the first entry, which is the whole host, and is found there: a program of which nothing else is said
pub record FindsItsProgram (site : Site) (table : List MountStep) : Type 0 where
  pub first : slice_get table 0 ≡ Some whole_host
  pub entry : entry_of table program ≡ Some whole_host
  pub found : finds (row_at site.rows) table program ≡ row (plain_exe program)

-- a sample finds its program on its plan
abbrev pub ProgramsAreFound : Type 0
ProgramsAreFound = (n : ℕ) (unit : Resolved) (site : Site) (table : List MountStep) → SaysSample n unit → HasSampleRows site
    → planned (host_of site) (unit_mentions unit site) ≡ Ok table → FindsItsProgram site table
