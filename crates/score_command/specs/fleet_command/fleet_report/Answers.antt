-- When a report is refused for a fault.
use Rattle.std.specs.Prelude.{ℕ, ◌≤◌, IsErrOf, Result}
use Rattle.unit_inputs.specs.host_io.Causes.{Rose, StaysUnless}
use Rattle.score_command.specs.declared.fleet_command.fleet_report.errors.FleetError.{FleetError}
use Rattle.score_command.specs.declared.fleet_command.fleet_report.errors.FleetError.TheVariants.{ReadFault}

-- the count does not fall, a fault is answered only where it rose, and nothing else where it did
pub record HasCause {T : Type 0} (before now : ℕ) (result : Result T FleetError) : Type 0 where
  pub later : before ≤ now
  pub failed : IsErrOf result ReadFault → Rose before now
  pub no_other_fault : StaysUnless ReadFault before now result
