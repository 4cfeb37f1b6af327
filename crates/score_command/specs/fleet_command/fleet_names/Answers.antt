-- What is promised of the names.
use Rattle.std.specs.Prelude.{Vec, ◌≡◌, ℕ, ◌≤◌, true, false, IsErrOf, Result, Ok, Err}
use Rattle.std.specs.declared.alloc.Global.{Global}
use Rattle.unit_inputs.specs.host_io.Causes.{Rose, StaysUnless}
use Rattle.unit_inputs.specs.host_io.Files.{Files}
use Rattle.unit_inputs.specs.unit_names.Names.{Name}
use Rattle.score_command.specs.fleet_command.fleet_names.Units.{are_too_many, units_of}
use Rattle.score_command.specs.declared.fleet_command.fleet_names.errors.NamesError.{NamesError}
use Rattle.score_command.specs.declared.fleet_command.fleet_names.errors.NamesError.TheVariants.{TooMany, ReadFault, Memory}

-- the units of the host, or that there are too many, exactly where there are; unless a read failed or memory ran out
abbrev pub AreNamed : Files → Result (Vec Name Global) NamesError → Type 0
AreNamed files (Ok names) = (are_too_many files ≡ false) × (names.items ≡ units_of files)
AreNamed files (Err TooMany) = are_too_many files ≡ true
AreNamed files (Err ReadFault) = Unit {0}
AreNamed files (Err Memory) = Unit {0}

-- the count does not fall, a fault is answered only where it rose, and nothing else where it did
pub record HasCause {T : Type 0} (before now : ℕ) (result : Result T NamesError) : Type 0 where
  pub later : before ≤ now
  pub failed : IsErrOf result ReadFault → Rose before now
  pub no_other_fault : StaysUnless ReadFault before now result
