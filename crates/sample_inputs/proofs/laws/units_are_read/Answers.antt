use Rattle.sample_inputs.proofs.UnitRead.{unit_reads, name_reads}
use Rattle.sample_inputs.proofs.laws.units_are_read.Goals as goal

pub returns-clause-unit : goal.returns-clause-unit
returns-clause-unit c = unit_reads

pub returns-clause-name : goal.returns-clause-name
returns-clause-name c = name_reads
