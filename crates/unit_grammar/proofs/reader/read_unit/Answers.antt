use Rattle.unit_grammar.specs.Reading.{unit_of}
use Rattle.unit_grammar.proofs.Answered.{accepted, refused}
use Rattle.unit_grammar.proofs.reader.read_unit.Goals as goal

pub returns-clause-reads_the_unit : goal.returns-clause-reads_the_unit
returns-clause-reads_the_unit c = accepted (unit_of c.args.bytes.now) c.read_bytes.result c.read_bytes.ensures

pub returns-clause-first_fault : goal.returns-clause-first_fault
returns-clause-first_fault c = refused (unit_of c.args.bytes.now) c.read_bytes.result c.read_bytes.ensures
