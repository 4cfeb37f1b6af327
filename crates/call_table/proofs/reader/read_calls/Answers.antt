use Rattle.call_table.specs.Reading.{table_of}
use Rattle.call_table.proofs.Answered.{accepted, refused}
use Rattle.call_table.proofs.Meant.{meaning}
use Rattle.call_table.proofs.reader.read_calls.Goals as goal

pub returns-clause-reads_the_table : goal.returns-clause-reads_the_table
returns-clause-reads_the_table c = accepted (table_of c.args.bytes.now) c.read_bytes.result c.read_bytes.ensures

pub returns-clause-first_refusal : goal.returns-clause-first_refusal
returns-clause-first_refusal c = refused (table_of c.args.bytes.now) c.read_bytes.result c.read_bytes.ensures

pub returns-clause-reading_is_of_lines : goal.returns-clause-reading_is_of_lines
returns-clause-reading_is_of_lines c = meaning c.args.bytes.now
