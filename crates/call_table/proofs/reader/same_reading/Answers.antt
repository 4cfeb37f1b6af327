use Rattle.call_table.proofs.Versions.{same_table}
use Rattle.call_table.proofs.reader.same_reading.Goals as goal

pub returns : goal.returns
returns c = record { same_table = same_table c.args._bytes.now }
