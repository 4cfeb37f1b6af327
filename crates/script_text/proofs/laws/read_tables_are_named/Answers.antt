use Rattle.script_text.proofs.TablesNamed.{known_named, tables_named}
use Rattle.script_text.proofs.laws.read_tables_are_named.Goals as goal

pub returns : goal.returns
returns c = record { named = tables_named; named_by_a_kernel = known_named }
