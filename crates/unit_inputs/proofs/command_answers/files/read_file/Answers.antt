use Rattle.std.proofs.Common.{Err, rules}
use Rattle.exec_settings.specs.host_io.declared.reading.ShelfError.TheVariants as shelf
use Rattle.unit_inputs.specs.command_answers.Asking.{input_file}
use Rattle.unit_inputs.proofs.Asking.{call_ends}
use Rattle.unit_inputs.proofs.command_answers.files.read_file.Goals as goal

pub returns-in-Err-Failed-clause-asks_for_it : goal.returns-in-Err-Failed-clause-asks_for_it
returns-in-Err-Failed-clause-asks_for_it g c =
    call_ends g.S.Shelf.asks c.args.shelf.now c.read.new.self (input_file c.args.path.now) c.read.result (Err shelf.Failed)
    (search rules) c.read.ensures.asks_for_it

pub returns-in-Err-Memory-clause-asks_for_it : goal.returns-in-Err-Memory-clause-asks_for_it
returns-in-Err-Memory-clause-asks_for_it g c =
    call_ends g.S.Shelf.asks c.args.shelf.now c.read.new.self (input_file c.args.path.now) c.read.result (Err shelf.Memory)
    (search rules) c.read.ensures.asks_for_it
