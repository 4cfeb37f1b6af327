use Rattle.std.proofs.Common.{Err, rules}
use Rattle.unit_inputs.specs.host_io.Calls.{NamesIn}
use Rattle.unit_inputs.specs.host_io.declared.reading.ShelfError.TheVariants as shelf
use Rattle.report_text.proofs.OfDropinMerge.Asking.{call_ends}
use Rattle.score_command.proofs.Taking.{lists_folder}
use Rattle.score_command.proofs.fleet_command.fleet_names.listing.list_folder.Goals as goal

pub returns-in-Ok-clause-lists_the_folder : goal.returns-in-Ok-clause-lists_the_folder
returns-in-Ok-clause-lists_the_folder g c = lists_folder (g.S.Shelf.agrees c.list.new.self) c.args.folder.now c.in-Ok.names c.in-Ok.ensures.answers_by_the_files

pub returns-in-Err-Failed-clause-asks_for_it : goal.returns-in-Err-Failed-clause-asks_for_it
returns-in-Err-Failed-clause-asks_for_it g c =
    call_ends g.S.Shelf.asks c.args.shelf.now c.list.new.self (NamesIn c.args.folder.now) c.list.result (Err shelf.Failed)
    (search rules) c.list.ensures.asks_for_it

pub returns-in-Err-Memory-clause-asks_for_it : goal.returns-in-Err-Memory-clause-asks_for_it
returns-in-Err-Memory-clause-asks_for_it g c =
    call_ends g.S.Shelf.asks c.args.shelf.now c.list.new.self (NamesIn c.args.folder.now) c.list.result (Err shelf.Memory)
    (search rules) c.list.ensures.asks_for_it
