use Rattle.std.proofs.Common.{Err, rules}
use Rattle.host_io.specs.Calls.{NamesIn}
use Rattle.host_io.specs.declared.reading.ShelfError.TheVariants as shelf
use Rattle.dropin_merge.proofs.Asking.{call_ends}
use Rattle.dropin_merge.proofs.Collected.{lists_place}
use Rattle.dropin_merge.proofs.listing.list_place.Goals as goal

pub returns-in-Ok-clause-lists_the_folder : goal.returns-in-Ok-clause-lists_the_folder
returns-in-Ok-clause-lists_the_folder g c = lists_place (g.S.Shelf.agrees c.list.new.self) c.args.place.now c.in-Ok.names c.in-Ok.ensures.answers_by_the_files

pub returns-in-Err-Failed-clause-asks_for_it : goal.returns-in-Err-Failed-clause-asks_for_it
returns-in-Err-Failed-clause-asks_for_it g c =
    call_ends g.S.Shelf.asks c.args.shelf.now c.list.new.self (NamesIn c.args.place.now) c.list.result (Err shelf.Failed)
    (search rules) c.list.ensures.asks_for_it

pub returns-in-Err-Memory-clause-asks_for_it : goal.returns-in-Err-Memory-clause-asks_for_it
returns-in-Err-Memory-clause-asks_for_it g c =
    call_ends g.S.Shelf.asks c.args.shelf.now c.list.new.self (NamesIn c.args.place.now) c.list.result (Err shelf.Memory)
    (search rules) c.list.ensures.asks_for_it
