use Rattle.std.proofs.Common.{◌∷◌, [], Ok, Err, rules}
use Rattle.std.proofs.lemmas.Result.{err_from_is_err_and}
use Rattle.host_io.specs.declared.reading.ShelfError.TheVariants as shelf
use Rattle.host_io.proofs.Calling.{went_cut}
use Rattle.dropin_merge.specs.Asking.{unit_file}
use Rattle.dropin_merge.specs.declared.resolved.UnitFile.{UnitFile}
use Rattle.dropin_merge.specs.declared.files.Found.{Found}
use Rattle.dropin_merge.proofs.Asking.{call_ends, judged_then}
use Rattle.dropin_merge.proofs.files.file_at.Goals as goal

pub returns-in_err-judge_file-in-Ok-2-clause-asks_for_it : goal.returns-in_err-judge_file-in-Ok-2-clause-asks_for_it
returns-in_err-judge_file-in-Ok-2-clause-asks_for_it g c =
    let p = err_from_is_err_and c.from_residual.result c.from_residual.ensures.1 in
    rw (p.1, p.2)
    (judged_then g.S.Shelf.asks c.args.shelf.now c.read.new.self (unit_file c.args.path.now) Found UnitFile c.in_err-judge_file-in-Ok-2.field-0.0 c.in_err-judge_file-in-Ok-2.ensures.no_fault
    (call_ends g.S.Shelf.asks c.args.shelf.now c.read.new.self (unit_file c.args.path.now) c.read.result
    (Ok c.in-Ok-2.bytes) c.in-Ok-2.is c.read.ensures.asks_for_it))

pub returns-in_err-new-in-Err-TooLarge-clause-asks_for_it : goal.returns-in_err-new-in-Err-TooLarge-clause-asks_for_it
returns-in_err-new-in-Err-TooLarge-clause-asks_for_it g c =
    let p = err_from_is_err_and c.from_residual-in_err-new-in-Err-TooLarge.result c.from_residual-in_err-new-in-Err-TooLarge.ensures.1 in
    rw (p.1, p.2)
    (went_cut g.S.Shelf.asks c.args.shelf.now c.read.new.self (unit_file c.args.path.now ∷ [])
    (call_ends g.S.Shelf.asks c.args.shelf.now c.read.new.self (unit_file c.args.path.now) c.read.result (Err shelf.TooLarge)
    (search rules) c.read.ensures.asks_for_it))

pub returns-in-Err-Failed-clause-asks_for_it : goal.returns-in-Err-Failed-clause-asks_for_it
returns-in-Err-Failed-clause-asks_for_it g c =
    call_ends g.S.Shelf.asks c.args.shelf.now c.read.new.self (unit_file c.args.path.now) c.read.result (Err shelf.Failed)
    (search rules) c.read.ensures.asks_for_it

pub returns-in-Err-Memory-clause-asks_for_it : goal.returns-in-Err-Memory-clause-asks_for_it
returns-in-Err-Memory-clause-asks_for_it g c =
    call_ends g.S.Shelf.asks c.args.shelf.now c.read.new.self (unit_file c.args.path.now) c.read.result (Err shelf.Memory)
    (search rules) c.read.ensures.asks_for_it
