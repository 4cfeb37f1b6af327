use Rattle.std.proofs.Common.{[], ◌∷◌, Err, ℕ, Vec, Global}
use Rattle.unit_inputs.specs.command_answers.Asking.{input_file}
use Rattle.unit_inputs.proofs.Asking.{told_line, went_quiet}
use Rattle.unit_inputs.proofs.files.read_input.Goals as goal

pub returns-in-Ok-Missing-clause-asks_for_it : goal.returns-in-Ok-Missing-clause-asks_for_it
returns-in-Ok-Missing-clause-asks_for_it g c =
    went_quiet g.S.Shelf.asks c.args.shelf.now c.read_file.new.shelf {T = Vec ℕ Global} (input_file c.args.path.now ∷ [])
    (Err c.refuse.result)
    (told_line c.refused_line.result c.refuse.result c.refuse.ensures.tells_the_line) c.in-Ok-Missing.ensures.asks_for_it

pub returns-in-Ok-TooLarge-clause-asks_for_it : goal.returns-in-Ok-TooLarge-clause-asks_for_it
returns-in-Ok-TooLarge-clause-asks_for_it g c =
    went_quiet g.S.Shelf.asks c.args.shelf.now c.read_file.new.shelf {T = Vec ℕ Global} (input_file c.args.path.now ∷ []) (Err c.refuse-in-Ok-TooLarge.result)
    (told_line c.refused_line-in-Ok-TooLarge.result c.refuse-in-Ok-TooLarge.result c.refuse-in-Ok-TooLarge.ensures.tells_the_line) c.in-Ok-TooLarge.ensures.asks_for_it
