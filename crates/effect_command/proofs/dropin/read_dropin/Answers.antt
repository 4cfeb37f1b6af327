use Rattle.asked_service.proofs.OfUnitInputs.Asking.{went_quiet}
use Rattle.asked_service.specs.unit_inputs.command_answers.Asking.{input_file}
use Rattle.std.proofs.Common.{[], ◌∷◌}
use Rattle.effect_command.proofs.dropin.read_dropin.Goals as goal

pub returns-clause-asks_for_it : goal.returns-clause-asks_for_it
returns-clause-asks_for_it g c =
    went_quiet g.S.Shelf.asks c.args.shelf.now c.read_input.new.shelf
    (input_file c.args.path.now ∷ []) c.said.result c.said.ensures.reads_nothing c.in_ok-bytes.ensures.asks_for_it
