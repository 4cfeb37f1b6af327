use Rattle.plan_command.proofs.OfUnitInputs.Asking.{went_quiet}
use Rattle.plan_command.specs.unit_inputs.command_answers.Asking.{input_file}
use Rattle.std.proofs.Common.{[], ◌∷◌}
use Rattle.asked_service.proofs.script.read_script.Goals as goal

pub returns-clause-asks_for_it : goal.returns-clause-asks_for_it
returns-clause-asks_for_it g c =
    went_quiet g.S.Shelf.asks c.args.shelf.now c.read_input.new.shelf
    (input_file c.args.path.now ∷ []) c.script_of_bytes.result c.script_of_bytes.ensures.reads_nothing c.in_ok-bytes.ensures.asks_for_it
