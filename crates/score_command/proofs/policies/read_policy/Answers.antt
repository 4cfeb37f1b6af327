use Rattle.unit_inputs.proofs.Asking.{went_quiet}
use Rattle.unit_inputs.specs.command_answers.Asking.{input_file}
use Rattle.std.proofs.Common.{[], ◌∷◌}
use Rattle.score_command.proofs.policies.read_policy.Goals as goal

pub returns-clause-asks_for_it : goal.returns-clause-asks_for_it
returns-clause-asks_for_it g c =
    went_quiet g.S.Shelf.asks c.args.shelf.now c.read_input.new.shelf
    (input_file c.args.path.now ∷ []) c.policy_of_bytes.result c.policy_of_bytes.ensures.reads_nothing c.in_ok-bytes.ensures.asks_for_it
