use Rattle.score_command.proofs.Taking.{unit_taken}
use Rattle.score_command.proofs.fleet_command.fleet_names.collecting.take_name.Goals as goal

pub returns-in_ok-insert-in-Ok-clause-takes_the_unit : goal.returns-in_ok-insert-in-Ok-clause-takes_the_unit
returns-in_ok-insert-in-Ok-clause-takes_the_unit c = λ q.
    unit_taken c.args.units.now c.insert.new.self c.args.name.now c.in_ok-from_str-in-Ok.field-0 c.in-Ok.unit c.in_ok-from_str-in-Ok.ensures.ok c.in-Ok.ensures.reads_the_name c.in_ok-insert-in-Ok.ensures.updates q
