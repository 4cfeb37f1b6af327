use Rattle.std.proofs.Common.{map, arith}
use Rattle.std.specs.BTreeMap.{get_by_text}
use Rattle.std.specs.Option.{option_or}
use Rattle.std.specs.String.{string_bytes}
use Rattle.std.proofs.lemmas.List.{drop_all}
use Rattle.score_command.specs.fleet_command.fleet_names.Steps.{unit_among}
use Rattle.score_command.proofs.Taking.{names_all, names_more}
use Rattle.score_command.proofs.fleet_command.fleet_names.collecting.take_names.Goals as goal

pub loop-name-preserved : goal.loop-name-preserved
loop-name-preserved c = λ q.
    names_more c.loop-name.units c.take_name.new.units c.args.names.now c.loop-name.name-index c.name-item.result c.as_str.result.now
    (option_or (unit_among (map string_bytes c.args.names.now) q) (get_by_text c.args.units.now q)) q
    c.loop-name-test.true c.name-item.is c.as_str.ensures.value (c.loop-name.invariant q) (c.in_ok-take_name.ensures.takes_the_unit q)

pub returns-clause-takes_the_units : goal.returns-clause-takes_the_units
returns-clause-takes_the_units c = λ q.
    names_all c.loop-name.units _ (option_or (unit_among (map string_bytes c.args.names.now) q) (get_by_text c.args.units.now q)) q
    (drop_all c.loop-name.name-index c.args.names.now (omega arith)) (c.loop-name.invariant q)
