use Rattle.kernel_ways.specs.kernel_laws.Launched.{launch_of}
use Rattle.ceilings.proofs.Ruling.{by_native, by_second}
use Rattle.ceilings.proofs.ruled.LineRules.let_through.Goals as goal

pub returns-then-lets_some : goal.returns-then-lets_some
returns-then-lets_some c = record {
  some_call_passes = by_native (launch_of c.args.world.now) c.args.kind c.call_table-table.result.now c.call_table-table.ensures.told
      c.calls.result.now c.calls.ensures.lists
      c.lets_some.result c.lets_some.ensures c.if-lets_some.true;
}

pub returns-else-lets_some : goal.returns-else-lets_some
returns-else-lets_some c = record {
  some_call_passes = by_second (launch_of c.args.world.now) c.args.kind c.call_table-table.result.now c.call_table-table.ensures.told
      c.calls.result.now c.calls.ensures.lists
      c.lets_some.result c.lets_some.ensures c.if-lets_some.false c.calls_in.result.now c.calls_in.ensures.lists
      c.lets_some-else-lets_some.result c.lets_some-else-lets_some.ensures;
}
