use Rattle.sandbox_cli.proofs.Exits.{some_exit}
use Rattle.sandbox_cli.proofs.process.run_process.Goals as goal

pub returns : goal.returns
returns g c = record {
  exits_by_a_status =
      some_exit c.run_arguments.result c.or_out_of_memory.result c.run_arguments.ensures.exits_by_a_status
      c.or_out_of_memory.ensures.exits_unless_memory;
}
