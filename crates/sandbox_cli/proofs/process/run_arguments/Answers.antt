use Rattle.sandbox_cli.proofs.Exits.{made_exit}
use Rattle.sandbox_cli.proofs.process.run_arguments.Goals as goal

pub returns : goal.returns
returns g c = record { exits_by_a_status = made_exit _ c.run_with_tests.result c.run_with_tests.ensures.faults_have_causes }
