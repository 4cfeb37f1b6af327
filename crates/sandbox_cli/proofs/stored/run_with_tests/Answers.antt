use Rattle.sandbox_cli.proofs.Causes.{exits_by_causes}
use Rattle.sandbox_cli.proofs.stored.run_with_tests.Goals as goal

pub returns-clause-faults_have_causes : goal.returns-clause-faults_have_causes
returns-clause-faults_have_causes g c = exits_by_causes _ _ g.S.Shelf.faults g.K.Sink.faults g.K.Sink.taken g.K.Sink.puts _ _ _ _ _
    c.run_here.ensures.exits_as_the_words_run
