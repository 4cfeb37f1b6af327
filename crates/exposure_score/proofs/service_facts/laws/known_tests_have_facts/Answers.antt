use Rattle.exposure_score.proofs.ServiceFactsKnown.{have_facts}
use Rattle.exposure_score.proofs.service_facts.laws.known_tests_have_facts.Goals as goal

pub returns : goal.returns
returns c = record { each = have_facts }
