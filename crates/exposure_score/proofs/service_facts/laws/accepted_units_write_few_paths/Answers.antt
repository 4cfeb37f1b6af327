use Rattle.exposure_score.proofs.ServiceFactsAccepted.{few_paths}
use Rattle.exposure_score.proofs.service_facts.laws.accepted_units_write_few_paths.Goals as goal

pub returns : goal.returns
returns c = record { few = few_paths }
