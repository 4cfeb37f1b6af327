use Rattle.exposure_score.proofs.Exact.{accepted_holds, exact_tests}
use Rattle.exposure_score.proofs.policy_file.laws.accepted_policies.Goals as goal

pub returns : goal.returns
returns c = record { holds = accepted_holds; exact_tests = exact_tests }
