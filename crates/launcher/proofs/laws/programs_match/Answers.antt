use Rattle.launcher.proofs.Matching.{matching_laws}
use Rattle.launcher.proofs.laws.programs_match.Goals as goal

pub returns : goal.returns
returns c = record { matching = matching_laws }
