use Rattle.exposure_score.proofs.Quotients.{term_is_rounded_up, exposure_is_rounded_up, only_one}
use Rattle.exposure_score.proofs.laws.rounding.Goals as goal

pub returns : goal.returns
returns c = record { term = term_is_rounded_up; exposure = exposure_is_rounded_up; only_one = only_one }
