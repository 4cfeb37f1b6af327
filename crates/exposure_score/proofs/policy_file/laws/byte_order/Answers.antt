use Rattle.exposure_score.proofs.Exact.{first_in_byte_order}
use Rattle.exposure_score.proofs.Ordered.{text_ascends}
use Rattle.exposure_score.proofs.policy_file.laws.byte_order.Goals as goal

pub returns : goal.returns
returns c = record { ascending = text_ascends; first_fault = first_in_byte_order }
