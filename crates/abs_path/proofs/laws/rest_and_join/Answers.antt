use Rattle.abs_path.proofs.Reading.{rest_then_join, join_then_rest}
use Rattle.abs_path.proofs.ByteOrder.{text_then_rest}
use Rattle.abs_path.proofs.laws.rest_and_join.Goals as goal

pub returns : goal.returns
returns c = record { rest_then_join = rest_then_join; join_then_rest = join_then_rest; text_then_rest = text_then_rest }
