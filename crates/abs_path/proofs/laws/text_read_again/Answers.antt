use Rattle.abs_path.proofs.Reading.{text_no_fault, text_parts}
use Rattle.abs_path.proofs.laws.text_read_again.Goals as goal

pub returns : goal.returns
returns c = record { no_fault = text_no_fault; same_parts = text_parts }
