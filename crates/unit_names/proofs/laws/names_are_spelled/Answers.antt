use Rattle.unit_names.proofs.Spelling.{reading}
use Rattle.unit_names.proofs.laws.names_are_spelled.Goals as goal

pub returns : goal.returns
returns c = record { reading_is_spelling = reading }
