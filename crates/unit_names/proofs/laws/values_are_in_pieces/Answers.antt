use Rattle.unit_names.proofs.Escapes.{unescaping}
use Rattle.unit_names.proofs.Pieces.{expanding}
use Rattle.unit_names.proofs.laws.values_are_in_pieces.Goals as goal

pub returns : goal.returns
returns c = record { expanding_is_by_pieces = expanding; unescaping_is_by_pieces = unescaping }
