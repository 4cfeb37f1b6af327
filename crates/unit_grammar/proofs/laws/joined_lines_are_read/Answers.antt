use Rattle.unit_grammar.proofs.Falling.{joining}
use Rattle.unit_grammar.proofs.Meant.{meaning}
use Rattle.unit_grammar.proofs.laws.joined_lines_are_read.Goals as goal

pub returns : goal.returns
returns c = record { joining_is_by_stretches = joining; kinds_are_meanings = meaning }
