use Rattle.std.proofs.Common.{take}
use Rattle.filter_check.specs.word_sets.Words.{IsChoice}
use Rattle.filter_check.proofs.word_sets.choosing.choose.Given as goal

abbrev pub invariant-loop-condition : goal.invariant-loop-condition
invariant-loop-condition l = IsChoice (take l.condition-index l.conditions) l.cube l.chosen
