use Rattle.std.proofs.Common.{◌≡◌, take}
use Rattle.unit_grammar.proofs.unit.copied.Given as goal

abbrev pub invariant-loop-assignment : goal.invariant-loop-assignment
invariant-loop-assignment l = l.copies.items ≡ take l.assignment-index l.assignments
