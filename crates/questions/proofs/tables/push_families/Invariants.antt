use Rattle.std.proofs.Common.{◌≡◌, ◌++◌, drop, map}
use Rattle.kernel_laws.specs.Questions.{of_families}
use Rattle.questions.proofs.tables.push_families.Given as goal

-- what was added, and what is left to add
abbrev pub invariant-loop-at : goal.invariant-loop-at
invariant-loop-at l = l.list.items ++ of_families l.at (drop l.at l.families) ≡ l.initial.list.items ++ of_families 0 l.families
