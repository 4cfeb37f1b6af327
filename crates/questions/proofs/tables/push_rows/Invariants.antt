use Rattle.std.proofs.Common.{◌≡◌, ◌++◌, drop, map}
use Rattle.kernel_laws.specs.Questions.{of_rows}
use Rattle.questions.proofs.tables.push_rows.Given as goal

-- what was added, and what is left to add
abbrev pub invariant-loop-at : goal.invariant-loop-at
invariant-loop-at l = l.list.items ++ of_rows l.at (drop l.at l.rows) ≡ l.initial.list.items ++ of_rows 0 l.rows
