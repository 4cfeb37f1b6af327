use Rattle.std.proofs.Common.{◌≡◌, ◌++◌, drop, map}
use Rattle.kernel_laws.specs.call_table.Table.{every_call}
use Rattle.kernel_laws.specs.Questions.{of_calls}
use Rattle.questions.proofs.tables.push_calls.Given as goal

-- what was added, and what is left to add
abbrev pub invariant-loop-at : goal.invariant-loop-at
invariant-loop-at l = l.list.items ++ of_calls (every_call l.table) l.at (drop l.at (every_call l.table))
    ≡ l.initial.list.items ++ of_calls (every_call l.table) 0 (every_call l.table)
