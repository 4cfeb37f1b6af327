use Rattle.std.proofs.Common.{◌≡◌, ◌++◌, drop, map}
use Rattle.kernel_laws.specs.Questions.{some_ids}
use Rattle.questions.proofs.ids.push_row_groups.Given as goal

-- what was added, and what is left to add
abbrev pub invariant-loop-row : goal.invariant-loop-row
invariant-loop-row l = l.ids.items ++ some_ids (map (λ row. row.setgid) (drop l.row-index l.rows))
    ≡ l.initial.ids.items ++ some_ids (map (λ row. row.setgid) l.rows)
