use Rattle.why_command.proofs.deciding_lines.searching.TrialSearch.attempt.Goals as goal

pub returns-then-is_open : goal.returns-then-is_open
returns-then-is_open c = record { tells = rw c.if-is_open.true at c.in_ok-is_open.ensures.tells }

pub returns-else-is_open : goal.returns-else-is_open
returns-else-is_open c = record { tells = rw c.if-is_open.false at c.in_ok-is_open.ensures.tells }
