use Rattle.std.proofs.Common.{◌≡◌, ◌++◌, drop, map}
use Rattle.kernel_laws.specs.Questions.{joined}
use Rattle.questions.proofs.ids.push_further_gids.Given as goal

-- what was added, and what is left to add
abbrev pub invariant-loop-user : goal.invariant-loop-user
invariant-loop-user l = l.ids.items ++ joined (map (λ user. user.groups) (drop l.user-index l.users))
    ≡ l.initial.ids.items ++ joined (map (λ user. user.groups) l.users)
