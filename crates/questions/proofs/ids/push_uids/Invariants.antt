use Rattle.std.proofs.Common.{◌≡◌, ◌++◌, take, map}
use Rattle.questions.proofs.ids.push_uids.Given as goal

abbrev pub invariant-loop-user : goal.invariant-loop-user
invariant-loop-user l = l.ids.items ≡ l.initial.ids.items ++ map (λ user. user.uid) (take l.user-index l.users)
