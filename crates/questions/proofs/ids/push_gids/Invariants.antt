use Rattle.std.proofs.Common.{◌≡◌, ◌++◌, take, map}
use Rattle.questions.proofs.ids.push_gids.Given as goal

abbrev pub invariant-loop-group : goal.invariant-loop-group
invariant-loop-group l = l.ids.items ≡ l.initial.ids.items ++ map (λ group. group.gid) (take l.group-index l.groups)
