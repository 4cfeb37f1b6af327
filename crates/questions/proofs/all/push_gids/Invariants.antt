use Rattle.std.proofs.Common.{◌≡◌, ◌++◌, take, map}
use Rattle.kernel_laws.specs.declared.question_types.question.Question.TheVariants.{Gid}
use Rattle.questions.proofs.all.push_gids.Given as goal

abbrev pub invariant-loop-gid : goal.invariant-loop-gid
invariant-loop-gid l = l.list.items ≡ l.initial.list.items ++ map Gid (take l.gid-index l.gids)
