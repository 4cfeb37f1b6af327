use Rattle.std.proofs.Common.{◌≡◌, ◌++◌, take, map}
use Rattle.kernel_laws.specs.declared.question_types.question.Question.TheVariants.{Uid}
use Rattle.questions.proofs.all.push_uids.Given as goal

abbrev pub invariant-loop-uid : goal.invariant-loop-uid
invariant-loop-uid l = l.list.items ≡ l.initial.list.items ++ map Uid (take l.uid-index l.uids)
