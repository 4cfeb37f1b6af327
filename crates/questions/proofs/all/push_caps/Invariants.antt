use Rattle.std.proofs.Common.{◌≡◌, ◌++◌, ◌-◌, map}
use Rattle.kernel_laws.specs.Questions.{count_from}
use Rattle.kernel_laws.specs.declared.question_types.question.Question.TheVariants.{Cap}
use Rattle.questions.proofs.all.push_caps.Given as goal

-- what was added, and what is left to add
abbrev pub invariant-loop-cap : goal.invariant-loop-cap
invariant-loop-cap l = l.list.items ++ map Cap (count_from l.cap (41 - l.cap)) ≡ l.initial.list.items ++ map Cap (count_from 0 41)
