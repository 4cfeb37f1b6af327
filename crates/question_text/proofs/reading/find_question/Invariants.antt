use Rattle.std.proofs.Common.{◌≡◌, ℕ, ◌<◌, get_or}
use Rattle.question_text.specs.declared.printed.PrintedQuestion.{PrintedQuestion}
use Rattle.question_text.proofs.reading.find_question.Given as goal

abbrev pub invariant-loop-one : goal.invariant-loop-one
invariant-loop-one l = (k : ℕ) (one : PrintedQuestion) → k < l.one-index → (get_or l.printed k one).text.items ≡ l.text → ⊥
