-- Questions that are open by some verdicts.
use Rattle.std.specs.Prelude.{◌≡◌, true, List, Any}
use Rattle.std.specs.List.{All}
use Rattle.asked_service.specs.kernel_laws.declared.question_types.question.Question.{Question}
use Rattle.asked_service.specs.declared.rows.VerdictRow.{VerdictRow}

-- a verdict on the question says that it is open
abbrev pub IsOpenIn : List VerdictRow → Question → Type 0
IsOpenIn rows question = Any (λ row. (row.question ≡ question) × (row.is_open ≡ true)) rows

abbrev pub AreOpenIn : List VerdictRow → List Question → Type 0
AreOpenIn rows list = ∥ All (IsOpenIn rows) list ∥₁
