use Rattle.std.proofs.Common.{Some, ◌∙◌, ap, sym}
use Rattle.unit_grammar.proofs.Passing.{passes_begun}
use Rattle.unit_grammar.proofs.reader.Reader.take_begun.Goals as goal

pub returns-in-Some-clause-passed : goal.returns-in-Some-clause-passed
returns-in-Some-clause-passed c = λ lines s.
    passes_begun lines _ _ _ _ _ _ _ _ _ c.take-in-Some.result
    (sym c.in-Some.ensures.value ∙ ap (λ text. Some (record { number = c.in-Some.line.number; text = text }))
    (sym c.as_str.ensures.same_text))
    (c.take-in-Some.ensures.begun ∙ c.take.ensures.after) s (c.take-in-Some.ensures.taken s.front s.read)
