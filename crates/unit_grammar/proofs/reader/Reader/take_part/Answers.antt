use Rattle.std.proofs.Common.{◌∙◌, ap, sym}
use Rattle.unit_grammar.specs.declared.joined.Line.{Line}
use Rattle.unit_grammar.specs.Joining.{extended}
use Rattle.unit_grammar.proofs.Passing.{passes_whole}
use Rattle.unit_grammar.proofs.reader.Reader.take_part.Goals as goal

pub returns-in_ok-push-in-Some : goal.returns-in_ok-push-in-Some
returns-in_ok-push-in-Some c = λ lines parts s.
    let part : Line = record { number = c.args.number; text = c.args.part.now } in
    passes_whole lines _ _ part _ parts _ _ _ _ _ _ c.take.result (sym c.continues_line.ensures.ends_open ∙ c.if-continues_line.false)
    (ap (λ text. record { number = c.in-Some.line.number; text = text }) (c.as_str.ensures.same_text ∙ c.in_ok-push-in-Some.ensures.longer) ∙ ap (λ b. extended b part) c.in-Some.ensures.value)
    (c.take.ensures.begun ∙ c.take-begun.ensures.after) s (c.take.ensures.taken s.front s.read)

pub returns-in-None : goal.returns-in-None
returns-in-None c = λ lines parts s.
    let part : Line = record { number = c.args.number; text = c.args.part.now } in
    passes_whole lines _ _ part _ parts _ _ _ _ _ _ c.take-in-None.result (sym c.continues_line.ensures.ends_open ∙ c.if-continues_line.false)
    (ap (λ b. extended b part) c.in-None.ensures.value)
    (c.take-in-None.ensures.begun ∙ c.take-begun.ensures.after) s (c.take-in-None.ensures.taken s.front s.read)
