use Rattle.std.proofs.Common.{◌∙◌, ap, map, subst, sym}
use Rattle.question_text.specs.Printed.{Reads}
use Rattle.why_command.specs.Asking.{or_refused, question_in, question_named}
use Rattle.why_command.proofs.Named.{named, unnamed}
use Rattle.why_command.proofs.Prepared.{refused_tells}
use Rattle.why_command.proofs.asking.asked_question.Goals as goal

pub returns-in-Some-clause-asks : goal.returns-in-Some-clause-asks
returns-in-Some-clause-asks c =
    ap or_refused (ap (question_named c.args.calls.now c.args.site.now) (sym (c.deref.ensures.value ∙ c.in_ok-text.ensures))
    ∙ named c.args.calls.now c.args.site.now c.deref.result.now c.in-Some.question
    (subst (Reads c.args.calls.now c.args.site.now c.deref.result.now) c.in-Some.is c.in_ok-question.ensures.reads))

pub returns-in-Some-clause-listed : goal.returns-in-Some-clause-listed
returns-in-Some-clause-listed c = (subst (Reads c.args.calls.now c.args.site.now c.deref.result.now) c.in-Some.is c.in_ok-question.ensures.reads).0.listed

pub returns-clause-asks : goal.returns-clause-asks
returns-clause-asks c =
    refused_tells c.refused_question.result c.refuse.result c.refuse.ensures.tells_the_line c.refused_question.ensures
    (question_in c.args.calls.now c.args.site.now (map (λ word. word.now) c.args.words.now))
    (ap or_refused (ap (question_named c.args.calls.now c.args.site.now) (sym (c.deref.ensures.value ∙ c.in_ok-text.ensures))
    ∙ unnamed c.args.calls.now c.args.site.now c.deref.result.now
    (subst (Reads c.args.calls.now c.args.site.now c.deref.result.now) c.in-None.is c.in_ok-question.ensures.reads)))
