use Rattle.std.proofs.Common.{◌∙◌, ◌++◌, ap, sym, subst, List}
use Rattle.ceilings.specs.kernel_model.declared.kernel_calls.call.Call.{Call}
use Rattle.open_calls.specs.chosen_calls.Chosen.{calls_for}
use Rattle.open_calls.specs.chosen_calls.Makers.{AreMadeByService}
use Rattle.open_calls.proofs.Makers.{choice_is_made}
use Rattle.open_calls.proofs.Shown.{choice_shows}
use Rattle.ceilings.specs.kernel_laws.Denied.{Shows}
use Rattle.ceilings.specs.kernel_laws.Launched.{launch_of}
use Rattle.open_calls.proofs.Listed.{fit}
use Rattle.open_calls.proofs.answering.calls.Goals as goal

pub returns-clause-shown : goal.returns-clause-shown
returns-clause-shown c =
    let world = c.args.service.now.world.now in
    let question = c.args.question.now in
    let chosen = choice_shows world c.args.service.now.program.now question c.requires.served c.requires.program (fit world c.requires.served question c.requires.asked) c.requires.reachable in
    let same = c.in_ok-push_calls.ensures ∙ ap (λ (calls : List Call). calls ++ calls_for (launch_of world) c.args.service.now.program.now question) c.new-calls.ensures.items in
    let P : List Call → Type 0 = λ calls. Shows world question calls in
    subst P (sym same) chosen

pub returns-clause-made_by_the_service : goal.returns-clause-made_by_the_service
returns-clause-made_by_the_service c =
    let world = c.args.service.now.world.now in
    let question = c.args.question.now in
    let made = choice_is_made world c.args.service.now.program.now question c.requires.served.launched c.requires.reachable in
    let same = c.in_ok-push_calls.ensures ∙ ap (λ (calls : List Call). calls ++ calls_for (launch_of world) c.args.service.now.program.now question) c.new-calls.ensures.items in
    subst (λ (calls : List Call). AreMadeByService world.calls calls) (sym same) made
