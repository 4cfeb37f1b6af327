use Rattle.std.proofs.Common.{◌++◌, ◌∷◌, ap, refl, ◌∙◌}
use Rattle.why_command.proofs.LeftOut.{goes, stays}
use Rattle.why_command.proofs.deciding_lines.leaving_out.leave_out.Goals as goal

pub returns-in-Some : goal.returns-in-Some
returns-in-Some g c =
    goes (g.S.Search.serves c.args.search.now) (g.S.Search.fails c.args.search.now) c.args.before.now c.args.kept.things.items
    c.in_ok-others.others.items c.deref-2.result.now c.args.thing
    (c.in_ok-others.ensures ∙ ap (λ these. c.args.before.now ++ these) c.deref.ensures.value) c.deref-2.ensures.value
    (record { things = c.args.kept.things; found = c.in-Some.found }) refl
    (rw c.in-Some.is at c.in_ok-found.ensures.tells)

pub returns-in_ok-in_front-in-None : goal.returns-in_ok-in_front-in-None
returns-in_ok-in_front-in-None g c =
    stays (g.S.Search.serves c.args.search.now) (g.S.Search.fails c.args.search.now) c.args.before.now c.args.kept.things.items
    c.in_ok-others.others.items c.deref-2.result.now c.args.thing
    (c.in_ok-others.ensures ∙ ap (λ these. c.args.before.now ++ these) c.deref.ensures.value) c.deref-2.ensures.value
    (record { things = c.in_ok-in_front-in-None.field-0; found = c.args.kept.found })
    (c.in_ok-in_front-in-None.ensures ∙ ap (λ these. c.args.thing ∷ these) c.deref-in-None.ensures.value) c.requires.serves
    (rw c.in-None.is at c.in_ok-found.ensures.tells)
