use Rattle.derive_command.specs.trace_profile.Names.{is_marked}
use Rattle.derive_command.specs.trace_profile.Searching.{tried_of}
use Rattle.derive_command.proofs.Tried.{lent_are_names, marked_serve}
use Rattle.derive_command.proofs.trace_profile.finding.begin.Goals as goal

pub serves-requires-clause-are_names : goal.serves-requires-clause-are_names
serves-requires-clause-are_names c =
    lent_are_names c.args.trial.now.calls.now (is_marked c.deref-2.result.now) c.args.every.items c.deref.result.now
    c.in_ok-used.used.items c.deref-3.result.now c.requires.serving.are_names c.deref.ensures.value
    c.in_ok-used.ensures.those_that_are_marked c.deref-3.ensures.value

pub returns-then-serves : goal.returns-then-serves
returns-then-serves c =
    marked_serve (tried_of c.args.trial.now) c.deref-2.result.now c.args.every.items c.deref.result.now c.in_ok-used.used.items
    c.deref-3.result.now c.in_ok-serves.serves
    c.requires.serving c.deref.ensures.value c.in_ok-used.ensures.those_that_are_marked c.deref-3.ensures.value
    c.in_ok-serves.ensures.tells_whether_they_serve c.if-serves.true
