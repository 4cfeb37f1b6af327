use Rattle.std.specs.Prelude.{not, ◌==◌}
use Rattle.derive_command.specs.trace_profile.Searching.{tried_of}
use Rattle.derive_command.proofs.Tried.{keeps_it, leaves_it, lent_are_names}
use Rattle.derive_command.proofs.trace_profile.searching.Trial.leave_out.Goals as goal

pub serves-requires-clause-are_names : goal.serves-requires-clause-are_names
serves-requires-clause-are_names c =
    lent_are_names c.args.self.now.calls.now (λ one. not (one == c.args.name)) c.args.names.items c.deref.result.now
    c.in_ok-fewer.fewer.items c.deref-2.result.now c.requires.are_names c.deref.ensures.value
    c.in_ok-fewer.ensures.all_but_one c.deref-2.ensures.value

pub returns-then-serves : goal.returns-then-serves
returns-then-serves c =
    leaves_it (tried_of c.args.self.now) c.args.names.items c.deref.result.now c.in_ok-fewer.fewer.items c.deref-2.result.now c.args.name
    c.in_ok-serves.serves c.deref.ensures.value c.in_ok-fewer.ensures.all_but_one c.deref-2.ensures.value
    c.in_ok-serves.ensures.tells_whether_they_serve c.if-serves.true

pub returns-else-serves : goal.returns-else-serves
returns-else-serves c =
    keeps_it (tried_of c.args.self.now) c.args.names.items c.deref.result.now c.in_ok-fewer.fewer.items c.deref-2.result.now c.args.name
    c.in_ok-serves.serves c.deref.ensures.value c.in_ok-fewer.ensures.all_but_one c.deref-2.ensures.value
    c.in_ok-serves.ensures.tells_whether_they_serve c.if-serves.false
