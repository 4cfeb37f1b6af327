use Rattle.why_command.proofs.LeftOut.{ends, starts_held, steps, with_last}
use Rattle.why_command.proofs.deciding_lines.leaving_out.round.Goals as goal

pub loop-thing-init : goal.loop-thing-init
loop-thing-init g c = starts_held (g.S.Search.serves c.args.search.now) (g.S.Search.fails c.args.search.now) c.args.things.now _
    c.new.ensures.items c.requires.serves

pub leave_out-requires-clause-serves : goal.leave_out-requires-clause-serves
leave_out-requires-clause-serves g c = with_last (g.S.Search.serves c.args.search.now) (g.S.Search.fails c.args.search.now)
    c.args.things.now c.in-Some.before.now _ c.loop-thing.left.now c.loop-thing.kept c.in-Some.ensures.cases.0 c.loop-thing.invariant

pub loop-thing-preserved : goal.loop-thing-preserved
loop-thing-preserved g c = steps (g.S.Search.serves c.args.search.now) (g.S.Search.fails c.args.search.now) c.args.things.now
    c.in-Some.before.now _ c.loop-thing.left.now c.loop-thing.kept c.in_ok-next.next c.in-Some.ensures.cases.0 c.loop-thing.invariant
    c.in_ok-next.ensures

pub returns : goal.returns
returns g c = ends (g.S.Search.serves c.args.search.now) (g.S.Search.fails c.args.search.now) c.args.things.now c.loop-thing.left.now
    c.loop-thing.kept c.in_default.ensures.cases c.loop-thing.invariant
