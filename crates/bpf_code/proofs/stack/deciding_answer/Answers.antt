use Rattle.bpf_code.proofs.Stacks.{asked_none, asked_more, asked_all}
use Rattle.bpf_code.proofs.stack.deciding_answer.Goals as goal

pub loop-program-init : goal.loop-program-init
loop-program-init c = asked_none c.args.programs.now c.args.input.now

pub loop-program-preserved : goal.loop-program-preserved
loop-program-preserved c = asked_more _ _ _ _ _ _ _ c.loop-program-test.true c.program-item.is c.loop-program.invariant
    c.run.ensures.answers c.with_newer.ensures

pub returns-clause-each : goal.returns-clause-each
returns-clause-each c = asked_all c.args.programs.now c.args.input.now _ _ c.loop-program-test.false c.loop-program.invariant
