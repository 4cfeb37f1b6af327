use Rattle.std.proofs.lemmas.List.{take_rest}
use Rattle.bpf_code.proofs.Endings.{answers_by_run, only_answer_by_run, answers_within_by_run, count_within}
use Rattle.bpf_code.proofs.Runs.{remains_whole, remains_more, remains_ends}
use Rattle.bpf_code.proofs.interpreter.run.Goals as goal

pub loop-insn-init : goal.loop-insn-init
loop-insn-init c = rw (c.insns-code.ensures.insns, c.new-regs.ensures.all_zero)
    (remains_whole c.args.program.now c.args.input.now c.insns-code.ensures.program.accepted)

pub returns-in-End : goal.returns-in-End
returns-in-End c =
    let ends = remains_ends _ _ _ _ _ _ _ _ c.loop-insn.invariant c.in-Some.ensures.cases.0 c.in-End.ensures.effect in
    record {
      answers = answers_by_run _ _ _ _ ends.1;
      only_answer = only_answer_by_run _ _ _ _ ends.1;
      in_time = answers_within_by_run _ _ _ _ _ (count_within _ _ _ _ _ _ ends.1) ends.1;
    }

pub loop-insn-preserved : goal.loop-insn-preserved
loop-insn-preserved c =
    remains_more _ _ _ _ _ _ _ _ _ c.loop-insn.invariant c.in-Some.ensures.cases.0 c.in-Skip.ensures.effect c.in-Skip.ensures.inside
    (take_rest c.in-Some.rest.now c.in-Skip.skip)
