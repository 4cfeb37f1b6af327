use Rattle.std.proofs.Common.{get_or, arith, refl, ◌∙◌}
use Rattle.unit_inputs.proofs.Texts.{items_all, items_cut, items_more, nothing_printed, text_at_error}
use Rattle.filter_command.specs.Lines.{insn_line}
use Rattle.filter_command.proofs.Ends.{insn_ends}
use Rattle.filter_command.proofs.printing.print_insns.Goals as goal

pub loop-insn-init : goal.loop-insn-init
loop-insn-init g c = record { printed = nothing_printed c.args.out.now; same = refl }

pub loop-insn-preserved : goal.loop-insn-preserved
loop-insn-preserved g c = record {
  printed = items_more insn_line c.args.insns.now c.loop-insn.insn-index (record { code = 0; jt = 0; jf = 0; k = 0 })
      (get_or c.args.insns.now c.loop-insn.insn-index (record { code = 0; jt = 0; jf = 0; k = 0 })) _ _ _
      (omega arith) refl c.loop-insn.invariant.printed (c.in_ok-put_line.ensures.prints_the_line _ c.insn_line.ensures.tells_the_instruction
      (insn_ends (get_or c.args.insns.now c.loop-insn.insn-index (record { code = 0; jt = 0; jf = 0; k = 0 }))));
  same = c.in_ok-put_line.ensures.fault_rose.no_other_fault ∙ c.loop-insn.invariant.same;
}

pub returns-in_err-put_line-clause-prints_the_text : goal.returns-in_err-put_line-clause-prints_the_text
returns-in_err-put_line-clause-prints_the_text g c =
    text_at_error _ _ _ c.in_err-put_line.field-0.0 c.from_residual.result c.from_residual.ensures.1
    (items_cut insn_line c.args.insns.now c.loop-insn.insn-index (record { code = 0; jt = 0; jf = 0; k = 0 })
    (get_or c.args.insns.now c.loop-insn.insn-index (record { code = 0; jt = 0; jf = 0; k = 0 })) _ _ _ c.in_err-put_line.field-0.0
    (omega arith) refl c.loop-insn.invariant.printed
    (c.in_err-put_line.ensures.prints_the_line _ c.insn_line.ensures.tells_the_instruction
    (insn_ends (get_or c.args.insns.now c.loop-insn.insn-index (record { code = 0; jt = 0; jf = 0; k = 0 })))))

pub returns-clause-prints_the_text : goal.returns-clause-prints_the_text
returns-clause-prints_the_text g c = items_all insn_line c.args.insns.now c.loop-insn.insn-index _ _ (omega arith)
    c.loop-insn.invariant.printed
