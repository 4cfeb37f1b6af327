use Rattle.std.proofs.Common.{refl, subst, sym}
use Rattle.std.specs.Prelude.{flat_map}
use Rattle.unit_inputs.specs.command_answers.Printing.{HasWriteCause}
use Rattle.unit_inputs.proofs.Texts.{text_at_error, text_cut, text_then}
use Rattle.filter_command.specs.Lines.{head_line, insn_line}
use Rattle.filter_command.proofs.Ends.{head_ends}
use Rattle.filter_command.proofs.printing.print_filter.Goals as goal

pub returns-in_err-put_line-clause-prints_the_text : goal.returns-in_err-put_line-clause-prints_the_text
returns-in_err-put_line-clause-prints_the_text g c =
    text_at_error _ _ _ c.in_err-put_line.field-0.0 c.from_residual.result c.from_residual.ensures.1
    (text_cut _ _ (head_line c.args.filter.now) (flat_map insn_line c.args.filter.now.program) c.in_err-put_line.field-0.0
    (c.in_err-put_line.ensures.prints_the_line _ c.head_line.ensures.tells_the_filter (head_ends c.args.filter.now)))

pub returns-clause-prints_the_text : goal.returns-clause-prints_the_text
returns-clause-prints_the_text g c =
    text_then _ _ _ (head_line c.args.filter.now) (flat_map insn_line c.args.filter.now.program) c.print_insns.result
    (c.in_ok-put_line.ensures.prints_the_line _ c.head_line.ensures.tells_the_filter (head_ends c.args.filter.now))
    (rw c.insns.ensures.insns at c.print_insns.ensures.prints_the_text)

pub returns-clause-fault_rose : goal.returns-clause-fault_rose
returns-clause-fault_rose g c = subst (λ before. HasWriteCause before (g.K.Sink.faults c.print_insns.new.out) c.print_insns.result)
    c.in_ok-put_line.ensures.fault_rose.no_other_fault c.print_insns.ensures.fault_rose
