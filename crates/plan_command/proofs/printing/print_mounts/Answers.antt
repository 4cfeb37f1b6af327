use Rattle.std.proofs.Common.{arith, ◌∙◌, refl}
use Rattle.unit_inputs.proofs.Texts.{items_all, items_cut, items_more, nothing_printed, text_at_error}
use Rattle.plan_command.specs.Lines.{mount_line}
use Rattle.plan_command.proofs.Ends.{mount_ends}
use Rattle.plan_command.proofs.printing.print_mounts.Goals as goal

pub loop-step-init : goal.loop-step-init
loop-step-init g c = record { printed = nothing_printed c.args.out.now; same = refl }

pub loop-step-preserved : goal.loop-step-preserved
loop-step-preserved g c = record {
  printed = items_more mount_line c.args.steps.now c.loop-step.step-index c.step-item.result c.step-item.result _ _ _
      (omega arith) c.step-item.is c.loop-step.invariant.printed
      (c.in_ok-put_line.ensures.prints_the_line _ c.mount_line.ensures.tells_the_mount (mount_ends c.step-item.result));
  same = c.in_ok-put_line.ensures.fault_rose.no_other_fault ∙ c.loop-step.invariant.same;
}

pub returns-in_err-put_line-clause-prints_the_text : goal.returns-in_err-put_line-clause-prints_the_text
returns-in_err-put_line-clause-prints_the_text g c =
    text_at_error _ _ _ c.in_err-put_line.field-0.0 c.from_residual.result c.from_residual.ensures.1
    (items_cut mount_line c.args.steps.now c.loop-step.step-index c.step-item.result c.step-item.result _ _ _ c.in_err-put_line.field-0.0
    (omega arith) c.step-item.is c.loop-step.invariant.printed
    (c.in_err-put_line.ensures.prints_the_line _ c.mount_line.ensures.tells_the_mount (mount_ends c.step-item.result)))

pub returns-clause-prints_the_text : goal.returns-clause-prints_the_text
returns-clause-prints_the_text g c = items_all mount_line c.args.steps.now c.loop-step.step-index _ _ (omega arith)
    c.loop-step.invariant.printed
