use Rattle.std.proofs.Common.{arith, refl, ◌∙◌, subst}
use Rattle.std.proofs.lemmas.List.{take_all}
use Rattle.asked_service.specs.unit_inputs.command_answers.Printing.{PrintsAll}
use Rattle.asked_service.proofs.OfUnitInputs.Texts.{nothing_printed, text_at_error}
use Rattle.replay_command.specs.Lines.{run_text}
use Rattle.replay_command.proofs.RunTexts.{more_made, more_printed, performed_till, printed_till}
use Rattle.replay_command.proofs.replaying.make_calls.Goals as goal

pub loop-call-init : goal.loop-call-init
loop-call-init g c = record { printed = nothing_printed c.args.out.now; same = refl; left = refl }

pub loop-call-preserved : goal.loop-call-preserved
loop-call-preserved g c = record {
  printed = more_printed c.args.calls.now c.args.world.now c.loop-call.world c.args.script.now c.loop-call.call-index c.call-item.result
      c.call-item.result _ _ _ (omega arith) c.call-item.is c.loop-call.invariant.left c.loop-call.invariant.printed
      c.in_ok-make_call.ensures.prints_the_line;
  same = c.in_ok-make_call.ensures.fault_rose.no_other_fault ∙ c.loop-call.invariant.same;
  left = more_made c.args.calls.now c.args.world.now c.loop-call.world c.args.script.now c.loop-call.call-index c.call-item.result
      c.call-item.result (g.K.Sink.taken c.args.out.now) (g.K.Sink.taken c.loop-call.out)
      (g.K.Sink.taken c.make_call.new.out) c.make_call.new.world
      (omega arith) c.call-item.is c.loop-call.invariant.left c.in_ok-make_call.ensures.makes_it;
}

pub returns-in_err-make_call-clause-prints_the_lines : goal.returns-in_err-make_call-clause-prints_the_lines
returns-in_err-make_call-clause-prints_the_lines g c =
    text_at_error _ _ _ c.in_err-make_call.field-0.0 c.from_residual.result c.from_residual.ensures.1
    (printed_till c.args.calls.now c.args.world.now c.loop-call.world c.args.script.now c.loop-call.call-index c.call-item.result
    c.call-item.result _ _ _ c.in_err-make_call.field-0.0
    (omega arith) c.call-item.is c.loop-call.invariant.left c.loop-call.invariant.printed c.in_err-make_call.ensures.prints_the_line)

pub returns-in_err-make_call-clause-performs : goal.returns-in_err-make_call-clause-performs
returns-in_err-make_call-clause-performs g c =
    performed_till c.args.calls.now c.args.world.now c.loop-call.world c.args.script.now c.loop-call.call-index c.call-item.result
    c.call-item.result _ _ _ c.in_err-make_call.field-0.0 c.from_residual.result c.make_call.new.world c.from_residual.ensures.0
    (omega arith) c.call-item.is c.loop-call.invariant.left c.loop-call.invariant.printed.takes
    c.in_err-make_call.ensures.prints_the_line.takes c.in_err-make_call.ensures.makes_it

pub returns-clause-prints_the_lines : goal.returns-clause-prints_the_lines
returns-clause-prints_the_lines g c =
    subst (λ these. PrintsAll g.K.Sink.taken g.K.Sink.puts c.args.out.now c.loop-call.out (run_text c.args.calls.now
    c.args.world.now these))
    (take_all c.loop-call.call-index c.args.script.now (omega arith)) c.loop-call.invariant.printed
