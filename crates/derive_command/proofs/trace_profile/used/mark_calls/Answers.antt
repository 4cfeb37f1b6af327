use Rattle.std.proofs.Common.{false, get_or, arith}
use Rattle.derive_command.specs.trace_profile.Used.{is_line_of}
use Rattle.derive_command.proofs.UsedMarks.{one_more}
use Rattle.derive_command.proofs.trace_profile.used.mark_calls.Goals as goal

pub loop-call-preserved : goal.loop-call-preserved
loop-call-preserved c = λ at lt.
    one_more (is_line_of c.args.calls.now at) c.args.script.now c.loop-call.call-index c.call-item.result (omega arith) c.call-item.is
    (get_or c.args.marks.now at false) (get_or c.loop-call.marks at false) (get_or c.mark_call.new.marks at false)
    (c.loop-call.invariant at lt) (c.mark_call.ensures at (omega arith))
