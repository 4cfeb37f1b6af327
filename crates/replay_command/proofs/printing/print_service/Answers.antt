use Rattle.std.proofs.Common.{◌≡◌, ◌++◌, Err, length, subst}
use Rattle.std.specs.Prelude.{IfOk}
use Rattle.asked_service.proofs.OfUnitInputs.Texts.{text_at_error, text_cut, text_then}
use Rattle.replay_command.specs.Lines.{run_text}
use Rattle.asked_service.specs.report_text.Launches.{launched_line}
use Rattle.asked_service.specs.launching.Told.{told_of}
use Rattle.replay_command.specs.Texts.{count_line}
use Rattle.replay_command.proofs.Ends.{count_ends, launched_ends}
use Rattle.replay_command.proofs.printing.print_service.Goals as goal

pub returns-in_err-put_line-clause-prints_the_text : goal.returns-in_err-put_line-clause-prints_the_text
returns-in_err-put_line-clause-prints_the_text g c =
    let line = launched_line (told_of c.args.service.now.world c.args.service.now.steps) in
    let lines = run_text c.args.calls.now c.args.service.now.world c.args.script.now in
    text_at_error _ _ _ c.in_err-put_line.field-0.0 c.from_residual.result c.from_residual.ensures.1
    (text_cut _ _ line (lines ++ count_line (length c.args.script.now)) c.in_err-put_line.field-0.0
    (c.in_err-put_line.ensures.prints_the_line line
    (subst (λ own. IfOk c.launched_line.result (λ put. put.items ≡ launched_line own)) c.told.ensures.tells_the_first_process
    c.launched_line.ensures.tells_the_launch)
    (launched_ends (told_of c.args.service.now.world c.args.service.now.steps))))

pub returns-in_err-replay-clause-prints_the_text : goal.returns-in_err-replay-clause-prints_the_text
returns-in_err-replay-clause-prints_the_text g c =
    let line = launched_line (told_of c.args.service.now.world c.args.service.now.steps) in
    let lines = run_text c.args.calls.now c.args.service.now.world c.args.script.now in
    text_at_error _ _ _ c.in_err-replay.field-0.0 c.from_residual-in_err-replay.result c.from_residual-in_err-replay.ensures.1
    (text_then _ _ _ line (lines ++ count_line (length c.args.script.now)) (Err c.in_err-replay.field-0.0)
    (c.in_ok-put_line.ensures.prints_the_line line
    (subst (λ own. IfOk c.launched_line.result (λ put. put.items ≡ launched_line own)) c.told.ensures.tells_the_first_process
    c.launched_line.ensures.tells_the_launch)
    (launched_ends (told_of c.args.service.now.world c.args.service.now.steps)))
    (text_cut _ _ lines (count_line (length c.args.script.now)) c.in_err-replay.field-0.0 c.in_err-replay.ensures.prints_the_lines))

pub returns-clause-prints_the_text : goal.returns-clause-prints_the_text
returns-clause-prints_the_text g c =
    let line = launched_line (told_of c.args.service.now.world c.args.service.now.steps) in
    let lines = run_text c.args.calls.now c.args.service.now.world c.args.script.now in
    text_then _ _ _ line (lines ++ count_line (length c.args.script.now)) c.put_line-2.result
    (c.in_ok-put_line.ensures.prints_the_line line
    (subst (λ own. IfOk c.launched_line.result (λ put. put.items ≡ launched_line own)) c.told.ensures.tells_the_first_process
    c.launched_line.ensures.tells_the_launch)
    (launched_ends (told_of c.args.service.now.world c.args.service.now.steps)))
    (text_then _ _ _ lines (count_line (length c.args.script.now)) c.put_line-2.result
    c.in_ok-replay.ensures.prints_the_lines
    (c.put_line-2.ensures.prints_the_line (count_line (length c.args.script.now))
    (subst (λ own. IfOk c.count_line.result (λ put. put.items ≡ count_line (length own))) c.list.ensures.all_in_order
    c.count_line.ensures.counts)
    (count_ends (length c.args.script.now))))
