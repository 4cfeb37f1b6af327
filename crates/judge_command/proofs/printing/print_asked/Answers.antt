use Rattle.std.proofs.Common.{◌≡◌, ◌++◌, Err, Ok, ap, length, subst, ◌∙◌}
use Rattle.std.specs.Prelude.{IfOk}
use Rattle.asked_service.proofs.OfUnitInputs.Texts.{text_short, text_then}
use Rattle.asked_service.specs.launching.Told.{told_of}
use Rattle.asked_service.specs.Asking.{world_in}
use Rattle.judge_command.specs.Asked.{denied_among}
use Rattle.asked_service.specs.ByRule.{answers_of}
use Rattle.judge_command.proofs.Ends.{count_ends, launched_ends}
use Rattle.judge_command.proofs.Counted.{count_is, few_are}
use Rattle.judge_command.proofs.Texts.{answers_part, answers_put, behind_launch, count_part, folders_part, folders_put, launch_part}
use Rattle.judge_command.proofs.Texts.{launch_told}
use Rattle.judge_command.proofs.printing.print_asked.Goals as goal

pub overflow_sub-questions : goal.overflow_sub-questions
overflow_sub-questions g c =
    few_are c.args.asked.now c.requires.asked c.print_answers.new.denied (length c.as_slice-questions.result.now)
    (c.in_ok-print_answers.ensures.counts ∙ ap (denied_among c.args.asked.now) c.as_slice-questions.ensures.value)
    (ap length c.as_slice-questions.ensures.value)

pub returns-in_err-put_line-clause-prints_the_text : goal.returns-in_err-put_line-clause-prints_the_text
returns-in_err-put_line-clause-prints_the_text g c =
    let asked = c.args.asked.now in
    text_short _ _ (launch_part asked) (answers_part asked ++ (folders_part asked ++ count_part asked)) c.in_err-put_line.field-0.0
    c.from_residual.result c.from_residual.ensures.1
    (c.in_err-put_line.ensures.prints_the_line (launch_part asked)
    (launch_told asked c.told.result c.launched_line.result c.told.ensures.tells_the_first_process
    c.launched_line.ensures.tells_the_launch)
    (launched_ends (told_of (world_in asked) asked.bounded.service.steps)))

pub returns-in_err-print_answers-clause-prints_the_text : goal.returns-in_err-print_answers-clause-prints_the_text
returns-in_err-print_answers-clause-prints_the_text g c =
    let asked = c.args.asked.now in
    let error = c.in_err-print_answers.field-0.0 in
    behind_launch asked _ c.put_line.new.out _ c.from_residual-in_err-print_answers.result
    (c.in_ok-put_line.ensures.prints_the_line (launch_part asked)
    (launch_told asked c.told.result c.launched_line.result c.told.ensures.tells_the_first_process
    c.launched_line.ensures.tells_the_launch)
    (launched_ends (told_of (world_in asked) asked.bounded.service.steps)))
    (text_short _ _ (answers_part asked) (folders_part asked ++ count_part asked) error c.from_residual-in_err-print_answers.result
    c.from_residual-in_err-print_answers.ensures.1
    (answers_put asked g.K.Sink.taken g.K.Sink.puts c.put_line.new.out c.print_answers.new.out c.as_slice-questions.result.now
    (Err error) c.requires.asked c.as_slice-questions.ensures.value c.in_err-print_answers.ensures.prints_the_text))

pub returns-in_err-print_folders-clause-prints_the_text : goal.returns-in_err-print_folders-clause-prints_the_text
returns-in_err-print_folders-clause-prints_the_text g c =
    let asked = c.args.asked.now in
    let error = c.in_err-print_folders.field-0.0 in
    behind_launch asked _ c.put_line.new.out _ c.from_residual-in_err-print_folders.result
    (c.in_ok-put_line.ensures.prints_the_line (launch_part asked)
    (launch_told asked c.told.result c.launched_line.result c.told.ensures.tells_the_first_process
    c.launched_line.ensures.tells_the_launch)
    (launched_ends (told_of (world_in asked) asked.bounded.service.steps)))
    (text_then c.put_line.new.out c.print_answers.new.out _ (answers_part asked)
    (folders_part asked ++ count_part asked) c.from_residual-in_err-print_folders.result
    (answers_put asked g.K.Sink.taken g.K.Sink.puts c.put_line.new.out c.print_answers.new.out c.as_slice-questions.result.now
    (Ok tt) c.requires.asked c.as_slice-questions.ensures.value c.in_ok-print_answers.ensures.prints_the_text)
    (text_short _ _ (folders_part asked) (count_part asked) error c.from_residual-in_err-print_folders.result
    c.from_residual-in_err-print_folders.ensures.1
    (folders_put asked g.K.Sink.taken g.K.Sink.puts c.print_answers.new.out c.print_folders.new.out c.rows-rows.result.now
    (Err error) (c.rows-rows.ensures.rows ∙ ap (λ site. site.rows) c.site_table.ensures.told)
    c.in_err-print_folders.ensures.prints_the_text)))

pub returns-clause-prints_the_text : goal.returns-clause-prints_the_text
returns-clause-prints_the_text g c =
    let asked = c.args.asked.now in
    behind_launch asked _ c.put_line.new.out _ c.put_line-2.result
    (c.in_ok-put_line.ensures.prints_the_line (launch_part asked)
    (launch_told asked c.told.result c.launched_line.result c.told.ensures.tells_the_first_process
    c.launched_line.ensures.tells_the_launch)
    (launched_ends (told_of (world_in asked) asked.bounded.service.steps)))
    (text_then c.put_line.new.out c.print_answers.new.out _ (answers_part asked)
    (folders_part asked ++ count_part asked) c.put_line-2.result
    (answers_put asked g.K.Sink.taken g.K.Sink.puts c.put_line.new.out c.print_answers.new.out c.as_slice-questions.result.now
    (Ok tt) c.requires.asked c.as_slice-questions.ensures.value c.in_ok-print_answers.ensures.prints_the_text)
    (text_then c.print_answers.new.out c.print_folders.new.out _ (folders_part asked)
    (count_part asked) c.put_line-2.result
    (folders_put asked g.K.Sink.taken g.K.Sink.puts c.print_answers.new.out c.print_folders.new.out c.rows-rows.result.now (Ok tt)
    (c.rows-rows.ensures.rows ∙ ap (λ site. site.rows) c.site_table.ensures.told) c.in_ok-print_folders.ensures.prints_the_text)
    (c.put_line-2.ensures.prints_the_line (count_part asked)
    (subst (λ own. IfOk c.summary_line.result (λ put. put.items ≡ own))
    (count_is asked c.requires.asked c.print_answers.new.denied (length c.as_slice-questions.result.now)
    (c.in_ok-print_answers.ensures.counts ∙ ap (denied_among asked) c.as_slice-questions.ensures.value)
    (ap length c.as_slice-questions.ensures.value))
    c.summary_line.ensures.counts)
    (count_ends (answers_of (world_in asked) asked.bounded.service.program)))))
