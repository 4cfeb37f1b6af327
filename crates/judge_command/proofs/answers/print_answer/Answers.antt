use Rattle.asked_service.specs.Asking.{world_in}
use Rattle.judge_command.specs.Asked.{answer_in}
use Rattle.judge_command.proofs.Ends.{answer_ends}
use Rattle.judge_command.proofs.answers.print_answer.Goals as goal

pub returns-clause-prints_the_text : goal.returns-clause-prints_the_text
returns-clause-prints_the_text g c =
    let asked = c.args.asked.now in
    c.put_line.ensures.prints_the_line _ c.answer_lines.ensures
    (answer_ends (world_in asked).calls (world_in asked).site (answer_in asked c.args.question.now))
