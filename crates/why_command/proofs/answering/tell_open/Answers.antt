use Rattle.std.proofs.Common.{refl, subst, ◌≡◌, ◌++◌}
use Rattle.std.specs.Prelude.{IfOk, flat_map}
use Rattle.why_command.specs.deciding_lines.Tried.{tried_of}
use Rattle.asked_service.specs.kernel_laws.declared.question_types.verdict.Verdict.TheVariants as verdict
use Rattle.asked_service.specs.Answers.{Open}
use Rattle.asked_service.specs.AnswerLines.{answer_lines}
use Rattle.asked_service.specs.report_text.Answers.{call_line, verdict_line}
use Rattle.why_command.specs.Prints.{TellsService}
use Rattle.why_command.proofs.Told.{lists_it, maker_lists, maker_opens, maker_runs, maker_served, told_as, tells_open}
use Rattle.why_command.proofs.answering.tell_open.Goals as goal

pub of-requires : goal.of-requires
of-requires c = record { launched = c.requires.can_be_asked.is_bounded.served.launched; its_own_ceiling = c.requires.can_be_asked.is_bounded.ceiling }

pub calls-requires : goal.calls-requires
calls-requires c =
    let tried = tried_of c.args.trial.now in
    let bounded = c.args.bounded.now in
    let maker = c.in_ok-service.service in
    let is = c.in_ok-service.ensures.of_the_launch in
    record {
      served = maker_served bounded maker is c.requires.can_be_asked.is_bounded.served;
      program = maker_runs bounded maker is c.requires.can_be_asked.program;
      asked = maker_lists bounded maker is tried.question
          (lists_it tried bounded c.requires.can_be_asked tried.question c.requires.can_be_tried);
      reachable = maker_opens bounded maker is tried.question c.requires.is_open;
    }

pub returns : goal.returns
returns c =
    let tried = tried_of c.args.trial.now in
    let bounded = c.args.bounded.now in
    let list = c.in_ok-list.list in
    told_as (TellsService tried bounded.service) (answer_lines tried.inputs.calls tried.inputs.site (Open tried.question list.items))
    (tells_open bounded c.in_ok-service.service c.in_ok-service.ensures.of_the_launch tried c.args.trial.now.question refl
    c.requires.is_so list.items c.in_ok-list.ensures.shown c.in_ok-list.ensures.made_by_the_service _ refl)
    c.open_lines.result
    (subst (λ own. IfOk c.open_lines.result (λ text. text.items
    ≡ verdict_line tried.inputs.calls tried.inputs.site tried.question verdict.Open ++ flat_map (call_line tried.inputs.calls) own))
    c.deref.ensures.value c.open_lines.ensures.verdict_and_calls)
