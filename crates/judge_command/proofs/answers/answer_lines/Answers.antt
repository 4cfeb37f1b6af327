use Rattle.std.proofs.Common.{◌≡◌, ◌∙◌, subst}
use Rattle.std.specs.Prelude.{IfOk}
use Rattle.asked_service.specs.kernel_laws.declared.question_types.verdict.Verdict.TheVariants.{Denied}
use Rattle.asked_service.specs.kernel_laws.Bound.{is_open}
use Rattle.asked_service.specs.Asking.{launch_in}
use Rattle.asked_service.proofs.Lent.{chosen_for_it, is_served, lists_it, opens_it, runs_it}
use Rattle.judge_command.proofs.Texts.{denied_text, not_open, own_line, own_lines}
use Rattle.judge_command.proofs.answers.answer_lines.Goals as goal

pub verdict_line-requires : goal.verdict_line-requires
verdict_line-requires c = record {
  asked = rw (c.call_table-table.ensures.told, c.site_table-site.ensures.told) c.requires.listed;
}

pub open_lines-requires : goal.open_lines-requires
open_lines-requires c = record {
  asked = rw (c.call_table-table.ensures.told, c.site_table-site.ensures.told) c.requires.listed;
}

pub calls-requires : goal.calls-requires
calls-requires c =
    let asked = c.args.asked.now in
    let service = c.args.service.now in
    record {
      served = is_served asked service c.requires.its_service c.requires.asked;
      program = runs_it asked service c.requires.its_service c.requires.asked;
      asked = lists_it asked service c.requires.its_service c.args.question.now c.requires.listed;
      reachable = opens_it asked service c.requires.its_service c.args.question.now (c.requires.found.0 c.in-Open.is);
    }

pub returns-in-Denied : goal.returns-in-Denied
returns-in-Denied c =
    let asked = c.args.asked.now in
    let question = c.args.question.now in
    subst (λ text. IfOk c.verdict_line.result (λ told. told.items ≡ text))
    (denied_text asked question (not_open c.args.found (is_open (launch_in asked) question) c.requires.found c.in-Denied.is))
    (own_line asked question c.args.found Denied c.call_table-table.result.now c.site_table-site.result.now c.verdict_line.result
    c.call_table-table.ensures.told c.site_table-site.ensures.told c.in-Denied.is c.verdict_line.ensures.tells_the_verdict)

pub returns-in_ok-list-in-Open : goal.returns-in_ok-list-in-Open
returns-in_ok-list-in-Open c =
    let asked = c.args.asked.now in
    let question = c.args.question.now in
    own_lines asked question c.as_slice.result.now c.call_table-table.result.now c.site_table-site.result.now c.open_lines.result
    c.call_table-table.ensures.told c.site_table-site.ensures.told
    (c.as_slice.ensures.value ∙ c.in_ok-list-in-Open.ensures.the_choice ∙ chosen_for_it asked c.args.service.now c.requires.its_service question) (c.requires.found.0 c.in-Open.is) c.open_lines.ensures.verdict_and_calls
