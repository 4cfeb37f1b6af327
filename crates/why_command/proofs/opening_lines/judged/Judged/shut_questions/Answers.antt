use Rattle.std.proofs.Common.{◌≡◌, ◌∙◌, List, Vec, Global, subst}
use Rattle.std.specs.Prelude.{IfOk}
use Rattle.asked_service.specs.Asking.{world_in}
use Rattle.asked_service.specs.kernel_laws.Launched.{launch_of}
use Rattle.asked_service.specs.kernel_laws.declared.question_types.question.Question.{Question}
use Rattle.why_command.specs.opening_lines.ByRule.{shut_among}
use Rattle.why_command.proofs.opening_lines.judged.Judged.shut_questions.Goals as goal

pub shut-requires : goal.shut-requires
shut-requires c = record {
  before = c.requires.judged.is_asked.bounded;
  all = c.as_slice-list.ensures.value ∙ c.requires.judged.is_asked.questions;
}

pub returns : goal.returns
returns c = record {
  denied_of_the_unit = subst (λ (list : List Question). IfOk c.shut.result
      (λ (shut : Vec Question Global). shut.items ≡ shut_among (launch_of (world_in c.args.self.now.asked)) list))
      c.as_slice-list.ensures.value c.shut.ensures.by_the_rule;
}
