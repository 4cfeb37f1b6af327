use Rattle.std.proofs.Common.{List, [], ◌∷◌, ap, refl, subst, sym, ◌∙◌}
use Rattle.std.specs.Prelude.{Contains}
use Rattle.std.specs.List.{All}
use Rattle.asked_service.specs.Asking.{world_in}
use Rattle.asked_service.specs.kernel_laws.Launched.{launch_of}
use Rattle.asked_service.specs.kernel_laws.declared.question_types.question.Question.{Question}
use Rattle.why_command.specs.opening_lines.ByRule.{open_among}
use Rattle.why_command.specs.opening_lines.Judging.{inputs_in}
use Rattle.why_command.proofs.Opening.{open_of_shut, shut_listed}
use Rattle.why_command.proofs.Trying.{all_after, opens_it}
use Rattle.why_command.proofs.opening_lines.judged.Judged.opens_by.Goals as goal

pub opened-requires : goal.opened-requires
opened-requires c =
    let asked = c.args.self.now.asked in
    record {
      after = c.requires.bounded;
      listed = subst (λ (own : List Question). All (Contains own) c.args.shut.now)
          (all_after c.args.self.now c.requires.judged c.args.place c.args.after.now.service c.requires.starts c.args.after.now refl
          asked.questions.items refl)
          (subst (λ (own : List Question). All (Contains asked.questions.items) own) (sym c.requires.shut)
          (shut_listed (launch_of (world_in asked)) asked.questions.items));
    }

pub returns : goal.returns
returns c =
    let asked = c.args.self.now.asked in
    let after = launch_of c.args.after.now.service.world in
    opens_it c.args.self.now c.requires.judged c.args.place c.args.after.now.service c.requires.starts c.args.after.now refl
    asked.questions.items refl c.truths.ensures.answers c.in_ok-opened.field-0
    (c.in_ok-opened.ensures.by_the_rule ∙ ap (open_among after) c.requires.shut
    ∙ open_of_shut (launch_of (world_in asked)) after asked.questions.items)
