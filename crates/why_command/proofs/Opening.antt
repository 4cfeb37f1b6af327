-- What is opened by the rule is what is opened.
use Rattle.std.proofs.Common.{◌≡◌, Bool, true, false, List, [], ◌∷◌, ◌++◌, ap, ap₂, refl, subst}
use Rattle.std.specs.Prelude.{◌&&◌, not, map, if◌then◌else◌, Contains}
use Rattle.std.specs.List.{All, AllByRecursion}
use Rattle.std.proofs.lemmas.List.Elements.{All-contains_itself, All-filter}
use Rattle.asked_service.specs.abs_path.Paths.{Path}
use Rattle.asked_service.specs.call_table.Table as calls
use Rattle.asked_service.specs.open_calls.chosen_calls.Chosen.{calls_for}
use Rattle.asked_service.specs.Answers.{Denied, Open, IsTrueAnswer}
use Rattle.asked_service.specs.ByRule.{AnswersAreTrue, answer_of}
use Rattle.asked_service.specs.kernel_laws.Bound.{is_open}
use Rattle.asked_service.specs.kernel_laws.Launched.{Launch, launch_of}
use Rattle.asked_service.specs.kernel_laws.declared.question_types.question.Question.{Question}
use Rattle.asked_service.specs.kernel_laws.Questions.{questions}
use Rattle.asked_service.specs.kernel_model.World.{World}
use Rattle.asked_service.specs.kernel_ways.Laws.{IsServedWorld}
use Rattle.asked_service.specs.kernel_ways.Offers.{RunsProgram}
use Rattle.asked_service.specs.site_table.Table.{Site}
use Rattle.why_command.specs.opening_lines.ByRule.{open_among, opened_by, shut_among}
use Rattle.why_command.specs.opening_lines.Opening.{OpensOf, no_question, was_open, stays_denied, is_opened}

-- what is open of those that are denied before is opened
pub open_of_shut : (before after : Launch) (list : List Question) → open_among after (shut_among before list) ≡ opened_by before after list
open_of_shut before after [] = refl
open_of_shut before after (question ∷ list) = by (is_open before question) (open_of_shut before after list) where
  kept : (is : Bool) → open_among after (shut_among before list) ≡ opened_by before after list
      → (if is then question ∷ open_among after (shut_among before list) else open_among after (shut_among before list))
      ≡ (if is then question ∷ [] else []) ++ opened_by before after list
  kept true more = ap (λ rest. question ∷ rest) more
  kept false more = more

  by : (was : Bool) → open_among after (shut_among before list) ≡ opened_by before after list
      → open_among after (if not was then question ∷ shut_among before list else shut_among before list)
      ≡ (if not was && is_open after question then question ∷ [] else []) ++ opened_by before after list
  by true more = more
  by false more = kept (is_open after question) more

-- those that are denied are among all
pub shut_listed : (launch : Launch) (list : List Question) → All (Contains list) (shut_among launch list)
shut_listed launch list = All-filter (λ question. not (is_open launch question)) (Contains list) list (All-contains_itself list)

module _ (before after : World) (first second : Path) where
  opens : (list : List Question) → AllByRecursion (IsTrueAnswer before) (map (answer_of (launch_of before) first) list)
      → AllByRecursion (IsTrueAnswer after) (map (answer_of (launch_of after) second) list)
      → OpensOf before after list (opened_by (launch_of before) (launch_of after) list)
  opens [] one other = no_question
  opens (question ∷ list) one other = by (is_open (launch_of before) question) (is_open (launch_of after) question) one.0 other.0
      (opens list one.1 other.1)
    where
      by : (was is : Bool) → IsTrueAnswer before
          (if was then Open question (calls_for (launch_of before) first question) else Denied question)
          → IsTrueAnswer after (if is then Open question (calls_for (launch_of after) second question) else Denied question)
          → OpensOf before after list (opened_by (launch_of before) (launch_of after) list)
          → OpensOf before after (question ∷ list)
          ((if not was && is then question ∷ [] else []) ++ opened_by (launch_of before) (launch_of after) list)
      by true is one other more = was_open question list _ (calls_for (launch_of before) first question, one) more
      by false true one other more = is_opened question list _ one (calls_for (launch_of after) second question, other) more
      by false false one other more = stays_denied question list _ one other more

-- of launched services over the same tables
pub opens_exactly : AnswersAreTrue → (table : calls.Table) (site : Site) (before after : World) (first second : Path)
    → IsServedWorld before → RunsProgram (launch_of before) first → IsServedWorld after → RunsProgram (launch_of after) second
    → before.calls ≡ table → before.site ≡ site → after.calls ≡ table → after.site ≡ site
    → OpensOf before after (questions table site) (opened_by (launch_of before) (launch_of after) (questions table site))
opens_exactly answers table site before after first second served_before runs_before served runs calls_before site_before calls_after
    site_after =
    opens before after first second (questions table site)
    (subst (λ list. AllByRecursion (IsTrueAnswer before) (map (answer_of (launch_of before) first) list))
    (ap₂ questions calls_before site_before) (answers before first served_before runs_before).each_is_true)
    (subst (λ list. AllByRecursion (IsTrueAnswer after) (map (answer_of (launch_of after) second) list))
    (ap₂ questions calls_after site_after) (answers after second served runs).each_is_true)
