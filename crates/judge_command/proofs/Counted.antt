-- The counts of answers.
use Rattle.std.proofs.Common.{◌≡◌, ◌∙◌, ℕ, suc, ◌+◌, ◌-◌, ◌<◌, ◌≤◌, Bool, true, false, List, [], ◌∷◌, ◌++◌, ap, ap₂, refl, sym, arith}
use Rattle.std.proofs.Common.{length, get_or, take, length-append}
use Rattle.std.specs.Prelude.{cond, filter, map, not, ◌↔◌, if◌then◌else◌}
use Rattle.std.proofs.lemmas.List.{length-map, take_more}
use Rattle.std.proofs.lemmas.List.Elements.{filter-append}
use Rattle.asked_service.specs.abs_path.Paths.{Path}
use Rattle.asked_service.specs.open_calls.chosen_calls.Chosen.{calls_for}
use Rattle.asked_service.specs.kernel_laws.Bound.{is_open}
use Rattle.asked_service.specs.kernel_laws.Launched.{Launch}
use Rattle.asked_service.specs.kernel_laws.Questions.{questions}
use Rattle.asked_service.specs.kernel_laws.declared.question_types.verdict.Verdict.{Verdict}
use Rattle.asked_service.specs.kernel_laws.declared.question_types.verdict.Verdict.TheVariants as verdict
use Rattle.asked_service.specs.kernel_laws.declared.question_types.question.Question.{Question}
use Rattle.asked_service.specs.Answers.{Denied, Open, is_denied}
use Rattle.asked_service.proofs.AnswerCounts.{all_are, both, few}
use Rattle.judge_command.specs.Report.{count_line}
use Rattle.asked_service.specs.report_text.Answers.{summary_line}
use Rattle.asked_service.specs.Asking.{IsAsked, launch_in, world_in}
use Rattle.judge_command.specs.Asked.{IsVerdict, denied_among, denied_once}
use Rattle.asked_service.specs.ByRule.{answer_of, answers_of}
use Rattle.asked_service.specs.declared.asking.Asked.{Asked}

module _ (launch : Launch) (program : Path) where
  -- those that are denied are those whose questions are not open
  pub denied_are : (list : List Question) → length (filter (λ question. not (is_open launch question)) list)
      ≡ length (filter is_denied (map (answer_of launch program) list))
  denied_are [] = refl
  denied_are (question ∷ list) = by (is_open launch question) (denied_are list) where
    by : (b : Bool) → length (filter (λ question. not (is_open launch question)) list)
        ≡ length (filter is_denied (map (answer_of launch program) list))
        → length (cond (not b) (question ∷ filter (λ question. not (is_open launch question)) list)
        (filter (λ question. not (is_open launch question)) list))
        ≡ length (filter is_denied
        ((if b then Open question (calls_for launch program question) else Denied question) ∷ map (answer_of launch program) list))
    by true h = h
    by false h = ap suc h

-- one question more
once : (asked : Asked) (question : Question) (found : Verdict) → IsVerdict asked question found
    → length (filter (λ question. not (is_open (launch_in asked) question)) (question ∷ [])) ≡ denied_once found
once asked question found is = by found (is_open (launch_in asked) question) is where
  by : (found : Verdict) (b : Bool) → (found ≡ verdict.Open) ↔ (b ≡ true) → length (cond (not b) (question ∷ []) []) ≡ denied_once found
  by verdict.Denied true is = (let same : verdict.Denied ≡ verdict.Open = is.1 refl in cc)
  by verdict.Denied false is = refl
  by verdict.Open true is = refl
  by verdict.Open false is = (let same : false ≡ true = is.0 refl in cc)

pub at_most_one : (found : Verdict) → denied_once found ≤ 1
at_most_one verdict.Denied = omega arith
at_most_one verdict.Open = omega arith

pub one_more : (asked : Asked) (list : List Question) (i : ℕ) (d question : Question) (found : Verdict) → i < length list
    → question ≡ get_or list i d → IsVerdict asked question found
    → denied_among asked (take i list) + denied_once found ≡ denied_among asked (take (i + 1) list)
one_more asked list i d question found lt is verdict' =
    ap (λ n. denied_among asked (take i list) + n) (sym (once asked question found verdict'))
    ∙ sym (length-append (filter (λ question. not (is_open (launch_in asked) question)) (take i list))
    (filter (λ question. not (is_open (launch_in asked) question)) (question ∷ [])))
    ∙ ap length (sym (filter-append (λ question. not (is_open (launch_in asked) question)) (take i list) (question ∷ [])))
    ∙ ap (λ one. denied_among asked (take i list ++ one ∷ [])) is
    ∙ ap (denied_among asked) (sym (take_more list i d lt))

-- of all that is asked
module _ (asked : Asked) (is : IsAsked asked) where
  pub those_denied : denied_among asked asked.questions.items
      ≡ length (filter is_denied (answers_of (world_in asked) asked.bounded.service.program))
  those_denied =
      denied_are (launch_in asked) asked.bounded.service.program asked.questions.items
      ∙ ap (λ list. length (filter is_denied (map (answer_of (launch_in asked) asked.bounded.service.program) list))) is.questions

  -- the line of the count, by how many are denied of so many
  pub count_is : (denied count : ℕ) → denied ≡ denied_among asked asked.questions.items → count ≡ length asked.questions.items
      → summary_line denied (count - denied) ≡ count_line (answers_of (world_in asked) asked.bounded.service.program)
  count_is denied count told all =
      let answers = answers_of (world_in asked) asked.bounded.service.program in
      let closed : denied ≡ length (filter is_denied answers) = told ∙ those_denied in
      let whole : length (filter is_denied answers) + length (filter (λ answer. not (is_denied answer)) answers) ≡ length answers = both is_denied answers in
      let rest : count - denied ≡ length (filter (λ answer. not (is_denied answer)) answers) = omega (arith, closed, whole, all, all_are asked is) in
      ap₂ summary_line closed rest

  pub few_are : (denied count : ℕ) → denied ≡ denied_among asked asked.questions.items → count ≡ length asked.questions.items
      → denied ≤ count
  few_are denied count told all =
      let those : denied_among asked asked.questions.items ≤ length asked.questions.items = few (λ question. not (is_open (launch_in asked) question)) asked.questions.items in
      omega (arith, told, all, those)
