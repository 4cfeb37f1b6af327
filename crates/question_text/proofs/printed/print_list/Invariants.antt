use Rattle.std.proofs.Common.{◌≡◌, map, take}
use Rattle.report_text.specs.Wording.{question_words}
use Rattle.question_text.proofs.printed.print_list.Given as goal

abbrev pub invariant-loop-question : goal.invariant-loop-question
invariant-loop-question l = record {
  in_order : map (λ one. one.question) l.printed.items ≡ take l.question-index l.list;
  texts : map (λ one. one.text.items) l.printed.items ≡ map (λ question. question_words l.calls l.site question)
      (take l.question-index l.list);
}
