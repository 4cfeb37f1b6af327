use Rattle.question_text.proofs.Finding.{all_printed_of, each_listed}
use Rattle.question_text.proofs.printed.print_questions.Goals as goal

pub print_list-requires : goal.print_list-requires
print_list-requires c = record {
  asked = each_listed c.args.calls.now c.args.site.now c.in_ok-list.list.items c.as_slice.result.now c.in_ok-list.ensures.in_their_order
      c.as_slice.ensures.value;
}

pub returns : goal.returns
returns c = record {
  prints_the_list =
      all_printed_of c.args.calls.now c.args.site.now c.in_ok-list.list.items c.as_slice.result.now c.print_list.result
      c.in_ok-list.ensures.in_their_order c.as_slice.ensures.value
      c.print_list.ensures.in_order c.print_list.ensures.texts c.one_reading.ensures.one_reading;
}
