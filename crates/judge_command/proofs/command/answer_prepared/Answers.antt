use Rattle.std.proofs.Common.{Err, Ok, ap, ◌∙◌}
use Rattle.asked_service.specs.unit_inputs.command_answers.Printing.{status_of_put}
use Rattle.asked_service.proofs.OfUnitInputs.Texts.{printed_text}
use Rattle.judge_command.proofs.command.answer_prepared.Goals as goal

pub returns-in-Ok : goal.returns-in-Ok
returns-in-Ok g c = record {
  finishes = record {
    result = Ok c.in-Ok.outcome;
    starts = c.in-Ok.ensures.starts;
    reads_nothing = c.in-Ok.ensures.reads_nothing;
    finishes = record {
      put = c.print_report-put.result;
      puts_the_text = printed_text g.K.Sink.taken g.K.Sink.puts _ _ _ c.print_report-put.result c.print_report-put.ensures.prints_the_text;
      cause = c.print_report-put.ensures.fault_rose;
      ends = c.status_after.ensures.as_it_was_put ∙ ap (status_of_put c.print_report-put.result) c.status_behind-status.ensures.ends_so;
    };
  };
}

pub returns-in-Err : goal.returns-in-Err
returns-in-Err g c = record {
  finishes = record {
    result = Err c.in-Err.stop;
    starts = c.in-Err.ensures.starts;
    reads_nothing = c.in-Err.ensures.reads_nothing;
    finishes = c.finish_error.ensures.finishes;
  };
}

pub print_report-put-requires : goal.print_report-put-requires
print_report-put-requires g c = record { can_be_told = c.in-Ok.ensures.starts.1.1 }
