use Rattle.std.proofs.Common.{subst}
use Rattle.unit_inputs.specs.command_answers.Printing.{PutsText}
use Rattle.unit_inputs.proofs.command_answers.finishing.finish_error.Goals as goal

pub returns-in-Refused : goal.returns-in-Refused
returns-in-Refused g c = record {
  finishes =
      rw c.in-Refused.is
      (record {
        put = c.put_lines-put.result;
        puts_the_text =
            subst (λ text. PutsText g.K.Sink.taken g.K.Sink.puts c.args.out.now c.put_lines-put.new.out text c.put_lines-put.result)
            c.as_slice.ensures.value c.put_lines-put.ensures.puts_the_text;
        cause = c.put_lines-put.ensures.fault_rose;
        ends = c.status_after.ensures.as_it_was_put;
      });
}
