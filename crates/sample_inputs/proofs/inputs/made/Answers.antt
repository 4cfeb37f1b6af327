use Rattle.std.proofs.Common.{Ok, sym, ap, ◌∙◌}
use Rattle.sample_inputs.proofs.CallsRead.{calls_read}
use Rattle.sample_inputs.proofs.inputs.made.Goals as goal

pub returns-clause-reads_the_texts : goal.returns-clause-reads_the_texts
returns-clause-reads_the_texts c = record {
  of_the_unit = c.in_ok-unit.ensures.read;
  of_the_calls = calls_read ∙ ap Ok (sym c.in_ok-calls.ensures.table);
  of_the_site = c.in_ok-site.ensures.read;
}
