use Rattle.std.proofs.Common.{ap, length}
use Rattle.std.specs.Prelude.{flat_map}
use Rattle.unit_inputs.proofs.Texts.{printed_text, text_as, text_short, text_then}
use Rattle.filter_command.specs.Lines.{count_line, filter_text, text_of}
use Rattle.filter_command.proofs.Ends.{count_ends}
use Rattle.filter_command.proofs.command.FiltersReady.print.Goals as goal

pub returns-in_err-print_filters-clause-puts_the_text : goal.returns-in_err-print_filters-clause-puts_the_text
returns-in_err-print_filters-clause-puts_the_text g c =
    printed_text g.K.Sink.taken g.K.Sink.puts _ _ _ c.from_residual.result
    (text_as g.K.Sink.taken g.K.Sink.puts _ _ (text_of c.list-filters.result.now) _ c.from_residual.result
    (ap text_of c.list-filters.ensures.all_in_order)
    (text_short _ _ (flat_map filter_text c.list-filters.result.now)
    (count_line (length c.list-filters.result.now)) c.in_err-print_filters.field-0.0 c.from_residual.result c.from_residual.ensures.1
    c.in_err-print_filters.ensures.prints_the_text))

pub returns-clause-puts_the_text : goal.returns-clause-puts_the_text
returns-clause-puts_the_text g c =
    printed_text g.K.Sink.taken g.K.Sink.puts _ _ _ c.put_line.result
    (text_as g.K.Sink.taken g.K.Sink.puts _ _ (text_of c.list-filters.result.now) _ c.put_line.result
    (ap text_of c.list-filters.ensures.all_in_order)
    (text_then _ _ _ (flat_map filter_text c.list-filters.result.now)
    (count_line (length c.list-filters.result.now)) c.put_line.result c.in_ok-print_filters.ensures.prints_the_text
    (c.put_line.ensures.prints_the_line _ c.count_line.ensures.counts (count_ends (length c.list-filters.result.now)))))
