use Rattle.std.proofs.Common.{arith, ◌∙◌, refl}
use Rattle.unit_inputs.proofs.Texts.{items_all, items_cut, items_more, nothing_printed, text_at_error}
use Rattle.filter_command.specs.Lines.{filter_text}
use Rattle.filter_command.proofs.printing.print_filters.Goals as goal

pub loop-filter-init : goal.loop-filter-init
loop-filter-init g c = record { printed = nothing_printed c.args.out.now; same = refl }

pub loop-filter-preserved : goal.loop-filter-preserved
loop-filter-preserved g c = record {
  printed = items_more filter_text c.args.filters.now c.loop-filter.filter-index c.filter-item.result c.filter-item.result _ _ _
      (omega arith) c.filter-item.is c.loop-filter.invariant.printed c.in_ok-print_filter.ensures.prints_the_text;
  same = c.in_ok-print_filter.ensures.fault_rose.no_other_fault ∙ c.loop-filter.invariant.same;
}

pub returns-in_err-print_filter-clause-prints_the_text : goal.returns-in_err-print_filter-clause-prints_the_text
returns-in_err-print_filter-clause-prints_the_text g c =
    text_at_error _ _ _ c.in_err-print_filter.field-0.0 c.from_residual.result c.from_residual.ensures.1
    (items_cut filter_text c.args.filters.now c.loop-filter.filter-index c.filter-item.result c.filter-item.result _ _ _
    c.in_err-print_filter.field-0.0 (omega arith) c.filter-item.is c.loop-filter.invariant.printed
    c.in_err-print_filter.ensures.prints_the_text)

pub returns-clause-prints_the_text : goal.returns-clause-prints_the_text
returns-clause-prints_the_text g c = items_all filter_text c.args.filters.now c.loop-filter.filter-index _ _ (omega arith)
    c.loop-filter.invariant.printed
