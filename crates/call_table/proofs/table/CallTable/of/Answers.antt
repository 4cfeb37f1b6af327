use Rattle.std.proofs.Common.{◌∙◌, sym, subst, List}
use Rattle.call_table.specs.declared.call_names.kernel.Kernel.TheVariants.{Base}
use Rattle.call_table.specs.declared.listed.CallLine.{CallLine}
use Rattle.call_table.specs.ByNumber.{AscendsByNumber}
use Rattle.call_table.proofs.table.CallTable.of.Goals as goal

pub invariant_of-result : goal.invariant_of-result
invariant_of-result c = record {
  whole = record { sound = c.requires.sound; launches = sym c.in_default.ensures; kernel = Base; by_kernel = c.requires.by_kernel };
  by_number = subst (λ (calls : List CallLine). AscendsByNumber calls c.in_ok-by_number_order.by_number_order.items)
      c.lines.ensures.all_in_order c.in_ok-by_number_order.ensures.ascending;
  second_by_number = subst (λ (calls : List CallLine). AscendsByNumber calls c.in_ok-second_by_number.second_by_number.items)
      (c.lines_of.ensures.lines_or_none ∙ c.second_calls.ensures.calls_of_second) c.in_ok-second_by_number.ensures.ascending;
}
