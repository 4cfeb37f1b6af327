use Rattle.std.proofs.Common.{List, rules, subst}
use Rattle.std.specs.List.Sorted.{IsPermutation}
use Rattle.std.proofs.lemmas.List.Sorted.{IsNonDecreasingBy-from_sort_by_key}
use Rattle.call_table.specs.declared.by_number.Numbered.{Numbered}
use Rattle.call_table.proofs.Numbering.{ascends}
use Rattle.call_table.proofs.by_number.by_number.Goals as goal

pub returns : goal.returns
returns c =
    record {
      ascending =
          ascends c.args.lines.now c.sort_unstable_by_key.new.self.items c.requires
          (subst (λ (order : List Numbered). IsPermutation order c.sort_unstable_by_key.new.self.items) c.in_ok-order.ensures
          c.sort_unstable_by_key.ensures.permutation)
          (IsNonDecreasingBy-from_sort_by_key (λ numbered. numbered.number) c.sort_unstable_by_key.new.self.items
          c.sort_unstable_by_key.ensures.sorted (λ a r f called. (search rules, search rules)));
    }
