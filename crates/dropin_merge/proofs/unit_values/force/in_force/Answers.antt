use Rattle.std.proofs.Common.{arith}
use Rattle.std.proofs.lemmas.List.Sums.{suffix_len-le-length}
use Rattle.dropin_merge.specs.unit_values.Values.{is_filled}
use Rattle.dropin_merge.proofs.unit_values.force.in_force.Goals as goal

pub overflow_sub-result : goal.overflow_sub-result
overflow_sub-result c = omega (arith, c.count_in_force.ensures, suffix_len-le-length is_filled c.args.values.now)
