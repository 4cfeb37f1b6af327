use Rattle.std.proofs.Common.{arith}
use Rattle.std.specs.Prelude.{not}
use Rattle.std.proofs.lemmas.List.Sums.{suffix_len-le-length}
use Rattle.dropin_merge.specs.unit_values.Listed.{is_reset}
use Rattle.filter_settings.proofs.lines.in_force.Goals as goal

pub overflow_sub-result : goal.overflow_sub-result
overflow_sub-result c = omega (arith, c.count_in_force.ensures, suffix_len-le-length (λ one. not (is_reset one)) c.args.all.now)
