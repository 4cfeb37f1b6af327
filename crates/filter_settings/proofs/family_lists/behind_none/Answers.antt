use Rattle.std.proofs.Common.{arith}
use Rattle.std.specs.Prelude.{not}
use Rattle.std.proofs.lemmas.List.Sums.{suffix_len-le-length}
use Rattle.filter_settings.specs.FamilyLists.{is_none_line}
use Rattle.filter_settings.proofs.family_lists.behind_none.Goals as goal

pub overflow_sub-result : goal.overflow_sub-result
overflow_sub-result c = omega (arith, c.count_behind_none.ensures, suffix_len-le-length (λ one. not (is_none_line one)) c.args.lines.now)
