use Rattle.std.proofs.Common.{◌≡◌, true, false, sym, ap, ◌∙◌}
use Rattle.std.proofs.lemmas.Bool.{OnTrue_from, OnFalse_from}
use Rattle.std.specs.Cmp.Lexicographic.{slice_cmp}
use Rattle.std.specs.Ordering.{nat_cmp, is_lt}
use Rattle.seccomp_compile.specs.bpf_code.Effects.{words_of}
use Rattle.filter_check.specs.Order.{IsNotAfter}
use Rattle.filter_check.proofs.Sorting.{before_by_cmp, behind_by_cmp}
use Rattle.filter_check.proofs.order.comes_before.Goals as goal

pub returns-clause-before : goal.returns-clause-before
returns-clause-before c =
    let one = words_of c.args.one.now in
    let other = words_of c.args.other.now in
    let is : c.is_lt.result ≡ is_lt (slice_cmp nat_cmp one other) = cc in
    OnTrue_from c.is_lt.result (IsNotAfter one other) (λ before. before_by_cmp one other (sym is ∙ before))

pub returns-clause-behind : goal.returns-clause-behind
returns-clause-behind c =
    let one = words_of c.args.one.now in
    let other = words_of c.args.other.now in
    let is : c.is_lt.result ≡ is_lt (slice_cmp nat_cmp one other) = cc in
    OnFalse_from c.is_lt.result (IsNotAfter other one) (λ behind. behind_by_cmp one other (sym is ∙ behind))
