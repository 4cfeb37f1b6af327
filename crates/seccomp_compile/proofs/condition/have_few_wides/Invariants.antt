use Rattle.std.proofs.Common.{◌≡◌, ◌+◌, drop}
use Rattle.std.specs.List.{sum_by}
use Rattle.call_rules.specs.Sizes.{wide_len}
use Rattle.seccomp_compile.proofs.condition.have_few_wides.Given as goal

abbrev pub invariant-loop-call : goal.invariant-loop-call
invariant-loop-call l = sum_by (λ call. wide_len call.wide) l.calls + l.left
    ≡ 16 + sum_by (λ call. wide_len call.wide) (drop l.call-index l.calls)
