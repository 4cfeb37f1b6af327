use Rattle.std.proofs.Common.{◌≡◌, ◌++◌, map, drop}
use Rattle.seccomp_compile.specs.Rules.{value_in}
use Rattle.seccomp_compile.proofs.values.collect_values.Given as goal

abbrev pub invariant-loop-case : goal.invariant-loop-case
invariant-loop-case l = l.values.items ++ map value_in (drop l.case-index l.cases) ≡ map value_in l.cases
