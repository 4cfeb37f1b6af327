use Rattle.std.proofs.Common.{take}
use Rattle.launcher.specs.Answers.{AreProgramsOf}
use Rattle.launcher.proofs.filters.compile_all.Given as goal

abbrev pub invariant-loop-filter : goal.invariant-loop-filter
invariant-loop-filter l = AreProgramsOf (take l.filter-index l.filters) l.made.items
