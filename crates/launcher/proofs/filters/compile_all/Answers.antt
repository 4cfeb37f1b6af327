use Rattle.std.proofs.Common.{arith}
use Rattle.launcher.proofs.Programs.{programs_more}
use Rattle.launcher.proofs.filters.compile_all.Goals as goal

pub loop-filter-preserved : goal.loop-filter-preserved
loop-filter-preserved c = programs_more c.args.filters.now c.loop-filter.filter-index c.filter-item.result c.loop-filter.made.items _
    c.in_ok-compile_one.field-0 (omega arith) c.filter-item.is c.loop-filter.invariant c.in_ok-compile_one.ensures
    c.in_ok-push.ensures.items
