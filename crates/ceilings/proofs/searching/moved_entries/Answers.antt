use Rattle.std.proofs.Common.{Bool, List, ◌++◌, ◌+◌, ◌∙◌, ap, drop, map}
use Rattle.kernel_ways.specs.kern_mounts.Mounts.{steps_of}
use Rattle.ceilings.specs.Leads.{is_moved}
use Rattle.ceilings.proofs.Leading.{moved_more}
use Rattle.ceilings.proofs.searching.moved_entries.Goals as goal

pub loop-at-preserved : goal.loop-at-preserved
loop-at-preserved c =
    ap (λ (list : List Bool). list ++ map is_moved (drop (c.loop-at.at + 1) (steps_of c.args.table.now))) c.in_ok-push.ensures.items
    ∙ moved_more (steps_of c.args.table.now) c.loop-at.at c.entry.result.now c.loop-at.list.items c.is_moved.result c.entry.ensures.entry
    c.is_moved.ensures
    ∙ c.loop-at.invariant
