use Rattle.std.proofs.Common.{sym, ◌∙◌}
use Rattle.kernel_laws.specs.kern_mounts.Mounts.{steps_of}
use Rattle.reach_paths.specs.Needs.{allows}
use Rattle.reach_paths.proofs.Looping.{serves_here, forbids_here, hides_here}
use Rattle.reach_paths.proofs.first.first_that_serves.Goals as goal
use Rattle.reach_paths.proofs.first.first_that_serves.Goals.{else-allows-via-then-allows+else-shows, else-allows-via-else-allows}

pub returns-then-shows : goal.returns-then-shows
returns-then-shows c =
    serves_here c.args.uncover c.args.row.now (allows c.args.need) (steps_of c.args.table.now) c.loop-at.at c.entry.result.now c.entry.ensures.entry
    (sym c.allows.ensures ∙ c.if-allows.true) (sym (c.shows.ensures c.entry.result.now c.entry.ensures.entry) ∙ c.if-shows.true)
    ∙ c.loop-at.invariant

pub loop-at-preserved : goal.loop-at-preserved
loop-at-preserved c = elim c.else-allows.branch [
  | else-allows-via-then-allows+else-shows w ↦ hides_here c.args.uncover c.args.row.now (allows c.args.need)
      (steps_of c.args.table.now) c.loop-at.at c.entry.result.now c.entry.ensures.entry
      (sym c.allows.ensures ∙ w.if-allows.true) (sym (w.shows.ensures c.entry.result.now c.entry.ensures.entry) ∙ w.if-shows.false)
      ∙ c.loop-at.invariant
  | else-allows-via-else-allows w ↦ forbids_here c.args.uncover c.args.row.now (allows c.args.need)
      (steps_of c.args.table.now) c.loop-at.at c.entry.result.now c.entry.ensures.entry
      (sym c.allows.ensures ∙ w.if-allows.false)
      ∙ c.loop-at.invariant
]
