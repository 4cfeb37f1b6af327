use Rattle.std.proofs.Common.{sym, ◌∙◌, false}
use Rattle.kernel_ways.specs.kernel_laws.Reach.{fits}
use Rattle.kernel_ways.specs.kern_mounts.Mounts.{steps_of}
use Rattle.kernel_ways.proofs.OfReachPaths.Looping.{serves_here, forbids_here, hides_here}
use Rattle.ceilings.proofs.searching.first_from.Goals as goal
use Rattle.ceilings.proofs.searching.first_from.Goals.{else-allows-via-then-allows+else-shows, else-allows-via-else-allows}

pub returns-then-shows : goal.returns-then-shows
returns-then-shows c =
    serves_here false c.args.row.now (fits c.args.wish) (steps_of c.args.search.now.table.now) c.loop-at.at c.entry-entry.result.now
    c.entry-entry.ensures.entry
    (sym c.allows.ensures ∙ c.if-allows.true) (sym c.shows.ensures ∙ c.if-shows.true)
    ∙ c.loop-at.invariant

pub loop-at-preserved : goal.loop-at-preserved
loop-at-preserved c = elim c.else-allows.branch [
  | else-allows-via-then-allows+else-shows w ↦ hides_here false c.args.row.now (fits c.args.wish)
      (steps_of c.args.search.now.table.now) c.loop-at.at c.entry-entry.result.now c.entry-entry.ensures.entry
      (sym c.allows.ensures ∙ w.if-allows.true) (sym w.shows.ensures ∙ w.if-shows.false)
      ∙ c.loop-at.invariant
  | else-allows-via-else-allows w ↦ forbids_here false c.args.row.now (fits c.args.wish)
      (steps_of c.args.search.now.table.now) c.loop-at.at c.entry-entry.result.now c.entry-entry.ensures.entry
      (sym c.allows.ensures ∙ w.if-allows.false)
      ∙ c.loop-at.invariant
]
