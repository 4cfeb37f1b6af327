use Rattle.std.proofs.Common.{◌∙◌, sym}
use Rattle.ceilings.specs.kern_mounts.Mounts.{steps_of}
use Rattle.judge.proofs.Exposing.{shown_here, not_shown_here}
use Rattle.judge.proofs.blindness.exposes.Goals as goal

pub returns-then-shows_below : goal.returns-then-shows_below
returns-then-shows_below c =
    shown_here c.args.uncover c.args.folder.now (steps_of c.args.table.now) c.loop-at.at c.entry.result.now c.entry.ensures.entry
    (sym c.shows_below.ensures ∙ c.if-shows_below.true)
    ∙ c.loop-at.invariant

pub loop-at-preserved : goal.loop-at-preserved
loop-at-preserved c =
    not_shown_here c.args.uncover c.args.folder.now (steps_of c.args.table.now) c.loop-at.at c.entry.result.now c.entry.ensures.entry
    (sym c.shows_below.ensures ∙ c.if-shows_below.false)
    ∙ c.loop-at.invariant
