use Rattle.std.proofs.Common.{◌++◌, sym, ◌∙◌}
use Rattle.kernel_laws.specs.abs_path.Paths.{parts_of}
use Rattle.kernel_laws.specs.kern_mounts.Entry.{leads_to}
use Rattle.kernel_laws.specs.kern_mounts.Mounts.{steps_of}
use Rattle.reach_paths.proofs.Looping.{any_here, any_not_here}
use Rattle.reach_paths.proofs.covers.is_covered.Goals as goal

pub returns-then-leads_to : goal.returns-then-leads_to
returns-then-leads_to c = record {
  some_place_leads_there = any_here (leads_to (c.args.front.now ++ parts_of c.args.rest.now))
      (steps_of c.args.table.now) c.loop-at.at c.entry.result.now c.entry.ensures.entry (sym c.leads_to.ensures ∙ c.if-leads_to.true)
      ∙ c.loop-at.invariant;
}

pub loop-at-preserved : goal.loop-at-preserved
loop-at-preserved c =
    any_not_here (leads_to (c.args.front.now ++ parts_of c.args.rest.now))
    (steps_of c.args.table.now) c.loop-at.at c.entry.result.now c.entry.ensures.entry (sym c.leads_to.ensures ∙ c.if-leads_to.false)
    ∙ c.loop-at.invariant
