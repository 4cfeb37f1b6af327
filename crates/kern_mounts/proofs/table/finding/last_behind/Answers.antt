use Rattle.std.proofs.Common.{◌-◌, ◌∙◌, ap, arith, sym}
use Rattle.abs_path.specs.Prefix.{is_prefix}
use Rattle.kern_mounts.specs.declared.step.Mount.{Mount}
use Rattle.kern_mounts.proofs.Known.{none_from, last_here}
use Rattle.kern_mounts.proofs.table.finding.last_behind.Goals as goal

pub loop-index-preserved : goal.loop-index-preserved
loop-index-preserved c = (
  omega arith,
  omega (arith, c.loop-index.invariant.1),
  none_from c.args.mounts.now c.args.path.now c.loop-index.index (c.loop-index.index - 1) c.index-mounts-index.result (omega arith)
      (omega (arith, c.loop-index.invariant.1)) c.index-mounts-index.is
      (ap (λ (m : Mount). is_prefix m.step.place c.args.path.now) c.index-mounts-index.is ∙ sym c.if-is_prefix.ensures.by_whole_parts)
      c.loop-index.invariant.2,
)

pub returns-then-is_prefix : goal.returns-then-is_prefix
returns-then-is_prefix c =
    last_here c.args.mounts.now c.args.path.now c.loop-index.index (c.loop-index.index - 1) c.index-mounts-index.result (omega arith)
    (omega (arith, c.loop-index.invariant.1)) c.index-mounts-index.is
    (ap (λ (m : Mount). is_prefix m.step.place c.args.path.now) c.index-mounts-index.is ∙ sym c.if-is_prefix.ensures.by_whole_parts)
    c.loop-index.invariant.2
