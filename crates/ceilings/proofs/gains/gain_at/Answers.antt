use Rattle.std.proofs.Common.{◌∙◌, ap, sym}
use Rattle.kernel_ways.specs.kernel_laws.Bound.{when, file_gain, can_run}
use Rattle.kernel_ways.specs.kernel_laws.Launched.{launch_of}
use Rattle.ceilings.proofs.Unions.{when_none, nothing_is_none}
use Rattle.ceilings.proofs.gains.gain_at.Goals as goal
use Rattle.ceilings.proofs.gains.gain_at.Goals.{else-bits-ne0-via-then-bits-ne0+else-can_run, else-bits-ne0-via-else-bits-ne0}

pub returns-else-bits-ne0 : goal.returns-else-bits-ne0
returns-else-bits-ne0 c = elim c.else-bits-ne0.branch [
  | else-bits-ne0-via-then-bits-ne0+else-can_run w ↦
      c.empty.ensures.none ∙ ap (λ b. when b (file_gain (launch_of c.args.world.now) c.args.row.now))
      (sym (sym w.can_run.ensures.runs ∙ w.if-can_run.false))
  | else-bits-ne0-via-else-bits-ne0 w ↦
      c.empty.ensures.none
      ∙ when_none (can_run (launch_of c.args.world.now) c.args.power c.args.row.now) (file_gain (launch_of c.args.world.now) c.args.row.now)
      (sym c.file_gain-gain.ensures ∙ sym c.bits.ensures.word ∙ w.if-bits-ne0.false ∙ nothing_is_none)
]
