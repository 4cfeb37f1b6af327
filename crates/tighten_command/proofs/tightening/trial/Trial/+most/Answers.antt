use Rattle.std.proofs.Common.{arith}
use Rattle.tighten_command.proofs.Searched.{most_of}
use Rattle.tighten_command.proofs.tightening.trial.Trial.+most.Goals as goal

pub returns-then-len-few : goal.returns-then-len-few
returns-then-len-few g t c = record {
  none_can_be_added =
      most_of _ c.args.held.set.items c.in_ok-kept.kept c.in_ok-kept.ensures
      (omega (arith, c.len-few.ensures, c.len.ensures, c.if-len-few.true));
}
