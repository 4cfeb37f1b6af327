use Rattle.std.proofs.Common.{refl}
use Rattle.sample_inputs.specs.Calls.{calls_text, calls_lines}
use Rattle.sample_inputs.proofs.calls.calls_text.Goals as goal

pub returns : goal.returns
unfolding calls_text calls_lines
returns c = refl
