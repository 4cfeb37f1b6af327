use Rattle.std.proofs.Common.{◌∙◌}
use Rattle.exposure_score.proofs.Members.{begins_at}
use Rattle.exposure_score.proofs.policy_file.reader.read_tests.Goals as goal

pub loop-id-init : goal.loop-id-init
loop-id-init c =
    begins_at c.args.members.now.entries c.into_iter-id-iterator.result c.new-tests.result.items
    (c.into_iter-id-iterator.ensures.into_iter_gives ∙ c.iter-id-items.ensures.rest) c.new-tests.ensures.items
