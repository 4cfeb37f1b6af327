use Rattle.dropin_merge.proofs.Ranked as ranked
use Rattle.dropin_merge.proofs.resolving.resolve.Goals as goal

pub returns-clause-winning_is_by_rank : goal.returns-clause-winning_is_by_rank
returns-clause-winning_is_by_rank g c = ranked.winning_is_by_rank
