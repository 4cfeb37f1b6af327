use Rattle.kernel_laws.proofs.PlainCalls as laws
use Rattle.kernel_laws.proofs.plain_calls.Goals as goal

pub returns : goal.returns
returns c = record { never_both = laws.shown_is_not_denied }
