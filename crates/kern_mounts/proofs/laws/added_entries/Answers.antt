use Rattle.std.proofs.Common.{cond, Some, ap, ◌∙◌}
use Rattle.kern_mounts.specs.Entry.{entry_of}
use Rattle.kern_mounts.proofs.Entries.{entry_push}
use Rattle.kern_mounts.proofs.laws.added_entries.Goals as goal

pub returns-clause-at_its_place_and_below : goal.returns-clause-at_its_place_and_below
returns-clause-at_its_place_and_below c = λ table step path leads. entry_push table step path
    ∙ ap (λ b. cond b (Some step) (entry_of table path)) leads

pub returns-clause-elsewhere : goal.returns-clause-elsewhere
returns-clause-elsewhere c = λ table step path leads. entry_push table step path ∙ ap (λ b. cond b (Some step) (entry_of table path)) leads
