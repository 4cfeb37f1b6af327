use Rattle.kernel_model.proofs.Sharing.{fork_shares, clone_gives_a_copy, unshare_gives_a_copy}
use Rattle.kernel_model.proofs.laws.shared_tables.Goals as goal

pub returns-clause-fork_shares : goal.returns-clause-fork_shares
returns-clause-fork_shares c = fork_shares

pub returns-clause-clone_gives_a_copy : goal.returns-clause-clone_gives_a_copy
returns-clause-clone_gives_a_copy c = clone_gives_a_copy

pub returns-clause-unshare_gives_a_copy : goal.returns-clause-unshare_gives_a_copy
returns-clause-unshare_gives_a_copy c = unshare_gives_a_copy
