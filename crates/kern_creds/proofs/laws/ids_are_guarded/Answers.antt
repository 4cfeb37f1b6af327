use Rattle.kern_creds.proofs.GuardedCalls.{own_uids, own_gids, same_groups}
use Rattle.kern_creds.proofs.laws.ids_are_guarded.Goals as goal

pub returns : goal.returns
returns c = record {
  own_uids = λ creds now call no_cap plain e. (own_uids creds call no_cap plain).held now e;
  own_gids = λ creds now call no_cap plain e. (own_gids creds call no_cap plain).held now e;
  own_groups = λ creds now call no_cap e. (same_groups creds call no_cap).held now e;
}
