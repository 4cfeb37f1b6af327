use Rattle.kern_creds.proofs.ExecRules.{keepcaps_cleared, saved_uid, saved_gid, owner_effective, group_effective, rest_stays}
use Rattle.kern_creds.proofs.laws.execve_leaves_by_rule.Goals as goal

pub returns : goal.returns
returns c = record {
  keepcaps_is_cleared = keepcaps_cleared;
  saved_uid_is_the_effective = saved_uid;
  saved_gid_is_the_effective = saved_gid;
  owner_becomes_effective = owner_effective;
  group_becomes_effective = group_effective;
  the_rest_stays = rest_stays;
}
