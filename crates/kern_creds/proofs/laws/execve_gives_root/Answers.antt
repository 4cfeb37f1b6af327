use Rattle.kern_creds.proofs.ExecRules.{root_all, root_permitted, root_effective}
use Rattle.kern_creds.proofs.laws.execve_gives_root.Goals as goal

pub returns : goal.returns
returns c = record {
  all_without_no_new_privs = root_all;
  permitted_ones_with_it = root_permitted;
  effective_with_the_effective_uid = root_effective;
}
