use Rattle.kern_creds.proofs.Runs.{mark_by_run, exec_gives_nothing, permitted_by_run}
use Rattle.kern_creds.proofs.laws.no_new_privs_holds.Goals as goal

pub returns : goal.returns
returns c = record {
  stays_on = mark_by_run;
  execve_gives_nothing = exec_gives_nothing;
  permitted_never_grows = permitted_by_run;
}
