-- The printed facts of a launched service.
use Rattle.std.specs.Prelude.{ℕ}
use Rattle.judge.specs.kernel_laws.Launched.{first_of}
use Rattle.judge.specs.kernel_model.World.{World}
use Rattle.report_text.specs.declared.launches.Launched.{Launched as Line}

-- the effective ids of the first process, whether it has no_new_privs, and the steps that its launch took
abbrev pub told_of : World → ℕ → Line
told_of world steps = record {
  uid = (first_of world).creds.uids.effective;
  gid = (first_of world).creds.gids.effective;
  no_new_privs = (first_of world).creds.no_new_privs;
  steps = steps;
}
