use Rattle.kern_creds.proofs.Rings.{closed_by_exec, had_by_call}
use Rattle.kern_creds.proofs.laws.rings.Goals as goal

pub returns : goal.returns
returns c = record { closed_by_execve = closed_by_exec; set_up_or_had = had_by_call }
