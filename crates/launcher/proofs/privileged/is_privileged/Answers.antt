use Rattle.std.proofs.Common.{sym}
use Rattle.kernel_laws.proofs.OfKernMounts.Entries.{entry_leads}
use Rattle.launcher.proofs.privileged.is_privileged.Goals as goal

pub shows_marked-requires : goal.shows_marked-requires
shows_marked-requires c = entry_leads c.args.plan.now c.args.program.now c.in-Some.entry.now (sym c.in-Some.ensures)
