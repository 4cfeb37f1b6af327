use Rattle.site_table.proofs.Exact.{exact_rows}
use Rattle.site_table.proofs.Found.{accepted_holds}
use Rattle.site_table.proofs.laws.accepted_sites.Goals as goal

pub returns : goal.returns
returns c = record { holds = accepted_holds; exact_rows = exact_rows }
