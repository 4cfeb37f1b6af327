use Rattle.sample_inputs.proofs.SiteRead.{site_reads}
use Rattle.sample_inputs.proofs.laws.sites_are_read.Goals as goal

pub returns : goal.returns
returns c = record { site = site_reads }
