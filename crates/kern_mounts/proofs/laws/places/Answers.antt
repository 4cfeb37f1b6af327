use Rattle.kern_mounts.proofs.Entries.{entry_leads, longest_decides}
use Rattle.kern_mounts.proofs.laws.places.Goals as goal

pub returns-clause-leads_to_the_path : goal.returns-clause-leads_to_the_path
returns-clause-leads_to_the_path c = entry_leads

pub returns-clause-longest_where_ascending : goal.returns-clause-longest_where_ascending
returns-clause-longest_where_ascending c = longest_decides
