use Rattle.site_table.specs.Reading.{site_of}
use Rattle.site_table.proofs.SiteRead.{said_if_ok, told_if_err}
use Rattle.site_table.proofs.reader.read_site.Goals as goal

pub returns-clause-reads_the_site : goal.returns-clause-reads_the_site
returns-clause-reads_the_site c = said_if_ok (site_of c.args.bytes.now) c.read_bytes.result c.read_bytes.ensures

pub returns-clause-first_fault : goal.returns-clause-first_fault
returns-clause-first_fault c = told_if_err (site_of c.args.bytes.now) c.read_bytes.result c.read_bytes.ensures
