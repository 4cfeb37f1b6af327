use Rattle.exposure_score.specs.policy_file.Reading.{policy_of}
use Rattle.exposure_score.proofs.Bytes.{said_if_ok, told_if_err}
use Rattle.exposure_score.proofs.policy_file.reader.read_policy.Goals as goal

pub returns-clause-reads_the_policy : goal.returns-clause-reads_the_policy
returns-clause-reads_the_policy c = said_if_ok (policy_of c.args.bytes.now) c.read_bytes.result c.read_bytes.ensures

pub returns-clause-first_fault : goal.returns-clause-first_fault
returns-clause-first_fault c = told_if_err (policy_of c.args.bytes.now) c.read_bytes.result c.read_bytes.ensures
