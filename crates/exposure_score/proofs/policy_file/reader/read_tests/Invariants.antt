use Rattle.std.proofs.Common.{map}
use Rattle.serde_json.specs.View.{members_view}
use Rattle.exposure_score.specs.policy_file.Reading.{members_of}
use Rattle.exposure_score.proofs.Members.{IsReading, member_at}
use Rattle.exposure_score.proofs.policy_file.reader.read_tests.Given as goal

abbrev pub invariant-loop-id : goal.invariant-loop-id
invariant-loop-id l = IsReading (members_of (members_view l.members.entries)) (map member_at l.id-iterator) l.tests.items
